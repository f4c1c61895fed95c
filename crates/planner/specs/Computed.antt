-- Walk and ledger as functions that compute. That the walk agrees with the relation, and every run from an opened book, are theorems.
--     Tests                  tests for a question's two propositions
--     outcome_of, leads      the test that settles a visit, and where it leaves the walk
--     walks k q t b n best   the visits made within the budget b where n is to be visited next, and where they lead
--     tell k s l c           the answer to a call, and the ledger that it leaves
--     run k s l cs           the answers to a list of calls, and the last ledger
use Rattle.std.specs.Prelude.{ℕ, zero, suc, ◌+◌, Bool, true, false, cond, not, List, [], ◌∷◌, Some, None, Option, slice_set}
use Rattle.mesh.specs.declared.refusal.Refusal.{Refusal}
use Rattle.mesh.specs.declared.shape.Shape.{Shape}
use Rattle.mesh.specs.Kind.{Kind}
use Rattle.mesh.specs.Table.{row_of}
use Rattle.planner.specs.declared.walk.Outcome.{Outcome}
use Rattle.planner.specs.declared.walk.Outcome.TheVariants as by
use Rattle.planner.specs.declared.calls.Call.{Call}
use Rattle.planner.specs.declared.calls.Call.TheVariants as call
use Rattle.planner.specs.declared.calls.Lent.{Lent}
use Rattle.planner.specs.declared.calls.Answer.{Answer}
use Rattle.planner.specs.declared.calls.Answer.TheVariants as says
use Rattle.planner.specs.Grants.{Slot, rights_in, without, only}
use Rattle.planner.specs.Walk.{Node, keep, Question, after, Place, at}
use Rattle.planner.specs.Search.{kept, revoked, ring_question}
use Rattle.planner.specs.Ledger.{Search, Ledger, book, searching, slot_at, node_left, refusal, admitted, freshness, reading, started, moved, plan}
use Rattle.planner.specs.FlowTests.{has_ring, to_decide}

pub record Tests : Type 0 where
  pub hopeless : Node → Bool
  pub solved : Node → Bool

-- the tests on rings
abbrev pub ring_tests : {W : Type 0} → Shape → List (Slot W) → List ℕ → Tests
ring_tests s xs ds = record {
  hopeless = λ n. has_ring s (rights_in s (only (kept ds n) xs));
  solved = λ n. not (has_ring s (rights_in s (without (revoked ds n) xs)));
}

-- the first test
abbrev pub is_no_less : {W : Type 0} → Kind W → Question W → Option Node → Node → Bool
is_no_less k q None n = false
is_no_less k q (Some b) n = k.at_most (q.weight b) (q.weight n)

abbrev pub outcome_of : {W : Type 0} → Kind W → Question W → Tests → Node → Option Node → Outcome
outcome_of k q t n b = cond (is_no_less k q b n) by.NoLess (cond (t.hopeless n) by.Hopeless (cond (t.solved n) by.BestPlan by.Opened))

abbrev pub leads : Outcome → Node → Option Node → Place
leads by.NoLess n b = at (after n) b
leads by.Hopeless n b = at (after n) b
leads by.BestPlan n b = at (after n) (Some n)
leads by.Opened n b = at (Some (keep ∷ n)) b

abbrev pub walks : {W : Type 0} → Kind W → Question W → Tests → ℕ → Option Node → Option Node → ℕ × Place
walks k q t zero next b = (0, at next b)
walks k q t (suc budget) None b = (0, at None b)
walks k q t (suc budget) (Some n) b =
    let p = leads (outcome_of k q t n b) n b in
    let w = walks k q t budget p.next p.best in
    (suc w.0, w.1)

-- the walk of the search over the grants ds of the slots xs
abbrev pub walked : {W : Type 0} → Kind W → Shape → List (Slot W) → List ℕ → ℕ → Option Node → Option Node → ℕ × Place
walked k s xs ds budget next b = walks k (ring_question k s xs ds) (ring_tests s xs ds) budget next b

-- an advance to v visits and the place p
abbrev pub moves : {W : Type 0} → List (Slot W) → Search W → ℕ → Place → Answer W × Ledger W
moves xs q v p = (says.Advanced (record { visits = v; ended = not (node_left p) }), searching xs (moved q v p))

-- a take of the best plan, which an ended walk has
abbrev pub takes : {W : Type 0} → Kind W → List (Slot W) → Search W → Option Node → Answer W × Ledger W
takes k xs q None = (says.Misuse, searching xs q)
takes k xs q (Some n) = (plan k q n, book (without (revoked q.deciding n) xs))

-- calls that are admitted and not refused; the others are not made
abbrev pub makes_on_book : {W : Type 0} → Kind W → Shape → List (Slot W) → Call → Answer W × Ledger W
makes_on_book k s xs (call.Write d p r a) = (says.Written (freshness (slot_at s xs d p)), book (slice_set xs (row_of s d p) (Some (record { right = r; weight = k.of a }))))
makes_on_book k s xs (call.Erase d p) = (says.Erased, book (slice_set xs (row_of s d p) None))
makes_on_book k s xs (call.Read d p) = (reading k (slot_at s xs d p), book xs)
makes_on_book k s xs call.Start = (says.Started, searching xs (started xs (to_decide s xs)))
makes_on_book k s xs (call.Advance b) = (says.Misuse, book xs)
makes_on_book k s xs call.Take = (says.Misuse, book xs)
makes_on_book k s xs call.Abandon = (says.Misuse, book xs)

abbrev pub makes_on_search : {W : Type 0} → Kind W → Shape → List (Slot W) → Search W → Call → Answer W × Ledger W
makes_on_search k s xs q (call.Write d p r a) = (says.Misuse, searching xs q)
makes_on_search k s xs q (call.Erase d p) = (says.Misuse, searching xs q)
makes_on_search k s xs q (call.Read d p) = (says.Misuse, searching xs q)
makes_on_search k s xs q call.Start = (says.Misuse, searching xs q)
makes_on_search k s xs q (call.Advance b) =
    let w = walked k s q.slots q.deciding b q.place.next q.place.best in
    moves xs q (q.visits + w.0) w.1
makes_on_search k s xs q call.Take = takes k xs q q.place.best
makes_on_search k s xs q call.Abandon = (says.Abandoned, book xs)

abbrev pub makes : {W : Type 0} → Kind W → Shape → Ledger W → Call → Answer W × Ledger W
makes k s (book xs) c = makes_on_book k s xs c
makes k s (searching xs q) c = makes_on_search k s xs q c

-- what a call is told, by whether it is admitted and whether it is refused
abbrev pub replies : {W : Type 0} → Kind W → Shape → Ledger W → Call → Bool → Option Refusal → Answer W × Ledger W
replies k s l c false why = (says.Misuse, l)
replies k s l c true (Some why) = (says.Refused why, l)
replies k s l c true None = makes k s l c

abbrev pub tell : {W : Type 0} → Kind W → Shape → Ledger W → Lent → Answer W × Ledger W
tell k s l c = replies k s l c.call (admitted l c.call) (refusal k s l c.call c.rows)

abbrev pub run : {W : Type 0} → Kind W → Shape → Ledger W → List Lent → List (Answer W) × Ledger W
run k s l [] = ([], l)
run k s l (c ∷ cs) =
    let one = tell k s l c in
    let rest = run k s one.1 cs in
    (one.0 ∷ rest.0, rest.1)
