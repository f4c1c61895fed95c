-- The law that runs obey.
--     Cut k s l cs as m a m' bs last   a run of the calls cs from l to last, cut at a call that is told a and leads from m to m':
--                                      as are the answers before it, bs those after it
--     Origin k s l cs as xs q          the search q, which has the book with the slots xs after the calls cs from l, started within them
--                                      on the slots that it copied
--     Exact k q plan xs ys c           a plan taken is what it is said to be: the search q, its answer, the slots xs right before and ys right after, the grants c
--     Cheapest k s q w                 no set of grants that stood when the search q started, and whose removal leaves no ring, weighs less than w
--     Taking k s cs as plan bs last    a plan taken within a run, and what is promised of it
--     Law k s cs as last               told, ringless, exact, cheapest and counted: of the calls cs, their answers as and the ledger that they lead to
use Rattle.std.specs.Prelude.{◌≡◌, ℕ, ◌+◌, false, T, List, [], ◌∷◌, ◌++◌, None, ◌≢◌, slice_index_or}
use Rattle.mesh.specs.declared.shape.Shape.{Shape}
use Rattle.mesh.specs.Kind.{Kind}
use Rattle.flow.specs.Flow.{Ring}
use Rattle.planner.specs.declared.calls.Lent.{Lent}
use Rattle.planner.specs.declared.calls.Plan.{Plan}
use Rattle.planner.specs.declared.calls.Answer.{Answer}
use Rattle.planner.specs.declared.calls.Answer.TheVariants as says
use Rattle.planner.specs.Grants.{Slot, RowSet, rights_in, without, weight_of, number_of, standing}
use Rattle.planner.specs.Ledger.{Search, Ledger, book, searching, slots_of, is_vacant, opened, fresh_number, started, Told, Run}

-- ---- runs, cut at a call

pub record Cut {W : Type 0} (k : Kind W) (s : Shape) (l : Ledger W) (cs : List Lent) (earlier : List (Answer W)) (from : Ledger W) (a : Answer W) (to : Ledger W)
    (later : List (Answer W)) (last : Ledger W) : Type 0 where
  pub before : List Lent
  pub call : Lent
  pub rest : List Lent
  pub calls : cs ≡ before ++ (call ∷ rest)
  pub until : Run k s l before earlier from
  pub here : Told k s from call a to
  pub on : Run k s to rest later last

pub record Origin {W : Type 0} (k : Kind W) (s : Shape) (l : Ledger W) (cs : List Lent) (answers : List (Answer W)) (slots : List (Slot W)) (q : Search W) : Type 0 where
  pub earlier : List (Answer W)
  pub later : List (Answer W)
  pub answered : answers ≡ earlier ++ (says.Started ∷ later)
  -- the start comes to a book with the slots that the search copied
  pub cut : Cut k s l cs earlier (book q.slots) says.Started (searching q.slots (started q.slots q.deciding)) later (searching slots q)
  -- and no other start comes after it
  pub alone : (as₁ as₂ : List (Answer W)) → later ≢ as₁ ++ (says.Started ∷ as₂)

-- ---- plans

pub record Exact {W : Type 0} (k : Kind W) (q : Search W) (plan : Plan W) (slots left : List (Slot W)) (grants : RowSet) : Type 0 where
  -- they stood when the search started
  pub stood : (i : ℕ) → T (grants i) → is_vacant (slice_index_or q.slots i None) ≡ false
  pub weight : plan.weight ≡ weight_of k grants q.slots
  pub number : plan.grants ≡ number_of grants q.slots
  pub visits : plan.visits ≡ q.visits
  -- no slot has changed since the start, and exactly theirs are emptied
  pub unchanged : slots ≡ q.slots
  pub emptied : left ≡ without grants slots

abbrev pub Cheapest : {W : Type 0} → Kind W → Shape → Search W → W → Type 0
Cheapest k s q w = (rival : RowSet) → (Ring (rights_in s (without rival q.slots)) → ⊥) → T (k.at_most w (weight_of k rival q.slots))

pub record Taking {W : Type 0} (k : Kind W) (s : Shape) (cs : List Lent) (earlier : List (Answer W)) (plan : Plan W) (later : List (Answer W)) (last : Ledger W) : Type 0 where
  -- the search that has the book at the take, the slots right before it, and those right after
  pub owner : Search W
  pub slots : List (Slot W)
  pub left : List (Slot W)
  pub cut : Cut k s (opened s) cs earlier (searching slots owner) (says.Taken plan) (book left) later last
  pub origin : Origin k s (opened s) cut.before earlier slots owner
  -- what is promised
  pub grants : RowSet
  pub ringless : Ring (rights_in s left) → ⊥
  pub exact : Exact k owner plan slots left grants
  pub cheapest : Cheapest k s owner plan.weight

-- ---- what answers tell

-- the grants that an answer tells of as new
abbrev pub came : {W : Type 0} → Answer W → ℕ
came (says.Refused why) = 0
came says.Misuse = 0
came (says.Written w) = fresh_number w
came says.Erased = 0
came (says.Read r w) = 0
came says.Started = 0
came (says.Advanced p) = 0
came (says.Taken p) = 0
came says.Abandoned = 0

-- the grants that an answer tells of as gone: one erased, or those of a plan taken
abbrev pub went : {W : Type 0} → Answer W → ℕ
went (says.Refused why) = 0
went says.Misuse = 0
went (says.Written w) = 0
went says.Erased = 1
went (says.Read r w) = 0
went says.Started = 0
went (says.Advanced p) = 0
went (says.Taken p) = p.grants
went says.Abandoned = 0

-- what the answers tell together
abbrev pub total : {W : Type 0} → (Answer W → ℕ) → List (Answer W) → ℕ
total f [] = 0
total f (a ∷ answers) = f a + total f answers

-- ---- the law

pub record Law {W : Type 0} (k : Kind W) (s : Shape) (cs : List Lent) (answers : List (Answer W)) (last : Ledger W) : Type 0 where
  pub told : Run k s (opened s) cs answers last
  -- ringless, exact and cheapest, wherever an answer is a plan taken
  pub fair : (earlier : List (Answer W)) (plan : Plan W) (later : List (Answer W))
      → answers ≡ earlier ++ (says.Taken plan ∷ later) → Taking k s cs earlier plan later last
  pub counted : standing (slots_of last) + total went answers ≡ total came answers
