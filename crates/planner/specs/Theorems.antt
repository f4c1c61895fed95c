-- What is proved of every walk and every run, as statements that contracts name.
--     EndsWithin k s xs ds m   over the grants ds of the slots xs, as many visits lead to one place; a walk makes at most m visits, goes on while
--                              a node is left, and ends with a best plan
--     WalksEnd k               every walk ends within 2^(n+1) − 1 visits, where n grants are to decide
--     WalksAgree k             the walk that computes is the walk of the relation, and the rows to decide that compute are those to decide
--     Settles k                the search's condition follows from the one before it, the test that settled the visit, and whether a keep is left to turn
--     RowsShow k               after every run, what row_in says: e and zero exactly where no grant stands; the first mark of a row to decide is the
--                              choice in the node to be visited next, undecided where that has none or no node is left; the second is held
--                              where the best plan revokes the row; all other marks are blank
--     OpensFit                 an open is refused 3 exactly if its size is out of range, else 4 exactly if rows are missing; else there is a table of that size
--     TestsAnswer              the tests that compute pass exactly where a ring stands, or a grant lies on one; and where a list passes, it is the flow order
--     RunsObey k               every run obeys the law
--     RunsAreTold k            every list of calls has one run, and it is the one that computes
use Rattle.std.specs.Prelude.{◌≡◌, ℕ, ◌+◌, ◌-◌, ◌*◌, ◌^◌, ◌<◌, ◌≤◌, true, false, T, ◌⊎◌, List, [], ◌∷◌, ◌++◌, length, Some, None, Option, slice_index, slice_index_or}
use Rattle.mesh.specs.declared.shape.Shape.{Shape}
use Rattle.mesh.specs.declared.refusal.Refusal.{Refusal}
use Rattle.mesh.specs.declared.refusal.Refusal.TheVariants.{WrongSize, ShortMemory}
use Rattle.mesh.specs.declared.right.Right.{Right}
use Rattle.mesh.specs.declared.right.Right.TheVariants.{Empty}
use Rattle.mesh.specs.declared.row.Choice.TheVariants.{Blank, Undecided}
use Rattle.mesh.specs.Kind.{Kind}
use Rattle.mesh.specs.Table.{InRange}
use Rattle.flow.specs.Flow.{In, placed, Ring, OnRing}
use Rattle.flow.specs.Order.{FlowOrder}
use Rattle.planner.specs.declared.calls.Lent.{Lent}
use Rattle.planner.specs.declared.calls.Answer.{Answer}
use Rattle.planner.specs.declared.walk.Outcome.{Outcome}
use Rattle.planner.specs.Grants.{Slot}
use Rattle.planner.specs.Walk.{Decision, keep, Node, Place, at, begun, Visit, Walked, Advanced, condition, settled, has_keep}
use Rattle.planner.specs.Search.{Decides, mark_of, is_revoke, choices_of, ring_question}
use Rattle.planner.specs.Ledger.{Search, Ledger, book, searching, slots_of, row_in, is_vacant, is_empty, open_refusal, opened, Run}
use Rattle.planner.specs.Law.{Law}
use Rattle.planner.specs.FlowTests.{has_ring, on_ring, to_decide, is_order}
use Rattle.planner.specs.Computed.{walked, run}

pub record EndsWithin {W : Type 0} (k : Kind W) (s : Shape) (xs : List (Slot W)) (ds : List ℕ) (most : ℕ) : Type 0 where
  -- no node has more choices than there are grants to decide
  pub fits : (v : ℕ) (p : Place) → Walked k (ring_question k s xs ds) v begun p → length (choices_of p.next) ≤ length ds
  pub few : (v : ℕ) (p : Place) → Walked k (ring_question k s xs ds) v begun p → v ≤ most
  pub onward : (v : ℕ) (n : Node) (b : Option Node) → Walked k (ring_question k s xs ds) v begun (at (Some n) b)
      → (t : Outcome) × (p : Place) × Visit k (ring_question k s xs ds) n b t p
  pub ends : (v : ℕ) × (p : Place) × Walked k (ring_question k s xs ds) v begun p × (p.next ≡ None)
  pub planned : (v : ℕ) (p : Place) → Walked k (ring_question k s xs ds) v begun p → p.next ≡ None → (n : Node) × (p.best ≡ Some n)
  pub one : (v : ℕ) (p p' : Place) → Walked k (ring_question k s xs ds) v begun p → Walked k (ring_question k s xs ds) v begun p' → p ≡ p'

abbrev pub WalksEnd : {W : Type 0} → Kind W → Type 0
WalksEnd {W} k = (s : Shape) (xs : List (Slot W)) (ds : List ℕ) → Decides s xs ds → EndsWithin k s xs ds (2 ^ (length ds + 1) - 1)

abbrev pub Settles : {W : Type 0} → Kind W → Type 0
Settles {W} k = (s : Shape) (xs : List (Slot W)) (ds : List ℕ) (n : Node) (b : Option Node) (t : Outcome) (p : Place)
    → Visit k (ring_question k s xs ds) n b t p → condition p.next ≡ settled (condition (Some n)) t (has_keep n)

-- the walk and the rows to decide that compute
pub record WalkAgrees {W : Type 0} (k : Kind W) (s : Shape) (xs : List (Slot W)) (ds : List ℕ) : Type 0 where
  pub advances : (budget before : ℕ) (next best : Option Node)
      → Advanced k (ring_question k s xs ds) budget before (at next best) (before + (walked k s xs ds budget next best).0) (walked k s xs ds budget next best).1
  pub no_other : (budget before visits : ℕ) (p p' : Place) → Advanced k (ring_question k s xs ds) budget before p visits p'
      → (visits ≡ before + (walked k s xs ds budget p.next p.best).0) × (p' ≡ (walked k s xs ds budget p.next p.best).1)
  pub decides : Decides s xs (to_decide s xs)
  pub no_others : Decides s xs ds → ds ≡ to_decide s xs

abbrev pub WalksAgree : {W : Type 0} → Kind W → Type 0
WalksAgree {W} k = (s : Shape) (xs : List (Slot W)) (ds : List ℕ) → WalkAgrees k s xs ds

-- the node's choices in row order
abbrev pub in_order : Node → List Decision
in_order [] = []
in_order (c ∷ n) = in_order n ++ (c ∷ [])

-- the marks of the rows while a search has the book
pub record Marked {W : Type 0} (k : Kind W) (l : Ledger W) (q : Search W) (choices : List Decision) : Type 0 where
  -- of the rows to decide, by the choices of the node to be visited next
  pub chosen : (j : ℕ) → j < length choices → (row_in k l (slice_index q.deciding j)).choice ≡ mark_of (Some (slice_index_or choices j keep))
  pub undecided : (j : ℕ) → length choices ≤ j → j < length q.deciding → (row_in k l (slice_index q.deciding j)).choice ≡ Undecided
  pub held : (j : ℕ) (b : Node) → j < length q.deciding → q.place.best ≡ Some b
      → (row_in k l (slice_index q.deciding j)).held ≡ is_revoke (Some (slice_index_or (in_order b) j keep))
  pub none_held : (i : ℕ) → q.place.best ≡ None → (row_in k l i).held ≡ false
  -- of all others
  pub blank : (i : ℕ) → (In i q.deciding → ⊥) → ((row_in k l i).choice ≡ Blank) × ((row_in k l i).held ≡ false)

-- the marks of all rows where the ledger stands
abbrev pub MarksOf : {W : Type 0} → Kind W → Ledger W → Type 0
MarksOf k (book xs) = (i : ℕ) → ((row_in k (book xs) i).choice ≡ Blank) × ((row_in k (book xs) i).held ≡ false)
MarksOf k (searching xs q) = Marked k (searching xs q) q (in_order (choices_of q.place.next))

-- what the rows show where the ledger stands
pub record Shown {W : Type 0} (k : Kind W) (l : Ledger W) : Type 0 where
  -- a row shows e exactly if its slot is empty, and zero then
  pub granted : (i : ℕ) → is_vacant (slice_index_or (slots_of l) i None) ≡ false → is_empty (row_in k l i).right ≡ false
  pub empty : (i : ℕ) → is_vacant (slice_index_or (slots_of l) i None) ≡ true → ((row_in k l i).right ≡ Empty) × ((row_in k l i).weight ≡ k.zero)
  pub marks : MarksOf k l

abbrev pub RowsShow : {W : Type 0} → Kind W → Type 0
RowsShow {W} k = (s : Shape) (cs : List Lent) (answers : List (Answer W)) (last : Ledger W) → Run k s (opened s) cs answers last → Shown k last

-- an open is refused 3, or refused 4, or fits, and each only where it must: so each exactly there
pub record OpenFits (devices points lent : ℕ) : Type 0 where
  pub size : open_refusal devices points lent ≡ Some WrongSize → InRange devices × InRange points → ⊥
  pub rows : open_refusal devices points lent ≡ Some ShortMemory → InRange devices × InRange points × (lent < devices * points)
  pub fits : open_refusal devices points lent ≡ None → (s : Shape) × (s.devices ≡ devices) × (s.points ≡ points) × (devices * points ≤ lent)
  pub no_other : (why : Refusal) → open_refusal devices points lent ≡ Some why → (why ≡ WrongSize) ⊎ (why ≡ ShortMemory)

abbrev pub OpensFit : Type 0
OpensFit = (devices points lent : ℕ) → OpenFits devices points lent

-- over the rights rs, listed row by row, of a table
pub record TestAnswers (s : Shape) (rs : List Right) : Type 0 where
  pub ring : T (has_ring s (placed s rs)) → Ring (placed s rs)
  pub ring_found : Ring (placed s rs) → T (has_ring s (placed s rs))
  pub on_ring_test : (d p : ℕ) → T (on_ring s (placed s rs) d p) → OnRing (placed s rs) d p
  pub on_ring_found : (d p : ℕ) → OnRing (placed s rs) d p → T (on_ring s (placed s rs) d p)
  pub order : (xs : List ℕ) → T (is_order s (placed s rs) xs) → FlowOrder (placed s rs) s.devices xs

abbrev pub TestsAnswer : Type 0
TestsAnswer = (s : Shape) (rs : List Right) → TestAnswers s rs

abbrev pub RunsObey : {W : Type 0} → Kind W → Type 0
RunsObey {W} k = (s : Shape) (cs : List Lent) (answers : List (Answer W)) (last : Ledger W) → Run k s (opened s) cs answers last → Law k s cs answers last

abbrev pub RunsAreTold : {W : Type 0} → Kind W → Type 0
RunsAreTold {W} k = (s : Shape) (cs : List Lent)
    → Run k s (opened s) cs (run k s (opened s) cs).0 (run k s (opened s) cs).1
    × ((answers : List (Answer W)) (last : Ledger W) → Run k s (opened s) cs answers last → (answers ≡ (run k s (opened s) cs).0) × (last ≡ (run k s (opened s) cs).1))
