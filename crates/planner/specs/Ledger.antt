-- The ledger: what each call answers and leaves, from the calls, their arguments and the number of rows lent alone.
--     Search W             the slots as they stood at the start, the rows to decide, the visits made, and the place of the walk
--     Ledger W             a slot for each row of the table; and, while a search has the book, that search
--     row_in k l i         what row i of the table shows where the ledger stands
--     open_refusal d p n   the first refusal of an open of d devices and p points with n rows lent
--     opened s             the ledger after an open that is not refused
--     admitted l c         the compiler admits the call: write, erase, read and start need the book, the others the search
--     refusal k s l c n    the first refusal of the call c with n rows lent, in checking order
--     Done k s l c a l'    a call that is not refused answers a and leaves l'
--     Told k s l c a l'    any call answers a and leaves l'
--     Run k s l cs as l'   the calls cs, one after the other, are told the answers as and lead from l to l'
use Rattle.std.specs.Prelude.{◌≡◌, ℕ, ◌+◌, ◌*◌, ◌^◌, Bool, true, false, cond, not, ◌&&◌, ◌||◌, List, [], ◌∷◌, replicate, Some, None, Option, ◌==◌, nat_le, nat_lt, slice_index_or, slice_set}
use Rattle.mesh.specs.declared.refusal.Refusal.{Refusal}
use Rattle.mesh.specs.declared.refusal.Refusal.TheVariants.{WrongSize, ShortMemory, OutsideTable, WrongRight, WrongAmount, NothingToErase, WrongBudget, NotEnded}
use Rattle.mesh.specs.declared.right.Right.{Right}
use Rattle.mesh.specs.declared.right.Right.TheVariants.{Empty, Read, Append, Both}
use Rattle.mesh.specs.declared.row.Row.{Row}
use Rattle.mesh.specs.declared.row.Choice.TheVariants.{Blank}
use Rattle.mesh.specs.declared.shape.Shape.{Shape}
use Rattle.mesh.specs.Kind.{Kind}
use Rattle.mesh.specs.Table.{rows_of, row_of}
use Rattle.planner.specs.declared.calls.Call.{Call}
use Rattle.planner.specs.declared.calls.Call.TheVariants as call
use Rattle.planner.specs.declared.calls.Lent.{Lent}
use Rattle.planner.specs.declared.calls.Written.{Written}
use Rattle.planner.specs.declared.calls.Written.TheVariants.{Fresh, Replaced}
use Rattle.planner.specs.declared.calls.Answer.{Answer}
use Rattle.planner.specs.declared.calls.Answer.TheVariants as says
use Rattle.planner.specs.Grants.{Slot, right_in, weight_in, without, weight_of, number_of}
use Rattle.planner.specs.Walk.{Node, Question, Place, begun, Advanced}
use Rattle.planner.specs.Search.{Decides, revoked, ring_question, first_mark, second_mark}

pub record Search (W : Type 0) : Type 0 where
  pub slots : List (Slot W)
  pub deciding : List ℕ
  pub visits : ℕ
  pub place : Place

pub data Ledger (W : Type 0) : Type 0 where
  book : List (Slot W) → Ledger W
  searching : List (Slot W) → Search W → Ledger W

-- the grants that stand
abbrev pub slots_of : {W : Type 0} → Ledger W → List (Slot W)
slots_of (book xs) = xs
slots_of (searching xs q) = xs

-- what row i of the table shows: the slot's right and weight, and the marks of the search that has the book
abbrev pub row_in : {W : Type 0} → Kind W → Ledger W → ℕ → Row W
row_in k (book xs) i = record { right = right_in (slice_index_or xs i None); weight = weight_in k (slice_index_or xs i None); choice = Blank; held = false }
row_in k (searching xs q) i = record {
  right = right_in (slice_index_or xs i None);
  weight = weight_in k (slice_index_or xs i None);
  choice = first_mark q.deciding q.place.next i;
  held = second_mark q.deciding q.place.best i;
}

-- ---- refusals

-- the first that applies
abbrev pub first : List (Bool × Refusal) → Option Refusal
first [] = None
first (x ∷ xs) = cond x.0 (Some x.1) (first xs)

-- a number of devices, or of points
abbrev pub in_range : ℕ → Bool
in_range n = nat_le 1 n && nat_le n 64

abbrev pub open_refusal : ℕ → ℕ → ℕ → Option Refusal
open_refusal devices points lent = first ((not (in_range devices && in_range points), WrongSize) ∷ (nat_lt lent (devices * points), ShortMemory) ∷ [])

-- the slot of a device and a point
abbrev pub slot_at : {W : Type 0} → Shape → List (Slot W) → ℕ → ℕ → Slot W
slot_at s xs d p = slice_index_or xs (row_of s d p) None

-- no grant stands in the slot
abbrev pub is_vacant : {W : Type 0} → Slot W → Bool
is_vacant None = true
is_vacant (Some x) = false

-- the right e
abbrev pub is_empty : Right → Bool
is_empty Empty = true
is_empty Read = false
is_empty Append = false
is_empty Both = false

-- the walk has not ended
abbrev pub node_left : Place → Bool
node_left p = elim p.next [ None ↦ false | Some n ↦ true ]

-- fewer rows are lent than the table has
abbrev pub too_few : Shape → ℕ → Bool
too_few s lent = nat_lt lent (rows_of s)

-- the device or the point is not in the table
abbrev pub outside : Shape → ℕ → ℕ → Bool
outside s d p = nat_le s.devices d || nat_le s.points p

-- the refusals of a call on the book; a call on the search is not admitted there, and nothing is checked
abbrev pub of_book : {W : Type 0} → Kind W → Shape → List (Slot W) → Call → ℕ → List (Bool × Refusal)
of_book k s xs (call.Write d p r a) n = (too_few s n, ShortMemory) ∷ (outside s d p, OutsideTable) ∷ (is_empty r, WrongRight) ∷ (not (k.admits a), WrongAmount) ∷ []
of_book k s xs (call.Erase d p) n = (too_few s n, ShortMemory) ∷ (outside s d p, OutsideTable) ∷ (is_vacant (slot_at s xs d p), NothingToErase) ∷ []
of_book k s xs (call.Read d p) n = (too_few s n, ShortMemory) ∷ (outside s d p, OutsideTable) ∷ []
of_book k s xs call.Start n = (too_few s n, ShortMemory) ∷ []
of_book k s xs (call.Advance b) n = []
of_book k s xs call.Take n = []
of_book k s xs call.Abandon n = []

-- the refusals of a call on the search; a call on the book is not admitted there
abbrev pub of_search : {W : Type 0} → Shape → Search W → Call → ℕ → List (Bool × Refusal)
of_search s q (call.Write d p r a) n = []
of_search s q (call.Erase d p) n = []
of_search s q (call.Read d p) n = []
of_search s q call.Start n = []
of_search s q (call.Advance b) n = (too_few s n, ShortMemory) ∷ (b == 0 || nat_lt (10 ^ 12) (q.visits + b), WrongBudget) ∷ []
of_search s q call.Take n = (too_few s n, ShortMemory) ∷ (node_left q.place, NotEnded) ∷ []
of_search s q call.Abandon n = (too_few s n, ShortMemory) ∷ []

abbrev pub refusal : {W : Type 0} → Kind W → Shape → Ledger W → Call → ℕ → Option Refusal
refusal k s (book xs) c n = first (of_book k s xs c n)
refusal k s (searching xs q) c n = first (of_search s q c n)

-- ---- calls that the compiler admits

-- a call on the book, not on a search
abbrev pub on_book : Call → Bool
on_book (call.Write d p r a) = true
on_book (call.Erase d p) = true
on_book (call.Read d p) = true
on_book call.Start = true
on_book (call.Advance b) = false
on_book call.Take = false
on_book call.Abandon = false

abbrev pub admitted : {W : Type 0} → Ledger W → Call → Bool
admitted (book xs) c = on_book c
admitted (searching xs q) c = not (on_book c)

-- ---- rules

abbrev pub opened : {W : Type 0} → Shape → Ledger W
opened s = book (replicate (rows_of s) None)

-- fresh where no grant stood
abbrev pub freshness : {W : Type 0} → Slot W → Written
freshness None = Fresh
freshness (Some x) = Replaced

-- the numbers that a write answers
abbrev pub fresh_number : Written → ℕ
fresh_number Fresh = 1
fresh_number Replaced = 0

-- e and zero for an empty slot
abbrev pub reading : {W : Type 0} → Kind W → Slot W → Answer W
reading k x = says.Read (right_in x) (weight_in k x)

-- a search that starts on the slots xs with the rows ds to decide
abbrev pub started : {W : Type 0} → List (Slot W) → List ℕ → Search W
started xs ds = record { slots = xs; deciding = ds; visits = 0; place = begun }

-- the search after an advance to v visits and the place p
abbrev pub moved : {W : Type 0} → Search W → ℕ → Place → Search W
moved q v p = record { slots = q.slots; deciding = q.deciding; visits = v; place = p }

-- the question that the search asks of its copy of the slots
abbrev pub asks : {W : Type 0} → Kind W → Shape → Search W → Question W
asks k s q = ring_question k s q.slots q.deciding

-- the answer to a take of the plan that the node n revokes
abbrev pub plan : {W : Type 0} → Kind W → Search W → Node → Answer W
plan k q n = says.Taken (record { weight = weight_of k (revoked q.deciding n) q.slots; grants = number_of (revoked q.deciding n) q.slots; visits = q.visits })

-- a rule for each call; while a search has the book its copy is equal to the slots, since no rule changes them
pub data Done {W : Type 0} (k : Kind W) (s : Shape) : Ledger W → Call → Answer W → Ledger W → Type 0 where
  write : {xs : List (Slot W)} {d p a : ℕ} {r : Right}
      → Done k s (book xs) (call.Write d p r a) (says.Written (freshness (slot_at s xs d p))) (book (slice_set xs (row_of s d p) (Some (record { right = r; weight = k.of a }))))
  erase : {xs : List (Slot W)} {d p : ℕ} → Done k s (book xs) (call.Erase d p) says.Erased (book (slice_set xs (row_of s d p) None))
  read : {xs : List (Slot W)} {d p : ℕ} → Done k s (book xs) (call.Read d p) (reading k (slot_at s xs d p)) (book xs)
  start : {xs : List (Slot W)} {ds : List ℕ} → Decides s xs ds → Done k s (book xs) call.Start says.Started (searching xs (started xs ds))
  advance : {xs : List (Slot W)} {q : Search W} {b v : ℕ} {p : Place} → Advanced k (asks k s q) b q.visits q.place v p
      → Done k s (searching xs q) (call.Advance b) (says.Advanced (record { visits = v; ended = not (node_left p) })) (searching xs (moved q v p))
  take : {xs : List (Slot W)} {q : Search W} {n : Node} → q.place.best ≡ Some n
      → Done k s (searching xs q) call.Take (plan k q n) (book (without (revoked q.deciding n) xs))
  abandon : {xs : List (Slot W)} {q : Search W} → Done k s (searching xs q) call.Abandon says.Abandoned (book xs)

-- a call that is not admitted, or refused, leaves the ledger as it is
pub data Told {W : Type 0} (k : Kind W) (s : Shape) (l : Ledger W) (c : Lent) : Answer W → Ledger W → Type 0 where
  misuse : admitted l c.call ≡ false → Told k s l c says.Misuse l
  refused : {why : Refusal} → admitted l c.call ≡ true → refusal k s l c.call c.rows ≡ Some why → Told k s l c (says.Refused why) l
  done : {a : Answer W} {l' : Ledger W} → admitted l c.call ≡ true → refusal k s l c.call c.rows ≡ None → Done k s l c.call a l'
      → Told k s l c a l'

pub data Run {W : Type 0} (k : Kind W) (s : Shape) : Ledger W → List Lent → List (Answer W) → Ledger W → Type 0 where
  none : {l : Ledger W} → Run k s l [] [] l
  then : {l m n : Ledger W} {c : Lent} {a : Answer W} {cs : List Lent} {answers : List (Answer W)}
      → Told k s l c a m → Run k s m cs answers n → Run k s l (c ∷ cs) (a ∷ answers) n
