-- When a book or a search, with its rows, is where a ledger stands.
--     Reached k s l                         a run of calls from an opened ledger leads to l
--     best_weight k q                       what the best plan of the ledger's search weighs, if there is one
--     Stands k xs b rows                    book and rows are where the ledger has the slots xs and no search
--     Agrees k xs q c rows                  search and rows are where the ledger has the slots xs and the search q
--     Holds k l state rows                  the one or the other
--     Tells k state c rows a state' rows'   whatever ledger state and rows are at, the call is told its answer by it, and they are where it then stands
use Rattle.std.specs.Prelude.{◌≡◌, List, length, Some, None, Option}
use Rattle.mesh.specs.declared.row.Row.{Row}
use Rattle.mesh.specs.declared.shape.Shape.{Shape}
use Rattle.mesh.specs.Kind.{Kind}
use Rattle.planner.specs.declared.calls.Call.{Call}
use Rattle.planner.specs.declared.calls.Lent.{Lent}
use Rattle.planner.specs.declared.calls.Answer.{Answer}
use Rattle.planner.specs.Grants.{Slot, weight_of}
use Rattle.planner.specs.Walk.{Node, condition}
use Rattle.planner.specs.Search.{revoked}
use Rattle.planner.specs.Ledger as ledger
use Rattle.planner.specs.Ledger.{Ledger, book, searching, opened, Told, Run}
use Rattle.planner.specs.Rows.{Kept}
use Rattle.book.specs.declared.book.Book.{Book}
use Rattle.book.specs.declared.search.Search.{Search}
use Rattle.book.specs.declared.state.State.{State}
use Rattle.book.specs.declared.state.State.TheVariants.{Free, Searching}

pub record Reached {W : Type 0} (k : Kind W) (s : Shape) (l : Ledger W) : Type 0 where
  pub calls : List Lent
  pub answers : List (Answer W)
  pub run : Run k s (opened s) calls answers l

abbrev pub weight_at : {W : Type 0} → Kind W → ledger.Search W → Option Node → Option W
weight_at k q None = None
weight_at k q (Some n) = Some (weight_of k (revoked q.deciding n) q.slots)

abbrev pub best_weight : {W : Type 0} → Kind W → ledger.Search W → Option W
best_weight k q = weight_at k q q.place.best

pub record Stands {W : Type 0} (k : Kind W) (xs : List (Slot W)) (b : Book) (rows : List (Row W)) : Type 0 where
  pub reached : Reached k b.shape (book xs)
  pub kept : Kept k b.shape (book xs) rows

pub record Agrees {W : Type 0} (k : Kind W) (xs : List (Slot W)) (q : ledger.Search W) (c : Search W) (rows : List (Row W)) : Type 0 where
  pub reached : Reached k c.book.shape (searching xs q)
  pub kept : Kept k c.book.shape (searching xs q) rows
  pub visits : c.visits ≡ q.visits
  pub condition : c.condition ≡ condition q.place.next
  pub best : c.best ≡ best_weight k q

-- the shape of the table
abbrev pub shape_of : {W : Type 0} → State W → Shape
shape_of (Free b) = b.shape
shape_of (Searching c) = c.book.shape

abbrev pub Holds : {W : Type 0} → Kind W → Ledger W → State W → List (Row W) → Type 0
Holds k (book xs) (Free b) rows = Stands k xs b rows
Holds k (book xs) (Searching c) rows = ⊥
Holds k (searching xs q) (Free b) rows = ⊥
Holds k (searching xs q) (Searching c) rows = Agrees k xs q c rows

-- a call to which these rows are lent
abbrev pub lent : {W : Type 0} → Call → List (Row W) → Lent
lent c rows = record { call = c; rows = length rows }

abbrev pub Tells : {W : Type 0} → Kind W → State W → Call → List (Row W) → Answer W → State W → List (Row W) → Type 0
Tells {W} k state c rows a state' rows' = (l : Ledger W) → Holds k l state rows → (l' : Ledger W) × Told k (shape_of state) l (lent c rows) a l' × Holds k l' state' rows'
