-- What the calls on a book answer and leave, on any rows.
--     book_refusal k s c rows   the first refusal of the call c, in checking order, with these rows lent
--     read_in k x               what a slot shows: right and weight, e and zero where no grant stands
use Rattle.std.specs.Prelude.{◌≡◌, ℕ, ◌<◌, true, false, List, [], ◌∷◌, length, drop, Some, None, Ok, Err, Option, Result, slice_set}
use Rattle.mesh.specs.declared.refusal.Refusal.{Refusal}
use Rattle.mesh.specs.declared.refusal.Refusal.TheVariants.{ShortMemory, OutsideTable, NothingToErase}
use Rattle.mesh.specs.declared.right.Right.{Right}
use Rattle.mesh.specs.declared.row.Row.{Row}
use Rattle.mesh.specs.declared.shape.Shape.{Shape}
use Rattle.mesh.specs.Kind.{Kind}
use Rattle.mesh.specs.Rows.{empty_row, grant_row}
use Rattle.mesh.specs.Table.{rows_of, row_of}
use Rattle.planner.specs.declared.calls.Call.{Call}
use Rattle.planner.specs.declared.calls.Call.TheVariants as call
use Rattle.planner.specs.declared.calls.Written.{Written}
use Rattle.planner.specs.declared.calls.Answer.{Answer}
use Rattle.planner.specs.declared.calls.Answer.TheVariants as says
use Rattle.planner.specs.Grants.{Slot, right_in, weight_in}
use Rattle.planner.specs.Ledger.{book, first, too_few, outside, refusal, slot_at, is_vacant, freshness, open_refusal, slots_of, opened}
use Rattle.planner.specs.Rows.{slot_in, slots_in}
use Rattle.book.specs.declared.book.Book.{Book}
use Rattle.book.specs.declared.book.Reading.{Reading}
use Rattle.book.specs.Agrees.{Stands}

abbrev pub book_refusal : {W : Type 0} → Kind W → Shape → Call → List (Row W) → Option Refusal
book_refusal k s c rows = refusal k s (book (slots_in rows)) c (length rows)

-- the grant that the rows show for a device and a point, if one stands
abbrev pub slot_on : {W : Type 0} → Shape → List (Row W) → ℕ → ℕ → Slot W
slot_on s rows d p = slot_at s (slots_in rows) d p

abbrev pub Opens : {W : Type 0} → Kind W → ℕ → ℕ → List (Row W) → List (Row W) → Result Book Refusal → Type 0
Opens k devices points rows rows' (Ok b) =
    (open_refusal devices points (length rows) ≡ None) × (b.shape.devices ≡ devices) × (b.shape.points ≡ points)
    × Stands k (slots_of (opened b.shape)) b rows' × (drop (rows_of b.shape) rows' ≡ drop (rows_of b.shape) rows)
Opens k devices points rows rows' (Err why) = (open_refusal devices points (length rows) ≡ Some why) × (rows' ≡ rows)

-- the refusals that all three calls on a grant begin with
abbrev pub place_refusal : {W : Type 0} → Shape → List (Row W) → ℕ → ℕ → Option Refusal
place_refusal s rows d p = first ((too_few s (length rows), ShortMemory) ∷ (outside s d p, OutsideTable) ∷ [])

abbrev pub PlacedIn : {W : Type 0} → Shape → List (Row W) → ℕ → ℕ → Result ℕ Refusal → Type 0
PlacedIn s rows d p (Ok i) = (place_refusal s rows d p ≡ None) × (i ≡ row_of s d p) × (i < length rows)
PlacedIn s rows d p (Err why) = place_refusal s rows d p ≡ Some why

abbrev pub Writes : {W : Type 0} → Kind W → Shape → ℕ → ℕ → Right → ℕ → List (Row W) → List (Row W) → Result Written Refusal → Type 0
Writes k s d p r a rows rows' (Ok w) =
    (book_refusal k s (call.Write d p r a) rows ≡ None) × (w ≡ freshness (slot_on s rows d p)) × (rows' ≡ slice_set rows (row_of s d p) (grant_row r (k.of a)))
Writes k s d p r a rows rows' (Err why) = (book_refusal k s (call.Write d p r a) rows ≡ Some why) × (rows' ≡ rows)

abbrev pub Erases : {W : Type 0} → Kind W → Shape → ℕ → ℕ → List (Row W) → List (Row W) → Result (Unit {0}) Refusal → Type 0
Erases k s d p rows rows' (Ok x) = (book_refusal k s (call.Erase d p) rows ≡ None) × (rows' ≡ slice_set rows (row_of s d p) (empty_row k))
Erases k s d p rows rows' (Err why) = (book_refusal k s (call.Erase d p) rows ≡ Some why) × (rows' ≡ rows)

-- one row is emptied, if a grant stands in it
abbrev pub Clears : {W : Type 0} → Kind W → Row W → Row W → Result (Unit {0}) Refusal → Type 0
Clears k x x' (Ok y) = (is_vacant (slot_in x) ≡ false) × (x' ≡ empty_row k)
Clears k x x' (Err why) = (is_vacant (slot_in x) ≡ true) × (why ≡ NothingToErase) × (x' ≡ x)

abbrev pub read_in : {W : Type 0} → Kind W → Slot W → Reading W
read_in k x = record { right = right_in x; weight = weight_in k x }

abbrev pub Reads : {W : Type 0} → Kind W → Shape → ℕ → ℕ → List (Row W) → Result (Reading W) Refusal → Type 0
Reads k s d p rows (Ok x) = (book_refusal k s (call.Read d p) rows ≡ None) × (x ≡ read_in k (slot_on s rows d p))
Reads k s d p rows (Err why) = book_refusal k s (call.Read d p) rows ≡ Some why

-- ---- the answers that the ledger tells

abbrev pub of_write : {W : Type 0} → Result Written Refusal → Answer W
of_write (Ok w) = says.Written w
of_write (Err why) = says.Refused why

abbrev pub of_erase : {W : Type 0} → Result (Unit {0}) Refusal → Answer W
of_erase (Ok x) = says.Erased
of_erase (Err why) = says.Refused why

abbrev pub of_read : {W : Type 0} → Result (Reading W) Refusal → Answer W
of_read (Ok x) = says.Read x.right x.weight
of_read (Err why) = says.Refused why
