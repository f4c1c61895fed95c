-- What the reader's calls answer, and what they leave.
--     EntryRead bytes s n rest    the contents entry at the front of the bytes: start, count, and the bytes that follow
--     Headed kind file r          the head is checked
--     Opened kind file r          head, contents and end are checked, and the file is held with the shape that it names
--     Shown file d r              the body of device d, as a part of the file
--     Filled k s file rows        each grant of the file stands in its row, and every other row of the table is empty
--     ReadInto k file m m' r      the whole file is checked, and then the rows filled, m before and m' after
use Rattle.std.specs.Prelude.{◌≡◌, ℕ, ◌*◌, ◌<◌, ◌≤◌, List, [], ◌++◌, length, take, drop, Some, None, Ok, Err, Result, ◌≢◌, slice_index_or}
use Rattle.mesh.specs.declared.refusal.Refusal.TheVariants.{OutsideTable}
use Rattle.mesh.specs.declared.right.Right.{Right}
use Rattle.mesh.specs.declared.row.Row.{Row}
use Rattle.mesh.specs.declared.shape.Shape.{Shape}
use Rattle.mesh.specs.Rights.{right_of}
use Rattle.mesh.specs.Rows.{empty_row, grant_row}
use Rattle.mesh.specs.Table.{row_of, rows_of}
use Rattle.mesh.specs.Kind.{Kind}
use Rattle.grantfile.specs.declared.fault.Fault.{Fault}
use Rattle.grantfile.specs.declared.fault.Layer.TheVariants as layer
use Rattle.grantfile.specs.declared.file.Body.{Body}
use Rattle.grantfile.specs.declared.file.GrantFile.{GrantFile}
use Rattle.grantfile.specs.Format.{byte_at, word_at, ShapeOf, devices_of, body_at, count_of, grant_at, point_at, letter_at, amount_at}
use Rattle.grantfile.specs.Tests.{first, head_tests, contents_tests, all_tests}

-- from fewer than three bytes zeros and no bytes
pub record EntryRead (bytes : List ℕ) (start count : ℕ) (rest : List ℕ) : Type 0 where
  pub whole : 3 ≤ length bytes → (start ≡ word_at bytes 0) × (count ≡ byte_at bytes 2) × (rest ≡ drop 3 bytes)
  pub short : length bytes < 3 → (start ≡ 0) × (count ≡ 0) × (rest ≡ [])

abbrev pub Headed : ℕ → List ℕ → Result Shape Fault → Type 0
Headed kind file (Ok s) = (first (head_tests kind file) ≡ None) × ShapeOf file s
Headed kind file (Err f) = first (head_tests kind file) ≡ Some f

abbrev pub Opened : ℕ → List ℕ → Result GrantFile Fault → Type 0
Opened kind file (Ok g) =
    (first (head_tests kind file ++ contents_tests file) ≡ None)
    × (g.headed.bytes.now ≡ file) × ShapeOf file g.headed.shape
Opened kind file (Err f) = first (head_tests kind file ++ contents_tests file) ≡ Some f

-- a device outside the table is refused at place 0
abbrev pub Shown : List ℕ → ℕ → Result Body Fault → Type 0
Shown file d (Ok b) =
    (d < devices_of file) × (b.bytes.now ≡ take (6 * count_of file d) (drop (body_at file d) file)) × (b.place ≡ body_at file d)
Shown file d (Err f) = (devices_of file ≤ d) × (f ≡ record { why = OutsideTable; place = 0; layer = layer.Body })

pub record Filled {W : Type 0} (k : Kind W) (s : Shape) (file : List ℕ) (rows : List (Row W)) : Type 0 where
  pub named : (d j : ℕ) (r : Right) (x : Row W) → d < s.devices → j < count_of file d → right_of (letter_at file (grant_at file d j)) ≡ Some r
      → slice_index_or rows (row_of s d (point_at file (grant_at file d j))) x ≡ grant_row r (k.of (amount_at file (grant_at file d j)))
  pub others : (d p : ℕ) (x : Row W) → d < s.devices → p < s.points → ((j : ℕ) → j < count_of file d → point_at file (grant_at file d j) ≢ p)
      → slice_index_or rows (row_of s d p) x ≡ empty_row k

abbrev pub ReadInto : {W : Type 0} → Kind W → List ℕ → List (Row W) → List (Row W) → Result Shape Fault → Type 0
ReadInto k file before after (Ok s) =
    (first (all_tests k (length before) file) ≡ None) × ShapeOf file s × Filled k s file after × (drop (rows_of s) after ≡ drop (rows_of s) before)
ReadInto k file before after (Err f) = (first (all_tests k (length before) file) ≡ Some f) × (after ≡ before)
