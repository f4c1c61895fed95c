-- What the reader's inner steps answer, and what they leave.
--     GrantRow k file i row         the row is that of the grant at the place i
--     grants_tests k g              the tests of the grants g of a body
--     BodyFilled k file s n rows    among the rows of one device, the first n grants of the body from s on stand in theirs, and every other row is empty
use Rattle.std.specs.Prelude.{◌≡◌, ℕ, ◌+◌, ◌*◌, ◌<◌, List, length, Some, ◌≢◌, slice_index_or}
use Rattle.std.specs.List.{range_with_len, flat_map}
use Rattle.mesh.specs.declared.right.Right.{Right}
use Rattle.mesh.specs.declared.row.Row.{Row}
use Rattle.mesh.specs.Kind.{Kind}
use Rattle.mesh.specs.Rights.{right_of}
use Rattle.mesh.specs.Rows.{empty_row, grant_row}
use Rattle.grantfile.specs.declared.bodies.Grants.{Grants}
use Rattle.grantfile.specs.Format.{point_at, letter_at, amount_at}
use Rattle.grantfile.specs.Tests.{Test, grant_tests}

abbrev pub GrantRow : {W : Type 0} → Kind W → List ℕ → ℕ → Row W → Type 0
GrantRow k file i row = (r : Right) → right_of (letter_at file i) ≡ Some r → row ≡ grant_row r (k.of (amount_at file i))

abbrev pub grants_tests : {W : Type 0} → Kind W → Grants → List Test
grants_tests k g = flat_map (grant_tests k g.file.now g.start) (range_with_len 0 g.count)

pub record BodyFilled {W : Type 0} (k : Kind W) (file : List ℕ) (start n : ℕ) (rows : List (Row W)) : Type 0 where
  pub named : (j : ℕ) (x : Row W) → j < n → GrantRow k file (start + 6 * j) (slice_index_or rows (point_at file (start + 6 * j)) x)
  pub others : (p : ℕ) (x : Row W) → p < length rows → ((j : ℕ) → j < n → point_at file (start + 6 * j) ≢ p) → slice_index_or rows p x ≡ empty_row k
