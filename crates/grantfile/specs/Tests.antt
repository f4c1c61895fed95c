-- What the reader tests, in its order, and what it finds.
--     Test                       a test: whether it fails, and the fault that it then is
--     test b why i l             the test that fails where b holds, with the fault at the place i that the layer l finds
--     first ts                   the fault of the first test that fails
--     head_tests kind file       four bytes, the first 47 hexadecimal, the caller's kind, a table's size
--     rows_test lent file        as many rows lent as the table has
--     entries_tests file         each entry starts where the body before it ends
--     end_test file              the file ends with the last body
--     contents_tests file        the contents are whole, then entries_tests, then end_test
--     out_of_order file s j      a point outside the table, or not above that of the grant before it in the same body
--     grant_tests k file s j     the grant j of the body from the place s on: a point in order, a right, an admitted amount
--     body_tests, bodies_tests   grant by grant, device by device
--     all_tests k lent file      all of these, in this order: head, rows, contents, bodies
use Rattle.std.specs.Prelude.{ℕ, ◌+◌, ◌-◌, ◌*◌, min, Bool, cond, not, ◌&&◌, ◌||◌, List, [], ◌∷◌, ◌++◌, map, length, is_some, Some, None, Option, ◌==◌, nat_le, nat_lt}
use Rattle.std.specs.List.{range_with_len, flat_map}
use Rattle.mesh.specs.declared.refusal.Refusal.{Refusal}
use Rattle.mesh.specs.declared.refusal.Refusal.TheVariants.{ShortFile, WrongHead, WrongSize, ShortMemory, ShortContents, WrongStart, WrongEnd, OutsideTable, WrongRight, WrongAmount}
use Rattle.mesh.specs.Rights.{right_of}
use Rattle.mesh.specs.Kind.{Kind}
use Rattle.grantfile.specs.declared.fault.Fault.{Fault}
use Rattle.grantfile.specs.declared.fault.Layer.{Layer}
use Rattle.grantfile.specs.declared.fault.Layer.TheVariants as layer
use Rattle.grantfile.specs.Format.{byte_at, devices_of, points_of, entry_at, start_of, count_of, body_at, point_at, letter_at, amount_at}

pub record Test : Type 0 where
  pub fails : Bool
  pub fault : Fault

abbrev pub first : List Test → Option Fault
first [] = None
first (t ∷ ts) = cond t.fails (Some t.fault) (first ts)

abbrev pub test : Bool → Refusal → ℕ → Layer → Test
test b w i l = record { fails = b; fault = record { why = w; place = i; layer = l } }

-- not 1 to 64
abbrev pub out_of_range : ℕ → Bool
out_of_range n = nat_lt n 1 || nat_lt 64 n

abbrev pub head_tests : ℕ → List ℕ → List Test
head_tests kind file =
    test (nat_lt (length file) 4) ShortFile (length file) layer.Head
    ∷ test (not (byte_at file 0 == 0x47)) WrongHead 0 layer.Head
    ∷ test (not (byte_at file 1 == kind)) WrongHead 1 layer.Head
    ∷ test (out_of_range (devices_of file)) WrongSize 2 layer.Head
    ∷ test (out_of_range (points_of file)) WrongSize 3 layer.Head
    ∷ []

abbrev pub rows_test : ℕ → List ℕ → Test
rows_test lent file = test (nat_lt lent (devices_of file * points_of file)) ShortMemory 0 layer.Rows

abbrev pub entry_test : List ℕ → ℕ → Test
entry_test file d = test (not (start_of file d == body_at file d)) WrongStart (entry_at d) layer.Contents

abbrev pub entries_tests : List ℕ → List Test
entries_tests file = map (entry_test file) (range_with_len 0 (devices_of file))

abbrev pub end_test : List ℕ → Test
end_test file =
    let end = body_at file (devices_of file) in
    test (not (length file == end)) WrongEnd (min (length file) end) layer.Contents

abbrev pub contents_tests : List ℕ → List Test
contents_tests file =
    test (nat_lt (length file) (entry_at (devices_of file))) ShortContents (length file) layer.Contents
    ∷ (entries_tests file ++ end_test file ∷ [])

-- the point of the grant j of the body from `start` on is not in the table, or not above that of the grant before it
abbrev pub out_of_order : List ℕ → ℕ → ℕ → Bool
out_of_order file start j =
    let point = point_at file (start + 6 * j) in
    nat_le (points_of file) point || (nat_lt 0 j && nat_le point (point_at file (start + 6 * (j - 1))))

-- the tests of the grant j of the body from `start` on
abbrev pub grant_tests : {W : Type 0} → Kind W → List ℕ → ℕ → ℕ → List Test
grant_tests k file start j =
    let place = start + 6 * j in
    test (out_of_order file start j) OutsideTable place layer.Body
    ∷ test (not (is_some (right_of (letter_at file place)))) WrongRight (place + 1) layer.Body
    ∷ test (not (k.admits (amount_at file place))) WrongAmount (place + 2) layer.Weight
    ∷ []

abbrev pub body_tests : {W : Type 0} → Kind W → List ℕ → ℕ → List Test
body_tests k file d = flat_map (grant_tests k file (body_at file d)) (range_with_len 0 (count_of file d))

abbrev pub bodies_tests : {W : Type 0} → Kind W → List ℕ → List Test
bodies_tests k file = flat_map (body_tests k file) (range_with_len 0 (devices_of file))

abbrev pub all_tests : {W : Type 0} → Kind W → ℕ → List ℕ → List Test
all_tests k lent file = head_tests k.number file ++ (rows_test lent file ∷ (contents_tests file ++ bodies_tests k file))
