-- Where things stand in a file. A file is the list of its bytes; a place is counted from its beginning.
--     byte_at file i                   the byte at the place i
--     word_at, long_at                 the number in the two, in the four bytes from there, high byte first
--     devices_of, points_of            the size of the table
--     ShapeOf file s                   the shape s is the one that the file names
--     entry_at d                       where the contents entry of device d is
--     start_of, count_of               what the entry of a device says: where its body starts, and how many grants it has
--     body_at file d                   where the body of device d has to start: the first where the contents end, any other where the one before it ends
--     grant_at file d j                where the grant j of device d stands
--     point_at, letter_at, amount_at   what a grant says
use Rattle.std.specs.Prelude.{◌≡◌, ℕ, zero, suc, ◌+◌, ◌*◌, List, slice_index}
use Rattle.mesh.specs.declared.shape.Shape.{Shape}

abbrev pub byte_at : List ℕ → ℕ → ℕ
byte_at file i = slice_index file i

abbrev pub word_at : List ℕ → ℕ → ℕ
word_at file i = byte_at file i * 256 + byte_at file (i + 1)

abbrev pub long_at : List ℕ → ℕ → ℕ
long_at file i = word_at file i * 65536 + word_at file (i + 2)

abbrev pub devices_of : List ℕ → ℕ
devices_of file = byte_at file 2

abbrev pub points_of : List ℕ → ℕ
points_of file = byte_at file 3

abbrev pub ShapeOf : List ℕ → Shape → Type 0
ShapeOf file s = (s.devices ≡ devices_of file) × (s.points ≡ points_of file)

abbrev pub entry_at : ℕ → ℕ
entry_at d = 4 + 3 * d

abbrev pub start_of : List ℕ → ℕ → ℕ
start_of file d = word_at file (entry_at d)

abbrev pub count_of : List ℕ → ℕ → ℕ
count_of file d = byte_at file (entry_at d + 2)

unfoldable pub body_at : List ℕ → ℕ → ℕ
body_at file zero = entry_at (devices_of file)
body_at file (suc d) = body_at file d + 6 * count_of file d

abbrev pub grant_at : List ℕ → ℕ → ℕ → ℕ
grant_at file d j = body_at file d + 6 * j

abbrev pub point_at : List ℕ → ℕ → ℕ
point_at file place = byte_at file place

abbrev pub letter_at : List ℕ → ℕ → ℕ
letter_at file place = byte_at file (place + 1)

abbrev pub amount_at : List ℕ → ℕ → ℕ
amount_at file place = long_at file (place + 2)
