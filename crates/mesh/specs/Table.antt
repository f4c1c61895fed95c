-- The size of a table, and the rows in it.
--     InRange n            a table may have n devices, or n points
--     Shaped d p r         the answer r to a wish for a table of d devices and p points
--     rows_of s            how many rows the table has
--     row_of s d p         the row of device d and point p
--     PlacedRow s d p r    the answer r to the question where that row is
use Rattle.std.specs.Prelude.{◌≡◌, ℕ, ◌+◌, ◌*◌, ◌<◌, ◌≤◌, Ok, Err, Result}
use Rattle.mesh.specs.declared.refusal.Refusal.{Refusal}
use Rattle.mesh.specs.declared.refusal.Refusal.TheVariants.{WrongSize, OutsideTable}
use Rattle.mesh.specs.declared.shape.Shape.{Shape}

abbrev pub InRange : ℕ → Type 0
InRange n = (1 ≤ n) × (n ≤ 64)

abbrev pub Shaped : ℕ → ℕ → Result Shape Refusal → Type 0
Shaped devices points (Ok s) = InRange devices × InRange points × (s.devices ≡ devices) × (s.points ≡ points)
Shaped devices points (Err why) = (InRange devices × InRange points → ⊥) × (why ≡ WrongSize)

abbrev pub rows_of : Shape → ℕ
rows_of s = s.devices * s.points

abbrev pub row_of : Shape → ℕ → ℕ → ℕ
row_of s device point = device * s.points + point

abbrev pub InTable : Shape → ℕ → ℕ → Type 0
InTable s device point = (device < s.devices) × (point < s.points)

abbrev pub PlacedRow : Shape → ℕ → ℕ → Result ℕ Refusal → Type 0
PlacedRow s device point (Ok i) = InTable s device point × (i ≡ row_of s device point)
PlacedRow s device point (Err why) = (InTable s device point → ⊥) × (why ≡ OutsideTable)
