-- What the rights let a device do, and their letters.
--     can_read r     flow goes from the point to the device
--     can_write r    flow goes from the device to the point
--     letter_of r    e, r, a or w
--     right_of l     the right of a grant whose letter is l, if l is r, a or w
--     OfGrant l r    the answer r to the wish for that right
use Rattle.std.specs.Prelude.{◌≡◌, ℕ, Bool, true, false, cond, Some, None, Option, Ok, Err, Result, ◌==◌}
use Rattle.mesh.specs.declared.refusal.Refusal.{Refusal}
use Rattle.mesh.specs.declared.refusal.Refusal.TheVariants.{WrongRight}
use Rattle.mesh.specs.declared.right.Right.{Right}
use Rattle.mesh.specs.declared.right.Right.TheVariants.{Empty, Read, Append, Both}

abbrev pub can_read : Right → Bool
can_read Empty = false
can_read Read = true
can_read Append = false
can_read Both = true

abbrev pub can_write : Right → Bool
can_write Empty = false
can_write Read = false
can_write Append = true
can_write Both = true

abbrev pub letter_of : Right → ℕ
letter_of Empty = 0x65
letter_of Read = 0x72
letter_of Append = 0x61
letter_of Both = 0x77

abbrev pub right_of : ℕ → Option Right
right_of l = cond (l == 0x72) (Some Read) (cond (l == 0x61) (Some Append) (cond (l == 0x77) (Some Both) None))

abbrev pub OfGrant : ℕ → Result Right Refusal → Type 0
OfGrant l (Ok r) = right_of l ≡ Some r
OfGrant l (Err why) = (right_of l ≡ None) × (why ≡ WrongRight)
