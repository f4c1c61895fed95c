-- The numbers of the refusals.
--     refusal_number why   the number by which the refusal is reported
use Rattle.std.specs.Prelude.{ℕ}
use Rattle.mesh.specs.declared.refusal.Refusal.{Refusal}
use Rattle.mesh.specs.declared.refusal.Refusal.TheVariants.{ShortFile, WrongHead, WrongSize, ShortMemory, ShortContents, WrongStart, WrongEnd, OutsideTable, WrongRight, WrongAmount, NothingToErase, WrongBudget, NotEnded, RingStands}

abbrev pub refusal_number : Refusal → ℕ
refusal_number ShortFile = 1
refusal_number WrongHead = 2
refusal_number WrongSize = 3
refusal_number ShortMemory = 4
refusal_number ShortContents = 5
refusal_number WrongStart = 6
refusal_number WrongEnd = 7
refusal_number OutsideTable = 8
refusal_number WrongRight = 9
refusal_number WrongAmount = 10
refusal_number NothingToErase = 11
refusal_number WrongBudget = 12
refusal_number NotEnded = 13
refusal_number RingStands = 14
