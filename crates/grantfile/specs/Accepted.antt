-- Which files are accepted, in the words of the format.
--     WellFormed k file       a file of the kind k as the format has it
--     Accepts k n file r      with n rows lent, a read is accepted exactly if the file is well formed and has rows enough
use Rattle.std.specs.Prelude.{◌≡◌, ℕ, ◌+◌, ◌*◌, ◌<◌, ◌≤◌, T, List, length, Some, Ok, Err, Result}
use Rattle.mesh.specs.declared.right.Right.{Right}
use Rattle.mesh.specs.declared.shape.Shape.{Shape}
use Rattle.mesh.specs.Kind.{Kind}
use Rattle.mesh.specs.Rights.{right_of}
use Rattle.mesh.specs.Table.{InRange}
use Rattle.grantfile.specs.declared.fault.Fault.{Fault}
use Rattle.grantfile.specs.Format.{byte_at, devices_of, points_of, start_of, count_of, body_at, grant_at, point_at, letter_at, amount_at}

-- d is a device of the file, and j one of its grants
abbrev pub Granted : List ℕ → ℕ → ℕ → Type 0
Granted file d j = (d < devices_of file) × (j < count_of file d)

pub record WellFormed {W : Type 0} (k : Kind W) (file : List ℕ) : Type 0 where
  pub long : 4 ≤ length file
  pub letter : byte_at file 0 ≡ 0x47
  pub kind : byte_at file 1 ≡ k.number
  pub devices : InRange (devices_of file)
  pub points : InRange (points_of file)
  pub starts : (d : ℕ) → d < devices_of file → start_of file d ≡ body_at file d
  pub ends : length file ≡ body_at file (devices_of file)
  pub inside : (d j : ℕ) → Granted file d j → point_at file (grant_at file d j) < points_of file
  pub rising : (d j : ℕ) → Granted file d (j + 1) → point_at file (grant_at file d j) < point_at file (grant_at file d (j + 1))
  pub rights : (d j : ℕ) → Granted file d j → (r : Right) × (right_of (letter_at file (grant_at file d j)) ≡ Some r)
  pub amounts : (d j : ℕ) → Granted file d j → T (k.admits (amount_at file (grant_at file d j)))

abbrev pub Accepts : {W : Type 0} → Kind W → ℕ → List ℕ → Result Shape Fault → Type 0
Accepts k lent file (Ok s) = WellFormed k file × (devices_of file * points_of file ≤ lent)
Accepts k lent file (Err f) = WellFormed k file → devices_of file * points_of file ≤ lent → ⊥
