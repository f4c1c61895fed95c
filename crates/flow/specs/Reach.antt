-- Which devices the flow of one device comes to.
--     Reaches g d r          r has the devices that flow of d comes to in one or more steps, and their number
--     ReachAnswer s rows d r the answer r to that question over lent rows
use Rattle.std.specs.Prelude.{◌≡◌, ℕ, ◌<◌, ◌≤◌, ◌⊎◌, List, length, Ok, Err, Result}
use Rattle.flow.specs.declared.reach.Reached.{Reached}
use Rattle.mesh.specs.declared.refusal.Refusal.{Refusal}
use Rattle.mesh.specs.declared.refusal.Refusal.TheVariants.{ShortMemory, OutsideTable}
use Rattle.mesh.specs.declared.row.Row.{Row}
use Rattle.mesh.specs.declared.shape.Shape.{Shape}
use Rattle.flow.specs.Sets.{Member, has, count_of}
use Rattle.flow.specs.Flow.{Rights, rights, Source, Path}
use Rattle.mesh.specs.Table.{rows_of}

pub record Reaches (g : Rights) (d : ℕ) (r : Reached) : Type 0 where
  pub sound : (b : ℕ) → Member b r.devices → Path (Source g) d b
  pub whole : (b : ℕ) → Path (Source g) d b → Member b r.devices
  pub counted : r.count ≡ count_of (has r.devices) 64

abbrev pub ReachAnswer : {W : Type 0} → Shape → List (Row W) → ℕ → Result Reached Refusal → Type 0
ReachAnswer s rows d (Ok r) = (rows_of s ≤ length rows) × (d < s.devices) × Reaches (rights s rows) d r
ReachAnswer s rows d (Err why) =
    ((why ≡ ShortMemory) × (length rows < rows_of s))
    ⊎ ((why ≡ OutsideTable) × (rows_of s ≤ length rows) × (s.devices ≤ d))
