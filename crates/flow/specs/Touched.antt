-- The points that devices read and write, as sets.
--     TouchesAt g d t   the sets of t are those of the device d by the rights g
--     touched_at ts d   the sets of the device d in the table ts, empty ones past its end
--     Touches g ts      the table ts has the sets of each device by the rights g
--     feeds ts a b      by these sets, a is a source of b
use Rattle.std.specs.Prelude.{◌≡◌, ℕ, Bool, not, ◌&&◌, ◌==◌, List, slice_index_or}
use Rattle.std.specs.Int.{bit_at, from_bool}
use Rattle.flow.specs.declared.touched.Touched.{Touched}
use Rattle.mesh.specs.Rights.{can_read, can_write}
use Rattle.flow.specs.Sets.{meets}
use Rattle.flow.specs.Flow.{Rights}

pub record TouchesAt (g : Rights) (d : ℕ) (t : Touched) : Type 0 where
  pub reading : (p : ℕ) → bit_at t.reads p ≡ from_bool (can_read (g d p))
  pub writing : (p : ℕ) → bit_at t.writes p ≡ from_bool (can_write (g d p))

abbrev pub touched_at : List Touched → ℕ → Touched
touched_at ts d = slice_index_or ts d (record { reads = 0; writes = 0 })

abbrev pub Touches : Rights → List Touched → Type 0
Touches g ts = (d : ℕ) → TouchesAt g d (touched_at ts d)

abbrev pub feeds : List Touched → ℕ → ℕ → Bool
feeds ts a b = not (a == b) && meets (touched_at ts a).writes (touched_at ts b).reads
