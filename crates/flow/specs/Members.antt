-- Going over the members of a set.
--     LeftBy w d v        d is the lowest member of w, and v has the others
--     TakesLowest w r v   the same of the device r; or r is none, and w has no member
use Rattle.std.specs.Prelude.{◌≡◌, ℕ, ◌+◌, ◌-◌, Some, None, Option, ◌==◌, count_ones}
use Rattle.std.specs.Int.{bit_at, from_bool}
use Rattle.flow.specs.declared.sets.Device.{Device}
use Rattle.flow.specs.Sets.{IsLowest}

pub record LeftBy (w d v : ℕ) : Type 0 where
  pub lowest : IsLowest w d
  pub members : (i : ℕ) → bit_at v i ≡ bit_at w i - from_bool (i == d)
  pub count : count_ones v + 1 ≡ count_ones w

abbrev pub TakesLowest : ℕ → Option Device → ℕ → Type 0
TakesLowest w None v = (w ≡ 0) × (v ≡ 0)
TakesLowest w (Some d) v = LeftBy w d.number v
