-- What one visit of the walk from follower to follower enters.
--     Visited words e d a    from the set e of devices entered before, the visit of d leads to the set a
use Rattle.std.specs.Prelude.{◌≡◌, ℕ, ◌≤◌, List, count_ones}
use Rattle.std.specs.Int.{bit_at}
use Rattle.flow.specs.Sets.{Member}
use Rattle.flow.specs.Flow.{Path}
use Rattle.flow.specs.Followers.{Follows}

pub record Visited (words : List ℕ) (entered device after : ℕ) : Type 0 where
  pub keeps : (i : ℕ) → bit_at entered i ≤ bit_at after i
  pub grows : count_ones entered ≤ count_ones after
  pub follows : (j : ℕ) → Follows words device j → Member j after
  pub closed : (i j : ℕ) → Member i after → bit_at entered i ≡ 0 → Follows words i j → Member j after
  pub reached : (i : ℕ) → Member i after → bit_at entered i ≡ 0 → Path (Follows words) device i
