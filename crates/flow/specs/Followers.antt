-- The follower table: a word for each device, its members the device's followers.
--     Follows words a b      b is a member of the word of a
--     Followers g words      the words are those of the rights g
--     FollowerTable s rows t the answer t to the wish for the follower table of lent rows
use Rattle.std.specs.Prelude.{◌≡◌, ℕ, ◌<◌, ◌≤◌, ◌⊎◌, List, length, replicate, slice_index}
use Rattle.mesh.specs.declared.refusal.Refusal.TheVariants.{ShortMemory}
use Rattle.mesh.specs.declared.row.Row.{Row}
use Rattle.mesh.specs.declared.shape.Shape.{Shape}
use Rattle.mesh.specs.Refusals.{refusal_number}
use Rattle.flow.specs.Sets.{Member}
use Rattle.flow.specs.Flow.{Rights, rights, Source}
use Rattle.mesh.specs.Table.{rows_of}

abbrev pub Follows : List ℕ → ℕ → ℕ → Type 0
Follows words a b = Member b (slice_index words a)

pub record Followers (g : Rights) (words : List ℕ) : Type 0 where
  pub sound : (a b : ℕ) → Follows words a b → Source g a b
  pub whole : (a b : ℕ) → Source g a b → Follows words a b

-- beside 0 the followers, and 0 for each device past the table; beside 4, where the rows are too few, zeros
abbrev pub FollowerTable : {W : Type 0} → Shape → List (Row W) → List ℕ × ℕ → Type 0
FollowerTable s rows t =
    ((t.1 ≡ 0) × (rows_of s ≤ length rows) × Followers (rights s rows) t.0 × ((a : ℕ) → s.devices ≤ a → slice_index t.0 a ≡ 0))
    ⊎ ((t.1 ≡ refusal_number ShortMemory) × (length rows < rows_of s) × (t.0 ≡ replicate 64 0))
