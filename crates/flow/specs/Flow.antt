-- Where flow goes in a table, by the rights in it.
--     Rights           a right for each device and point, the empty one outside the table
--     placed s rs      the rights rs, listed row by row, in the table
--     rights s rows    the rights that stand in the rows of a table
--     Source g a b     a is a source of b, and b a follower of a: they differ, and a writes a point that b reads
--     Path R a b       from a to b in one or more steps of R; flow of a comes to b by Path (Source g) a b
--     In d xs          d stands in the list
--     Different xs     none stands twice
--     Chain g a xs b   from a over the devices of xs to b, each a source of the next
--     Ring g           two or more different devices, each a source of the next, and the last of the first
--     OnRing g d p     the grant of d at p writes or reads at one step of a ring
use Rattle.std.specs.Prelude.{◌≡◌, ℕ, ◌≤◌, cond, ◌&&◌, T, ◌⊎◌, List, [], ◌∷◌, ◌++◌, map, length, nat_lt, slice_index_or}
use Rattle.mesh.specs.declared.right.Right.{Right}
use Rattle.mesh.specs.declared.right.Right.TheVariants.{Empty}
use Rattle.mesh.specs.declared.row.Row.{Row}
use Rattle.mesh.specs.declared.shape.Shape.{Shape}
use Rattle.mesh.specs.Rights.{can_read, can_write}
use Rattle.mesh.specs.Table.{row_of}

abbrev pub Rights : Type 0
Rights = ℕ → ℕ → Right

abbrev pub right_at : {W : Type 0} → List (Row W) → ℕ → Right
right_at rows i = slice_index_or (map (λ r. r.right) rows) i Empty

abbrev pub placed : Shape → List Right → Rights
placed s rs d p = cond (nat_lt d s.devices && nat_lt p s.points) (slice_index_or rs (row_of s d p) Empty) Empty

abbrev pub rights : {W : Type 0} → Shape → List (Row W) → Rights
rights s rows = placed s (map (λ r. r.right) rows)

pub record Source (g : Rights) (a b : ℕ) : Type 0 where
  pub apart : a ≡ b → ⊥
  pub point : ℕ
  pub written : T (can_write (g a point))
  pub read : T (can_read (g b point))

pub data Path (R : ℕ → ℕ → Type 0) (a : ℕ) : ℕ → Type 0 where
  step : {b : ℕ} → R a b → Path R a b
  further : {b c : ℕ} → Path R a b → R b c → Path R a c

abbrev pub In : ℕ → List ℕ → Type 0
In d [] = ⊥
In d (x ∷ xs) = (d ≡ x) ⊎ In d xs

abbrev pub Different : List ℕ → Type 0
Different [] = Unit {0}
Different (x ∷ xs) = (In x xs → ⊥) × Different xs

abbrev pub Chain : Rights → ℕ → List ℕ → ℕ → Type 0
Chain g a [] b = Source g a b
Chain g a (x ∷ xs) b = Source g a x × Chain g x xs b

pub record Ring (g : Rights) : Type 0 where
  pub first : ℕ
  pub others : List ℕ
  pub several : 1 ≤ length others
  pub different : Different (first ∷ others)
  pub round : Chain g first others first

-- b stands right after a
abbrev pub Adjacent : ℕ → ℕ → List ℕ → Type 0
Adjacent a b [] = ⊥
Adjacent a b (x ∷ []) = ⊥
Adjacent a b (x ∷ y ∷ xs) = ((a ≡ x) × (b ≡ y)) ⊎ Adjacent a b (y ∷ xs)

pub record OnRing (g : Rights) (d p : ℕ) : Type 0 where
  pub ring : Ring g
  pub from : ℕ
  pub to : ℕ
  pub adjacent : Adjacent from to (ring.first ∷ (ring.others ++ (ring.first ∷ [])))
  pub written : T (can_write (g from p))
  pub read : T (can_read (g to p))
  pub one_of : (d ≡ from) ⊎ (d ≡ to)
