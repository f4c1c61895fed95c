-- Grants in slots, one slot for each row of a table, and sets of grants.
--     Slot W                a grant's right and weight, or none
--     right_in, weight_in   what a slot has: the empty right and zero where no grant stands
--     rights_in s xs        the rights of the grants that stand in the slots
--     RowSet                a set of grants: any choice of rows
--     without c xs          the slots with the rows of c emptied
--     only c xs             the slots with all other rows emptied
--     chosen c xs           the standing grants of the set, in row order
--     weight_of k c xs      what the set weighs: the zero joined with its grants' weights, one by one, in row order
--     number_of c xs        how many grants the set has
--     standing xs           how many grants stand
use Rattle.std.specs.Prelude.{ℕ, suc, Bool, true, cond, not, List, [], ◌∷◌, ◌++◌, map, length, Some, None, Option}
use Rattle.mesh.specs.declared.right.Right.{Right}
use Rattle.mesh.specs.declared.right.Right.TheVariants.{Empty}
use Rattle.mesh.specs.declared.shape.Shape.{Shape}
use Rattle.mesh.specs.Kind.{Kind}
use Rattle.flow.specs.Flow.{Rights, placed}

-- a grant that stands in a slot
pub record Grant (W : Type 0) : Type 0 where
  pub right : Right
  pub weight : W

abbrev pub Slot : Type 0 → Type 0
Slot W = Option (Grant W)

abbrev pub right_in : {W : Type 0} → Slot W → Right
right_in None = Empty
right_in (Some x) = x.right

abbrev pub weight_in : {W : Type 0} → Kind W → Slot W → W
weight_in k None = k.zero
weight_in k (Some x) = x.weight

abbrev pub rights_in : {W : Type 0} → Shape → List (Slot W) → Rights
rights_in s xs = placed s (map right_in xs)

abbrev pub RowSet : Type 0
RowSet = ℕ → Bool

-- the same set, seen from the next row
abbrev pub beyond : RowSet → RowSet
beyond c i = c (suc i)

abbrev pub without : {W : Type 0} → RowSet → List (Slot W) → List (Slot W)
without c [] = []
without c (x ∷ xs) = cond (c 0) None x ∷ without (beyond c) xs

abbrev pub only : {W : Type 0} → RowSet → List (Slot W) → List (Slot W)
only c xs = without (λ i. not (c i)) xs

-- the grant in a slot, if one stands
abbrev pub grants_in : {W : Type 0} → Slot W → List (Grant W)
grants_in None = []
grants_in (Some x) = x ∷ []

abbrev pub chosen : {W : Type 0} → RowSet → List (Slot W) → List (Grant W)
chosen c [] = []
chosen c (x ∷ xs) = cond (c 0) (grants_in x) [] ++ chosen (beyond c) xs

-- w joined with the grants' weights, one by one
abbrev pub joined : {W : Type 0} → Kind W → W → List (Grant W) → W
joined k w [] = w
joined k w (x ∷ xs) = joined k (k.join w x.weight) xs

abbrev pub weight_of : {W : Type 0} → Kind W → RowSet → List (Slot W) → W
weight_of k c xs = joined k k.zero (chosen c xs)

abbrev pub number_of : {W : Type 0} → RowSet → List (Slot W) → ℕ
number_of c xs = length (chosen c xs)

abbrev pub standing : {W : Type 0} → List (Slot W) → ℕ
standing xs = number_of (λ _. true) xs
