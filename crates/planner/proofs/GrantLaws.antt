-- Sets of grants: what removal leaves, what a part of a set weighs, and how many grants stand.
use Rattle.std.proofs.Common.{◌≡◌, ℕ, zero, suc, ◌+◌, ◌<◌, Bool, true, false, cond, T, List, [], ◌∷◌, ◌++◌, map, length, get_or, set, Some, None, refl, ap, le_of_suc-le-suc, not-suc-le-zero, arith}
use Rattle.mesh.specs.declared.right.Right.{Right}
use Rattle.mesh.specs.declared.right.Right.TheVariants.{Empty}
use Rattle.mesh.specs.Kind.{Kind, Lawful}
use Rattle.planner.proofs.TestLaws.{clash}
use Rattle.planner.specs.Grants.{Slot, RowSet, right_in, beyond, without, grants_in, chosen, joined, weight_of, number_of, standing}

-- ---- removal

-- the right in a row of the slots
abbrev pub row_right : {W : Type 0} → List (Slot W) → ℕ → Right
row_right xs i = get_or (map right_in xs) i Empty

pub row_without : {W : Type 0} (c : RowSet) (xs : List (Slot W)) (i : ℕ) → row_right (without c xs) i ≡ cond (c i) Empty (row_right xs i)
row_without c [] i = go (c i)
  where
    go : (b : Bool) → Empty ≡ cond b Empty Empty
    go true = refl
    go false = refl
row_without c (x ∷ xs) zero = go (c 0)
  where
    go : (b : Bool) → right_in (cond b None x) ≡ cond b Empty (right_in x)
    go true = refl
    go false = refl
row_without c (x ∷ xs) (suc i) = row_without (beyond c) xs i

pub length_without : {W : Type 0} (c : RowSet) (xs : List (Slot W)) → length (without c xs) ≡ length xs
length_without c [] = refl
length_without c (x ∷ xs) = ap suc (length_without (beyond c) xs)

-- what is removed is known by what is left
pub chosen_left : {W : Type 0} (c d : RowSet) (xs : List (Slot W)) → without c xs ≡ without d xs → chosen c xs ≡ chosen d xs
chosen_left c d [] e = refl
chosen_left {W} c d (x ∷ xs) e = go x (c 0) (d 0) (cc) (chosen_left (beyond c) (beyond d) xs (cc))
  where
    go : (y : Slot W) (u v : Bool) → cond u None y ≡ cond v None y → chosen (beyond c) xs ≡ chosen (beyond d) xs
        → cond u (grants_in y) [] ++ chosen (beyond c) xs ≡ cond v (grants_in y) [] ++ chosen (beyond d) xs
    go None true true h rest = rest
    go None true false h rest = rest
    go None false true h rest = rest
    go None false false h rest = rest
    go (Some g) true true h rest = ap (λ gs. g ∷ gs) rest
    go (Some g) true false h rest = absurd (clash (cc))
    go (Some g) false true h rest = absurd (clash (cc))
    go (Some g) false false h rest = rest

-- ---- weights

module _ {W : Type 0} (k : Kind W) (law : Lawful k) where
  -- a part of a set weighs at most the set
  part_joined : (c d : RowSet) (xs : List (Slot W)) → ((i : ℕ) → T (c i) → T (d i)) → (a b : W) → T (k.at_most a b)
      → T (k.at_most (joined k a (chosen c xs)) (joined k b (chosen d xs)))
  part_joined c d [] part a b h = h
  part_joined c d (x ∷ xs) part a b h = go (part_joined (beyond c) (beyond d) xs (λ i. part (suc i))) x (c 0) (d 0) (part 0)
    where
      go : ((a' b' : W) → T (k.at_most a' b') → T (k.at_most (joined k a' (chosen (beyond c) xs)) (joined k b' (chosen (beyond d) xs))))
          → (y : Slot W) (u v : Bool) → (T u → T v)
          → T (k.at_most (joined k a (cond u (grants_in y) [] ++ chosen (beyond c) xs)) (joined k b (cond v (grants_in y) [] ++ chosen (beyond d) xs)))
      go on None true true f = on a b h
      go on None true false f = on a b h
      go on None false true f = on a b h
      go on None false false f = on a b h
      go on (Some g) true true f = on (k.join a g.weight) (k.join b g.weight) (law.monotone a b g.weight h)
      go on (Some g) true false f = absurd (f tt)
      go on (Some g) false true f = on a (k.join b g.weight) (law.transitive a b (k.join b g.weight) h (law.grows b g.weight))
      go on (Some g) false false f = on a b h

  pub part_weighs : (c d : RowSet) (xs : List (Slot W)) → ((i : ℕ) → T (c i) → T (d i)) → T (k.at_most (weight_of k c xs) (weight_of k d xs))
  part_weighs c d xs part = part_joined c d xs part k.zero k.zero (law.reflexive k.zero)

-- ---- how many grants stand

pub standing_without : {W : Type 0} (c : RowSet) (xs : List (Slot W)) → standing (without c xs) + number_of c xs ≡ standing xs
standing_without c [] = refl
standing_without {W} c (x ∷ xs) = go x (c 0) (standing_without (beyond c) xs)
  where
    go : (y : Slot W) (b : Bool) → standing (without (beyond c) xs) + number_of (beyond c) xs ≡ standing xs
        → length (grants_in (cond b None y) ++ chosen (λ _. true) (without (beyond c) xs)) + length (cond b (grants_in y) [] ++ chosen (beyond c) xs)
        ≡ length (grants_in y ++ chosen (λ _. true) xs)
    go None true e = e
    go None false e = e
    go (Some g) true e = omega arith
    go (Some g) false e = omega arith

-- a slot that is set: what stood there goes, and what is put there comes
pub standing_set : {W : Type 0} (xs : List (Slot W)) (i : ℕ) (y : Slot W) → i < length xs
    → standing (set xs i y) + length (grants_in (get_or xs i None)) ≡ standing xs + length (grants_in y)
standing_set [] i y h = absurd (not-suc-le-zero h)
standing_set {W} (x ∷ xs) zero y h = go x y
  where
    go : (u v : Slot W) → length (grants_in v ++ chosen (λ _. true) xs) + length (grants_in u) ≡ length (grants_in u ++ chosen (λ _. true) xs) + length (grants_in v)
    go None None = refl
    go None (Some b) = omega arith
    go (Some a) None = omega arith
    go (Some a) (Some b) = refl
standing_set {W} (x ∷ xs) (suc i) y h = go x (standing_set xs i y (le_of_suc-le-suc h))
  where
    go : (u : Slot W) → standing (set xs i y) + length (grants_in (get_or xs i None)) ≡ standing xs + length (grants_in y)
        → length (grants_in u ++ chosen (λ _. true) (set xs i y)) + length (grants_in (get_or xs i None)) ≡ length (grants_in u ++ chosen (λ _. true) xs) + length (grants_in y)
    go None e = e
    go (Some a) e = omega arith
