-- Tests that hold, and what they say.
use Rattle.std.proofs.Common.{◌≡◌, ℕ, zero, suc, ◌<◌, Bool, true, false, not, ◌&&◌, ◌||◌, T, eqb, ◌⊎◌, List, [], ◌∷◌, sym, refl, subst, inl, inr, not-suc-le-zero, arith}
use Rattle.std.proofs.lemmas.Bool.{eqb-true, eq-eqb, ne_eqb, cases_eq}
use Rattle.flow.specs.Flow.{In}
pub use Rattle.flow.proofs.FlowLaws.{true_holds as holds, holds_true as is_true}
use Rattle.planner.specs.Search.{is_in}
use Rattle.planner.specs.FlowTests.{any_below, all_below}

pub fails : (b : Bool) → b ≡ false → T b → ⊥
fails b e h = subst T e h

pub is_false : (b : Bool) → (T b → ⊥) → b ≡ false
is_false true n = absurd (n tt)
is_false false n = refl

pub both : (x y : Bool) → T x → T y → T (x && y)
both true y p q = q
both false y p q = absurd p

pub parts : (x y : Bool) → T (x && y) → T x × T y
parts true y p = (tt, p)
parts false y p = absurd p

pub by_first : (x y : Bool) → T x → T (x || y)
by_first true y p = tt
by_first false y p = absurd p

pub by_second : (x y : Bool) → T y → T (x || y)
by_second true y p = tt
by_second false y p = p

pub either : (x y : Bool) → T (x || y) → T x ⊎ T y
either true y p = inl tt
either false y p = inr p

pub equal_test : (a b : ℕ) → a ≡ b → T (eqb a b)
equal_test a b e = subst T (sym (eq-eqb a b e)) tt

pub test_equal : (a b : ℕ) → T (eqb a b) → a ≡ b
test_equal a b t = eqb-true a b (is_true (eqb a b) t)

pub apart_test : (a b : ℕ) → (a ≡ b → ⊥) → T (not (eqb a b))
apart_test a b ne = subst (λ x. T (not x)) (sym (ne_eqb a b ne)) tt

pub test_apart : (a b : ℕ) → T (not (eqb a b)) → a ≡ b → ⊥
test_apart a b t e = subst (λ x. T (not x)) (eq-eqb a b e) t

pub any_found : (n : ℕ) (f : ℕ → Bool) → T (any_below n f) → (k : ℕ) × (k < n) × T (f k)
any_found zero f t = absurd t
any_found (suc n) f t = go (any_found n f) (either (f n) (any_below n f) t)
  where
    go : (T (any_below n f) → (k : ℕ) × (k < n) × T (f k)) → T (f n) ⊎ T (any_below n f) → (k : ℕ) × (k < suc n) × T (f k)
    go on (inl h) = (n, omega arith, h)
    go on (inr h) = let r = on h in (r.0, omega arith, r.2)

pub any_below_holds : (n : ℕ) (f : ℕ → Bool) (k : ℕ) → k < n → T (f k) → T (any_below n f)
any_below_holds zero f k l t = absurd (not-suc-le-zero l)
any_below_holds (suc n) f k l t = elim (cases_eq k n) [
  | inl e ↦ by_first (f n) (any_below n f) (subst (λ i. T (f i)) e t)
  | inr ne ↦ by_second (f n) (any_below n f) (any_below_holds n f k (omega arith) t)
]

pub all_below_holds : (n : ℕ) (f : ℕ → Bool) → ((k : ℕ) → k < n → T (f k)) → T (all_below n f)
all_below_holds zero f h = tt
all_below_holds (suc n) f h = both (f n) (all_below n f) (h n (omega arith)) (all_below_holds n f (λ k l. h k (omega arith)))

pub below_all : (n : ℕ) (f : ℕ → Bool) → T (all_below n f) → (k : ℕ) → k < n → T (f k)
below_all zero f t k l = absurd (not-suc-le-zero l)
below_all (suc n) f t k l = elim (cases_eq k n) [
  | inl e ↦ subst (λ i. T (f i)) (sym e) (parts (f n) (all_below n f) t).0
  | inr ne ↦ below_all n f (parts (f n) (all_below n f) t).1 k (omega arith)
]

pub in_test : (i : ℕ) (xs : List ℕ) → In i xs → T (is_in i xs)
in_test i [] h = absurd h
in_test i (x ∷ xs) (inl e) = by_first (eqb i x) (is_in i xs) (equal_test i x e)
in_test i (x ∷ xs) (inr h) = by_second (eqb i x) (is_in i xs) (in_test i xs h)

pub test_in : (i : ℕ) (xs : List ℕ) → T (is_in i xs) → In i xs
test_in i [] t = absurd t
test_in i (x ∷ xs) t = elim (either (eqb i x) (is_in i xs) t) [ inl h ↦ inl (test_equal i x h) | inr h ↦ inr (test_in i xs h) ]

pub test_not : (b : Bool) → (T b → ⊥) → T (not b)
test_not true n = absurd (n tt)
test_not false n = tt

pub not_test : (b : Bool) → T (not b) → T b → ⊥
not_test true n h = n
not_test false n h = h

-- from equations that cannot be, `cc` has this one
pub clash : ◌≡◌ {A = ℕ} 0 1 → ⊥
clash e = omega arith
