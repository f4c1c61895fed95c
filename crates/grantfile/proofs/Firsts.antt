-- The first test that fails: in two lists after one another, and in a list made index by index.
use Rattle.std.proofs.Common.{◌≡◌, ℕ, zero, suc, ◌+◌, ◌-◌, ◌<◌, ◌≤◌, Bool, true, false, cond, List, [], ◌∷◌, ◌++◌, map, IsErrAnd, Some, None, Err, Option, Result, sym, refl, ap, ◌∙◌, subst, arith}
use Rattle.std.specs.List.{range_with_len, flat_map}
use Rattle.std.specs.Option.{option_or}
use Rattle.std.specs.Result.{result_err}
use Rattle.std.proofs.lemmas.List.Concat.{flat_map_single}
use Rattle.std.proofs.lemmas.Result.{err_from_is_err_and}
use Rattle.grantfile.specs.declared.fault.Fault.{Fault}
use Rattle.grantfile.specs.Tests.{Test, first}

-- what a `?` hands on is the fault that it was given
pub handed_on : {X : Type 0} (r : Result X Fault) (f : Fault) → IsErrAnd r (λ g. g ≡ f) → r ≡ Err f
handed_on r f h = let p = err_from_is_err_and r h in p.1 ∙ ap Err p.2

-- a test that passes, and those after it
pub under : (b : Bool) (f : Fault) (o : Option Fault) → cond b (Some f) o ≡ None → (b ≡ false) × (o ≡ None)
under true f o e = absurd (cc)
under false f o e = (refl, e)

-- the first tests decide, and where they pass, the others
cond_or : (b : Bool) (f : Fault) (o p : Option Fault) → cond b (Some f) (option_or o p) ≡ option_or (cond b (Some f) o) p
cond_or true f o p = refl
cond_or false f o p = refl

first-append : (xs ys : List Test) → first (xs ++ ys) ≡ option_or (first xs) (first ys)
first-append [] ys = refl
first-append (t ∷ ts) ys = ap (λ o. cond t.fails (Some t.fault) o) (first-append ts ys) ∙ cond_or t.fails t.fault (first ts) (first ys)

pub first_past : (xs ys : List Test) → first xs ≡ None → first (xs ++ ys) ≡ first ys
first_past xs ys e = first-append xs ys ∙ ap (λ o. option_or o (first ys)) e

pub first_stop : (xs ys : List Test) (f : Fault) → first xs ≡ Some f → first (xs ++ ys) ≡ Some f
first_stop xs ys f e = first-append xs ys ∙ ap (λ o. option_or o (first ys)) e

-- where all pass, the first ones do, and the others
both_none : (o p : Option Fault) → option_or o p ≡ None → (o ≡ None) × (p ≡ None)
both_none None p e = (refl, e)
both_none (Some f) p e = absurd (cc)

pub first_none : (xs ys : List Test) → first (xs ++ ys) ≡ None → (first xs ≡ None) × (first ys ≡ None)
first_none xs ys e = both_none (first xs) (first ys) (sym (first-append xs ys) ∙ e)

-- lists of tests one for each index, joined, of which those from i on are left: the one at i passes, or refuses and is handed on; none is left at the end
joined_step : (T : ℕ → List Test) (i n : ℕ) → i < n → first (flat_map T (range_with_len i (n - i))) ≡ first (T i ++ flat_map T (range_with_len (i + 1) (n - (i + 1))))
joined_step T i n h = let e : n - i ≡ suc (n - (i + 1)) = omega arith in ap (λ m. first (flat_map T (range_with_len i m))) e

pub joined_past : (T : ℕ → List Test) (i n : ℕ) (all : Option Fault) → all ≡ first (flat_map T (range_with_len i (n - i))) → i < n → first (T i) ≡ None
    → all ≡ first (flat_map T (range_with_len (i + 1) (n - (i + 1))))
joined_past T i n all l h e = l ∙ joined_step T i n h ∙ first_past (T i) (flat_map T (range_with_len (i + 1) (n - (i + 1)))) e

pub joined_stop : (T : ℕ → List Test) (i n : ℕ) (all : Option Fault) (f : Fault) → all ≡ first (flat_map T (range_with_len i (n - i))) → i < n → first (T i) ≡ Some f
    → all ≡ Some f
joined_stop T i n all f l h e = l ∙ joined_step T i n h ∙ first_stop (T i) (flat_map T (range_with_len (i + 1) (n - (i + 1)))) f e

pub joined_handed : {X : Type 0} (T : ℕ → List Test) (i n : ℕ) (all : Option Fault) (f : Fault) (r : Result X Fault)
    → all ≡ first (flat_map T (range_with_len i (n - i))) → i < n → first (T i) ≡ Some f → IsErrAnd r (λ e. e ≡ f) → all ≡ result_err r
joined_handed T i n all f r l h e s = rw (handed_on r f s) (joined_stop T i n all f l h e)

pub joined_end : (T : ℕ → List Test) (i n : ℕ) (all : Option Fault) → all ≡ first (flat_map T (range_with_len i (n - i))) → n ≤ i → all ≡ None
joined_end T i n all l h = let e : n - i ≡ 0 = omega arith in l ∙ ap (λ m. first (flat_map T (range_with_len i m))) e

-- where all pass, the one at k does
joined_at : (T : ℕ → List Test) (i n k : ℕ) → k < n → first (flat_map T (range_with_len i n)) ≡ None → first (T (i + k)) ≡ None
joined_at T i zero k h e = absurd (omega arith)
joined_at T i (suc n) zero h e = let z : i + 0 ≡ i = omega arith in rw z (first_none (T i) (flat_map T (range_with_len (i + 1) n)) e).0
joined_at T i (suc n) (suc k) h e =
    let z : i + suc k ≡ (i + 1) + k = omega arith in
    rw z (joined_at T (i + 1) n k (omega arith) (first_none (T i) (flat_map T (range_with_len (i + 1) n)) e).1)

pub joined_passed : (T : ℕ → List Test) (n k : ℕ) → k < n → first (flat_map T (range_with_len 0 n)) ≡ None → first (T k) ≡ None
joined_passed T n k h e = let z : 0 + k ≡ k = omega arith in rw z at (joined_at T 0 n k h e)

-- where each passes, all do
joined_from : (T : ℕ → List Test) (i n : ℕ) → ((j : ℕ) → j < n → first (T (i + j)) ≡ None) → first (flat_map T (range_with_len i n)) ≡ None
joined_from T i zero h = refl
joined_from T i (suc n) h =
    let here : i + 0 ≡ i = omega arith in
    first_past (T i) (flat_map T (range_with_len (i + 1) n)) (subst (λ m. first (T m) ≡ None) here (h 0 (omega arith)))
    ∙ joined_from T (i + 1) n (λ j l. let z : i + suc j ≡ i + 1 + j = omega arith in subst (λ m. first (T m) ≡ None) z (h (suc j) (omega arith)))

pub joined_none : (T : ℕ → List Test) (n : ℕ) → ((j : ℕ) → j < n → first (T j) ≡ None) → first (flat_map T (range_with_len 0 n)) ≡ None
joined_none T n h = joined_from T 0 n (λ j l. let z : j ≡ 0 + j = omega arith in subst (λ m. first (T m) ≡ None) z (h j l))

-- tests one for each index are lists of one test, joined
pub each_joined : (F : ℕ → Test) (n : ℕ) → first (map F (range_with_len 0 n)) ≡ first (flat_map (λ i. F i ∷ []) (range_with_len 0 n))
each_joined F n = sym (ap first (flat_map_single F (range_with_len 0 n)))
