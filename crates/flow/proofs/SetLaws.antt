-- The laws of a set of numbers below 64 as one word.
use Rattle.std.proofs.Common.{◌≡◌, ℕ, zero, suc, ◌+◌, ◌-◌, ◌*◌, ◌/◌, ◌%◌, ◌^◌, ◌<◌, ◌≤◌, max, Bool, true, false, not, eqb, ◌⊎◌, sym, refl, ap, ◌∙◌, ap₂, inl, inr, le_of_suc-le-suc, not-suc-le-zero, add_comm, eq-or-lt_of_le, one-mul, pow-suc, zero-add, zero-mul, add-one, arith, lit<, eq-eqb, ne_eqb, eqb-true}
use Rattle.std.specs.Int.{bit_at, from_bool, w64}
use Rattle.std.proofs.lemmas.Nat.Bits.{bit_at-lt, bit_at-pow_other, bit_at-pow_same, bit_at_cat_high, bit_at_cat_low, bit_at-suc, bit_at-zero, bit_at_above, bit_at_and, bit_at_lowest, bit_at_not, bit_at_or, and_pow, same_from_bits_below}
use Rattle.std.proofs.lemmas.Nat.{one_shl}
use lib.Arith.{bin_ind}
use lib.Pow.{pow-lt}
use lib.Bits.{bit_and, bit_or, and_step, or_step, and_shr, or_shr, or_shifted_r, and_le_l, or_lt}
use lib.Count.{ones, ones_in, ones_step, ones_cat}
use borrow.Author.Tests.{eqb-false}
use Rattle.std.proofs.lemmas.Bool.{cases_eq, cases_lt, not-true}
use Rattle.flow.specs.Sets.{has, meets, set_of, count_of}

-- a power of two is the set with one member
pub bit_pow : (k i : ℕ) → bit_at (2 ^ k) i ≡ from_bool (eqb i k)
bit_pow k i = elim (cases_eq i k) [
  | inl e ↦ ap (bit_at (2 ^ k)) e ∙ bit_at-pow_same k ∙ ap from_bool (sym (eq-eqb i k e))
  | inr ne ↦ bit_at-pow_other k i ne ∙ ap from_bool (sym (ne_eqb i k ne))
]

-- ---- the number of members

pub ones_or_and : (a b : ℕ) → ones (bit_or a b) + ones (bit_and a b) ≡ ones a + ones b
ones_or_and a =
    bin_ind (λ (n : ℕ). (b : ℕ) → ones (bit_or n b) + ones (bit_and n b) ≡ ones n + ones b) (λ b. add_comm (ones b) (ones 0))
    (λ n ih b.
    let o = ones_step (bit_or n b) in
    let x = ones_step (bit_and n b) in
    let h = ih (b / 2) in
    let on = ones_step n in
    let ob = ones_step b in
    let sh : bit_or n b / 2 ≡ bit_or (n / 2) (b / 2) = or_shr n b 1 in
    let sa : bit_and n b / 2 ≡ bit_and (n / 2) (b / 2) = and_shr n b 1 in
    let so : ones (bit_or n b / 2) ≡ ones (bit_or (n / 2) (b / 2)) = ap ones sh in
    let sx : ones (bit_and n b / 2) ≡ ones (bit_and (n / 2) (b / 2)) = ap ones sa in
    let po = or_step n b in
    let pa = and_step n b in
    omega arith) a

pub ones_zero : ones 0 ≡ 0
unfolding ones ones_in
ones_zero = refl

pub ones_pow : (k : ℕ) → ones (2 ^ k) ≡ 1
unfolding ones ones_in
ones_pow zero = refl
ones_pow (suc k) =
    let p = pow-suc 2 k in
    let e : 2 ^ suc k % 2 ≡ 0 = omega arith in
    let f : 2 ^ suc k / 2 ≡ 2 ^ k = omega arith in
    ones_step (2 ^ suc k) ∙ ap₂ (λ (x y : ℕ). x + ones y) e f ∙ zero-add (ones (2 ^ k)) ∙ ones_pow k

-- one member more
pub ones_insert : (k w : ℕ) → bit_at w k ≡ 0 → ones (bit_or w (2 ^ k)) ≡ ones w + 1
unfolding ones ones_in
ones_insert k w h =
    let a : bit_and w (2 ^ k) ≡ 0 = and_pow w k ∙ ap (λ (x : ℕ). x * 2 ^ k) h ∙ zero-mul (2 ^ k) in
    let o : ones (bit_and w (2 ^ k)) ≡ 0 = ap ones a in
    let t = ones_or_and w (2 ^ k) in
    let p = ones_pow k in
    omega arith

-- ---- the set of the numbers below n that pass a test

pub set_of_lt : (p : ℕ → Bool) (n : ℕ) → set_of p n < 2 ^ n
unfolding set_of
set_of_lt p zero = lit< tt
set_of_lt p (suc n) = go (set_of_lt p n) (p n)
  where
    go : set_of p n < 2 ^ n → (b : Bool) → from_bool b * 2 ^ n + set_of p n < 2 ^ suc n
    go h true = let q = pow-suc 2 n in omega arith
    go h false = let q = pow-suc 2 n in omega arith

pub set_of_none : (p : ℕ → Bool) → set_of p 0 ≡ 0
unfolding set_of
set_of_none p = refl

pub set_of_step : (p : ℕ → Bool) (n : ℕ) → set_of p (n + 1) ≡ from_bool (p n) * 2 ^ n + set_of p n
unfolding set_of
set_of_step p n = ap (set_of p) (add-one n)

digit_lt : (b : Bool) → from_bool b < 2
digit_lt true = lit< tt
digit_lt false = lit< tt

-- the next number joins if it passes
pub set_of_push : (p : ℕ → Bool) (n w : ℕ) → n < 64 → p n ≡ true → w ≡ set_of p n → bit_or w (1 * 2 ^ n % 2 ^ 64) ≡ set_of p (n + 1)
set_of_push p n w h t e =
    ap₂ bit_or e (one_shl n 64 h ∙ sym (one-mul (2 ^ n))) ∙ or_shifted_r 1 n (set_of p n) (set_of_lt p n)
    ∙ ap (λ (b : Bool). from_bool b * 2 ^ n + set_of p n) (sym t) ∙ sym (set_of_step p n)

pub set_of_skip : (p : ℕ → Bool) (n : ℕ) → p n ≡ false → set_of p n ≡ set_of p (n + 1)
set_of_skip p n t =
    let e : 0 * 2 ^ n + set_of p n ≡ set_of p n = omega arith in
    sym e ∙ ap (λ (b : Bool). from_bool b * 2 ^ n + set_of p n) (sym t) ∙ sym (set_of_step p n)

pub set_of_bit : (p : ℕ → Bool) (n i : ℕ) → i < n → bit_at (set_of p n) i ≡ from_bool (p i)
unfolding set_of
set_of_bit p zero i h = absurd (not-suc-le-zero h)
set_of_bit p (suc n) i h = go (set_of_bit p n i) (eq-or-lt_of_le (le_of_suc-le-suc h))
  where
    go : (i < n → bit_at (set_of p n) i ≡ from_bool (p i)) → (i ≡ n) ⊎ (i < n) → bit_at (from_bool (p n) * 2 ^ n + set_of p n) i ≡ from_bool (p i)
    go below (inl e) =
        let none : i - n ≡ 0 = omega arith in
        let l = digit_lt (p n) in
        let one : from_bool (p n) % 2 ≡ from_bool (p n) = omega arith in
        bit_at_cat_high (from_bool (p n)) n (set_of p n) i (set_of_lt p n) (omega arith) ∙ ap (bit_at (from_bool (p n))) none
        ∙ bit_at_lowest (from_bool (p n)) ∙ one ∙ ap (λ (k : ℕ). from_bool (p k)) (sym e)
    go below (inr l) = bit_at_cat_low (from_bool (p n)) n (set_of p n) i l ∙ below l

pub set_of_ones : (p : ℕ → Bool) (n : ℕ) → ones (set_of p n) ≡ count_of p n
unfolding set_of count_of ones ones_in
set_of_ones p zero = refl
set_of_ones p (suc n) = ones_cat n (from_bool (p n)) (set_of p n) (set_of_lt p n) ∙ ap₂ (λ (x y : ℕ). x + y) (one (p n)) (set_of_ones p n)
  where
    one : (b : Bool) → ones (from_bool b) ≡ from_bool b
    one true = refl
    one false = refl

-- every word of n digits is the set of its members
pub set_of_has : (n w : ℕ) → w < 2 ^ n → set_of (has w) n ≡ w
set_of_has n w h = same_from_bits_below n (set_of (has w) n) w (set_of_lt (has w) n) h (λ i l. set_of_bit (has w) n i l ∙ digit_has (bit_at w i) (bit_at-lt w i))
  where
    digit_has : (d : ℕ) → d < 2 → from_bool (eqb d 1) ≡ d
    digit_has zero k = refl
    digit_has (suc zero) k = refl
    digit_has (suc (suc d)) k = absurd (omega arith)

-- so its ones are its members
pub ones_members : (n w : ℕ) → w < 2 ^ n → ones w ≡ count_of (has w) n
ones_members n w h = ap ones (sym (set_of_has n w h)) ∙ set_of_ones (has w) n

-- ---- sets made from others, member by member

digit_self : (k : ℕ) → from_bool (eqb k k) ≡ 1
digit_self k = ap from_bool (eq-eqb k k refl)

pub bit_with : (k w i : ℕ) → bit_at (bit_or w (2 ^ k)) i ≡ max (bit_at w i) (from_bool (eqb i k))
bit_with k w i = bit_at_or w (2 ^ k) i ∙ ap (max (bit_at w i)) (bit_pow k i)

pub bit_minus : (w v i : ℕ) → w < 2 ^ 64 → v < 2 ^ 64 → bit_at (bit_and w (2 ^ 64 - 1 - v)) i ≡ bit_at w i - bit_at v i
bit_minus w v i hw hv = go (cases_lt i 64)
  where
    go : (i < 64) ⊎ (64 ≤ i) → bit_at (bit_and w (2 ^ 64 - 1 - v)) i ≡ bit_at w i - bit_at v i
    go (inl l) =
        let a = bit_at_and w (2 ^ 64 - 1 - v) i in
        let n : bit_at (2 ^ 64 - 1 - v) i ≡ 1 - bit_at v i = bit_at_not w64 v i hv l in
        omega arith
    go (inr g) =
        let a = bit_at_and w (2 ^ 64 - 1 - v) i in
        let z = bit_at_above w 64 i hw g in
        omega arith

pub bit_without : (k w i : ℕ) → k < 64 → w < 2 ^ 64 → bit_at (bit_and w (2 ^ 64 - 1 - 2 ^ k)) i ≡ bit_at w i - from_bool (eqb i k)
bit_without k w i h hw = bit_minus w (2 ^ k) i hw (pow-lt h) ∙ ap (λ (x : ℕ). bit_at w i - x) (bit_pow k i)

-- a member left out and put back
pub ones_without : (k w : ℕ) → k < 64 → w < 2 ^ 64 → bit_at w k ≡ 1 → ones (bit_and w (2 ^ 64 - 1 - 2 ^ k)) + 1 ≡ ones w
ones_without k w h hw m =
    let v = bit_and w (2 ^ 64 - 1 - 2 ^ k) in
    let l = and_le_l w (2 ^ 64 - 1 - 2 ^ k) in
    let hv : v < 2 ^ 64 = omega arith in
    let at = bit_without k w k h hw in
    let s = digit_self k in
    let z : bit_at v k ≡ 0 = omega arith in
    let same : bit_or v (2 ^ k) ≡ w =
    same_from_bits_below 64 (bit_or v (2 ^ k)) w (or_lt 64 v (2 ^ k) hv (pow-lt h)) hw (λ i _. back v i (bit_with k v i) (bit_without k w i h hw) (eqb i k) refl) in
    sym (ones_insert k v z) ∙ ap ones same
  where
    back : (v i : ℕ) → bit_at (bit_or v (2 ^ k)) i ≡ max (bit_at v i) (from_bool (eqb i k)) → bit_at v i ≡ bit_at w i - from_bool (eqb i k)
        → (b : Bool) → eqb i k ≡ b → bit_at (bit_or v (2 ^ k)) i ≡ bit_at w i
    back v i a o true t =
        let f : from_bool (eqb i k) ≡ 1 = ap from_bool t in
        let e : bit_at w i ≡ 1 = ap (bit_at w) (eqb-true i k t) ∙ m in
        omega arith
    back v i a o false t =
        let f : from_bool (eqb i k) ≡ 0 = ap from_bool t in
        omega arith

pub set_of_within : (p : ℕ → Bool) (n i : ℕ) → bit_at (set_of p n) i ≡ 1 → i < n
set_of_within p n i m = go (cases_lt i n)
  where
    go : (i < n) ⊎ (n ≤ i) → i < n
    go (inl l) = l
    go (inr g) = let z = bit_at_above (set_of p n) n i (set_of_lt p n) g in absurd (omega arith)

-- a set with a member is not empty, and one that is not empty has a member
pub empty_has_none : (w i : ℕ) → w ≡ 0 → bit_at w i ≡ 1 → ⊥
empty_has_none w i z m = let n : bit_at w i ≡ 0 = ap (λ (x : ℕ). bit_at x i) z ∙ bit_at-zero i in omega arith

pub some_member : (w : ℕ) → 0 < w → (i : ℕ) × (bit_at w i ≡ 1)
some_member =
    bin_ind (λ (n : ℕ). 0 < n → (i : ℕ) × (bit_at n i ≡ 1)) (λ h. absurd (omega arith))
    (λ n ih h. go n ih h (n % 2) refl)
  where
    go : (n : ℕ) → (0 < n / 2 → (i : ℕ) × (bit_at (n / 2) i ≡ 1)) → 0 < n → (d : ℕ) → n % 2 ≡ d → (i : ℕ) × (bit_at n i ≡ 1)
    go n ih h zero e = let m = ih (omega arith) in (suc m.0, bit_at-suc n m.0 ∙ m.1)
    go n ih h (suc d) e = (0, bit_at_lowest n ∙ omega arith)

pub bit_choice : (w i : ℕ) → (bit_at w i ≡ 0) ⊎ (bit_at w i ≡ 1)
bit_choice w i = go (bit_at w i) refl
  where
    go : (d : ℕ) → bit_at w i ≡ d → (bit_at w i ≡ 0) ⊎ (bit_at w i ≡ 1)
    go zero e = inl e
    go (suc d) e = inr (omega arith)

pub meets_found : (v w : ℕ) → meets v w ≡ true → (i : ℕ) × (bit_at v i ≡ 1) × (bit_at w i ≡ 1)
meets_found v w t =
    let x = bit_and v w in
    let ne = eqb-false x 0 (not-true (eqb x 0) t) in
    let m = some_member x (omega arith) in
    let a = bit_at_and v w m.0 in
    let e = m.1 in
    (m.0, omega arith, omega arith)

pub meets_at : (v w i : ℕ) → bit_at v i ≡ 1 → bit_at w i ≡ 1 → meets v w ≡ true
meets_at v w i mv mw =
    let a = bit_at_and v w i in
    ap not (ne_eqb (bit_and v w) 0 (λ z. empty_has_none (bit_and v w) i z (omega arith)))

-- what the test of a member tells
pub not_member : (w i : ℕ) → eqb (bit_at w i) 1 ≡ false → bit_at w i ≡ 0
not_member w i h = let n = eqb-false (bit_at w i) 1 h in omega arith
