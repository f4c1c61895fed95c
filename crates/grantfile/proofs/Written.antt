-- Rows as the grants of a body are written into them, one by one.
use Rattle.std.proofs.Common.{◌≡◌, ℕ, zero, suc, ◌+◌, ◌-◌, ◌*◌, ◌<◌, true, false, ltb, leb, ◌≢◌, ◌⊎◌, List, [], ◌∷◌, length, get_or, set, is_ok, None, Ok, Err, Result, sym, refl, ap, ◌∙◌, subst, inl, inr, arith, length-set}
use Rattle.std.specs.List.{FoldsTo, range_with_len, flat_map}
use Rattle.std.specs.Result.{result_err}
use Rattle.std.proofs.lemmas.List.{get_or-set_same, get_or-set_other}
use Rattle.std.proofs.lemmas.Bool.{cases_eq, or_parts, and_cases, leb-false, ltb-false}
use Rattle.mesh.specs.declared.row.Row.{Row}
use Rattle.mesh.specs.Kind.{Kind}
use Rattle.mesh.specs.Rows.{empty_row}
use Rattle.grantfile.specs.declared.fault.Fault.{Fault}
use Rattle.grantfile.specs.Format.{point_at, points_of}
use Rattle.grantfile.specs.Inner.{GrantRow, BodyFilled}
use Rattle.grantfile.specs.Tests.{Test, first, out_of_order, grant_tests}
use Rattle.grantfile.proofs.Firsts.{under, joined_passed}

-- a grant that passes: its point is in the table, and above that of the grant before it
pub ordered : (file : List ℕ) (start j : ℕ) → out_of_order file start j ≡ false
    → (point_at file (start + 6 * j) < points_of file) × (0 < j → point_at file (start + 6 * (j - 1)) < point_at file (start + 6 * j))
ordered file start j e =
    let p = or_parts _ _ e in
    (leb-false _ _ p.0, λ h. go (and_cases _ _ p.1) h)
  where
    go : (ltb 0 j ≡ false) ⊎ (leb (point_at file (start + 6 * j)) (point_at file (start + 6 * (j - 1))) ≡ false)
        → 0 < j → point_at file (start + 6 * (j - 1)) < point_at file (start + 6 * j)
    go (inl a) h = absurd (omega (arith, ltb-false 0 j a))
    go (inr b) h = leb-false _ _ b

-- what rises from each to the next rises from any to any later
rises : (f : ℕ → ℕ) (n : ℕ) → ((i : ℕ) → i < n → 0 < i → f (i - 1) < f i) → (i j : ℕ) → i < j → j < n → f i < f j
rises f n h i zero l m = absurd (omega arith)
rises f n h i (suc j) l m =
    let z : suc j - 1 ≡ j = omega arith in
    let s : f j < f (suc j) = rw z at (h (suc j) m (omega arith)) in
    go (cases_eq i j) (rises f n h i j) s
  where
    go : (i ≡ j) ⊎ (i ≡ j → ⊥) → (i < j → j < n → f i < f j) → f j < f (suc j) → f i < f (suc j)
    go (inl e) r s = let q : f i ≡ f j = ap f e in omega arith
    go (inr ne) r s = let d : i < j = omega (arith, ne) in let q = r d (omega arith) in omega arith

-- the points of a body that passes
pub points_inside : {W : Type 0} (k : Kind W) (file : List ℕ) (start n j : ℕ) → first (flat_map (grant_tests k file start) (range_with_len 0 n)) ≡ None → j < n
    → point_at file (start + 6 * j) < points_of file
points_inside k file start n j e h =
    (ordered file start j (under _ _ _ (joined_passed (grant_tests k file start) n j h e)).0).0

pub points_rise : {W : Type 0} (k : Kind W) (file : List ℕ) (start n i j : ℕ) → first (flat_map (grant_tests k file start) (range_with_len 0 n)) ≡ None → i < j → j < n
    → point_at file (start + 6 * i) < point_at file (start + 6 * j)
points_rise k file start n i j e l h =
    rises (λ m. point_at file (start + 6 * m)) n (λ m b. (ordered file start m (under _ _ _ (joined_passed (grant_tests k file start) n m b e)).0).1) i j l h

-- a grant whose tests pass is read
pub grant_read : {X : Type 0} (ts : List Test) (r : Result X Fault) → first ts ≡ None → first ts ≡ result_err r → is_ok r ≡ true
grant_read ts (Ok row) e g = refl
grant_read ts (Err f) e g = absurd (cc)

-- rows that are all made by the same call
pub all_made : {P X : Type 0} (R : P → X → P → Type 0) (p : P) (row : X) → ((x : X) (q : P) → R p x q → (x ≡ row) × (q ≡ p))
    → (xs : List X) (q : P) → FoldsTo R p xs q → (i : ℕ) (x : X) → i < length xs → get_or xs i x ≡ row
all_made R p row says [] q f i x h = absurd (omega arith)
all_made R p row says (y ∷ ys) q f zero x h = (says y f.0 f.1).0
all_made R p row says (y ∷ ys) q f (suc i) x h = all_made R p row says ys q (subst (λ s. FoldsTo R s ys q) (says y f.0 f.1).1 f.2) i x (omega arith)

-- no grant is written yet
pub none_filled : {W : Type 0} (k : Kind W) (file : List ℕ) (start : ℕ) (rows : List (Row W))
    → ((i : ℕ) (x : Row W) → i < length rows → get_or rows i x ≡ empty_row k) → BodyFilled k file start 0 rows
none_filled k file start rows h = record { named = λ j x l. absurd (omega arith); others = λ p x l none. h p x l }

-- one more grant is written
pub more_filled : {W : Type 0} (k : Kind W) (file : List ℕ) (start j : ℕ) (rows : List (Row W)) (row : Row W)
    → BodyFilled k file start j rows → point_at file (start + 6 * j) < length rows
    → ((i : ℕ) → i < j → point_at file (start + 6 * i) < point_at file (start + 6 * j))
    → GrantRow k file (start + 6 * j) row
    → BodyFilled k file start (j + 1) (set rows (point_at file (start + 6 * j)) row)
more_filled {W} k file start j rows row b h below r =
    record {
      named = λ i x l. named i x l (cases_eq i j);
      others =
          λ p x l none.
          let ne : p ≢ at = λ e. none j (omega arith) (sym e) in
          get_or-set_other rows at p row x ne ∙ b.others p x (simp length-set at l) (λ i m e. none i (omega arith) e);
    }
  where
    at : ℕ
    at = point_at file (start + 6 * j)

    named : (i : ℕ) (x : Row W) → i < j + 1 → (i ≡ j) ⊎ (i ≡ j → ⊥) → GrantRow k file (start + 6 * i) (get_or (set rows (point_at file (start + 6 * j)) row) (point_at file (start + 6 * i)) x)
    named i x l (inl e) =
        let P : ℕ → Type 0 = λ m. GrantRow k file (start + 6 * m) (get_or (set rows (point_at file (start + 6 * j)) row) (point_at file (start + 6 * m)) x) in
        subst P (sym e) (λ right s. get_or-set_same rows (point_at file (start + 6 * j)) row x h ∙ r right s)
    named i x l (inr ne) =
        let m : i < j = omega (arith, ne) in
        let lt = below i m in
        let other : point_at file (start + 6 * i) ≢ point_at file (start + 6 * j) = λ e. omega arith in
        λ right s. get_or-set_other rows (point_at file (start + 6 * j)) (point_at file (start + 6 * i)) row x other ∙ b.named i x m right s
