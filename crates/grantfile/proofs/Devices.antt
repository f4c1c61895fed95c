-- The rows of the table, device by device.
use Rattle.std.proofs.Common.{◌≡◌, ℕ, suc, ◌+◌, ◌*◌, ◌<◌, ◌≤◌, ◌≢◌, ◌⊎◌, List, length, get_or, drop, sym, ap, ◌∙◌, subst, inl, inr, mul-le-mul_right, suc-mul, add-one, arith, rules}
use borrow.Rule.Slice.PartMut.{put_mid}
use Rattle.std.proofs.lemmas.List.{places, drop-drop}
use Rattle.std.proofs.lemmas.Slice.{drop-put_mid}
use Rattle.std.proofs.lemmas.Bool.{cases_eq}
use Rattle.mesh.specs.declared.row.Row.{Row}
use Rattle.mesh.specs.declared.shape.Shape.{Shape}
use Rattle.mesh.specs.Kind.{Kind}
use Rattle.mesh.specs.Rows.{empty_row}
use Rattle.mesh.specs.Table.{rows_of}
use Rattle.grantfile.specs.Format.{ShapeOf, points_of, count_of, body_at, grant_at, point_at}
use Rattle.grantfile.specs.Inner.{GrantRow, BodyFilled}
use Rattle.grantfile.specs.Reading.{Filled}

-- each grant of the first n devices stands in its row, and every other row of theirs is empty
pub record FilledTo {W : Type 0} (k : Kind W) (n : ℕ) (file : List ℕ) (rows : List (Row W)) : Type 0 where
  pub named : (d j : ℕ) (x : Row W) → d < n → j < count_of file d
      → GrantRow k file (grant_at file d j) (get_or rows (d * points_of file + point_at file (grant_at file d j)) x)
  pub others : (d p : ℕ) (x : Row W) → d < n → p < points_of file → ((j : ℕ) → j < count_of file d → point_at file (grant_at file d j) ≢ p)
      → get_or rows (d * points_of file + p) x ≡ empty_row k

-- the rows of a device come before those of a later one, and within those of all
pub rows_after : (d e points : ℕ) → d < e → d * points + points ≤ e * points
rows_after d e points h = let m = mul-le-mul_right {m = suc d} {n = e} points h in omega (arith, suc-mul d points)

pub rows_within : (s : Shape) (d points n : ℕ) → d < s.devices → points ≡ s.points → rows_of s ≤ n → d * points + points ≤ n
rows_within s d points n h p w =
    let m = rows_after d s.devices points h in
    let e : s.devices * points ≡ s.devices * s.points = ap (λ q. s.devices * q) p in
    omega arith

-- a row before the part that was written, and one in it
at_before : {X : Type 0} (a k : ℕ) (xs ys : List X) (i : ℕ) (x : X) → i < a → a ≤ length xs → get_or (put_mid a k xs ys) i x ≡ get_or xs i x
at_before a k xs ys i x h l = search (rules, places)

at_within : {X : Type 0} (a k : ℕ) (xs ys : List X) (i : ℕ) (x : X) → i < length ys → a ≤ length xs → get_or (put_mid a k xs ys) (a + i) x ≡ get_or ys i x
at_within {X} a k xs ys i x h l = search (rules, places)

-- one more device has its rows
pub more_to : {W : Type 0} (k : Kind W) (file : List ℕ) (d start count at n : ℕ) (rows part : List (Row W))
    → FilledTo k d file rows → BodyFilled k file start count part → start ≡ body_at file d → count ≡ count_of file d
    → at ≡ d * points_of file → length part ≡ points_of file → at + points_of file ≤ length rows
    → ((e j : ℕ) → e < d + 1 → j < count_of file e → point_at file (grant_at file e j) < points_of file)
    → FilledTo k (d + 1) file (put_mid at n rows part)
more_to {W} k file d start count at n rows part f b s c a l w inside =
    record {
      named = λ e j x h m. named e j x m h (inside e j h m) (cases_eq e d);
      others = λ e p x h m none. others e p x h m none (cases_eq e d);
    }
  where
    own : BodyFilled k file (body_at file d) (count_of file d) part
    own = subst (λ m. BodyFilled k file m (count_of file d) part) s (subst (λ m. BodyFilled k file start m part) c b)

    earlier : (e p : ℕ) (x : Row W) → e < d → p < points_of file → get_or (put_mid at n rows part) (e * points_of file + p) x ≡ get_or rows (e * points_of file + p) x
    earlier e p x h m =
        let r = rows_after e d (points_of file) h in
        at_before at n rows part (e * points_of file + p) x (omega arith) (omega arith)

    here : (p : ℕ) (x : Row W) → p < points_of file → get_or (put_mid at n rows part) (d * points_of file + p) x ≡ get_or part p x
    here p x m =
        let z : d * points_of file + p ≡ at + p = omega arith in
        ap (λ i. get_or (put_mid at n rows part) i x) z ∙ at_within at n rows part p x (omega arith) (omega arith)

    named : (e j : ℕ) (x : Row W) → j < count_of file e → e < d + 1 → point_at file (grant_at file e j) < points_of file → (e ≡ d) ⊎ (e ≡ d → ⊥)
        → GrantRow k file (grant_at file e j) (get_or (put_mid at n rows part) (e * points_of file + point_at file (grant_at file e j)) x)
    named e j x m h p (inl q) =
        let P : ℕ → Type 0 = λ v. GrantRow k file (grant_at file v j) (get_or (put_mid at n rows part) (v * points_of file + point_at file (grant_at file v j)) x) in
        let m' = subst (λ v. j < count_of file v) q m in
        let p' = subst (λ v. point_at file (grant_at file v j) < points_of file) q p in
        subst P (sym q) (λ right t. here (point_at file (grant_at file d j)) x p' ∙ own.named j x m' right t)
    named e j x m h p (inr ne) =
        λ right t. earlier e (point_at file (grant_at file e j)) x (omega (arith, ne)) p ∙ f.named e j x (omega (arith, ne)) m right t

    others : (e p : ℕ) (x : Row W) → e < d + 1 → p < points_of file → ((j : ℕ) → j < count_of file e → point_at file (grant_at file e j) ≡ p → ⊥) → (e ≡ d) ⊎ (e ≡ d → ⊥)
        → get_or (put_mid at n rows part) (e * points_of file + p) x ≡ empty_row k
    others e p x h m none (inl q) =
        let P : ℕ → Type 0 = λ v. get_or (put_mid at n rows part) (v * points_of file + p) x ≡ empty_row k in
        let none' = subst (λ v. (j : ℕ) → j < count_of file v → point_at file (grant_at file v j) ≡ p → ⊥) q none in
        subst P (sym q) (here p x m ∙ own.others p x (omega arith) none')
    others e p x h m none (inr ne) = earlier e p x (omega (arith, ne)) m ∙ f.others e p x (omega (arith, ne)) m none

-- the rows after those of the device are as they were
pub more_beyond : {X : Type 0} (d points n : ℕ) (rows part before : List X) → drop (d * points) rows ≡ drop (d * points) before
    → n ≡ points → length part ≡ points → d * points ≤ length rows
    → drop ((d + 1) * points) (put_mid (d * points) n rows part) ≡ drop ((d + 1) * points) before
more_beyond d points n rows part before e q l w =
    let a = suc-mul d points in
    let z : (d + 1) * points ≡ d * points + points = rw add-one a in
    rw z
    (drop-put_mid (d * points) n rows part (d * points + points) (omega arith) w (omega arith)
    ∙ sym (drop-drop points (d * points) rows) ∙ ap (λ xs. drop points xs) e ∙ drop-drop points (d * points) before)

-- all devices have their rows
pub all_filled : {W : Type 0} (k : Kind W) (file : List ℕ) (s : Shape) (d : ℕ) (rows : List (Row W)) → ShapeOf file s → d ≡ s.devices
    → FilledTo k d file rows → Filled k s file rows
all_filled k file s d rows e q f =
    record {
      named =
          λ d j r x h m t.
          ap (λ n. get_or rows (d * n + point_at file (grant_at file d j)) x) e.1 ∙ f.named d j x (omega arith) m r t;
      others = λ d p x h m none. ap (λ n. get_or rows (d * n + p) x) e.1 ∙ f.others d p x (omega arith) (omega arith) none;
    }
