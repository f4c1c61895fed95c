-- From the rows to the points that devices read and write, and from these to followers.
use Rattle.std.proofs.Common.{◌≡◌, ℕ, zero, suc, ◌+◌, ◌<◌, ◌≤◌, Bool, true, false, cond, not, ◌&&◌, T, eqb, ltb, ◌⊎◌, List, [], ◌∷◌, map, length, get_or, get_or-drop, take, drop, replicate, set, sym, refl, ap, ◌∙◌, subst, ap₂, inl, inr, le_of_suc-le-suc, not-suc-le-zero, eq-or-lt_of_le, add-one, arith, length-set, get_or-set_other, get_or-set_same, ltb-false, ltb-true, le-ltb, lt-ltb, ne_eqb}
use Rattle.std.specs.Int.{bit_at, from_bool}
use Rattle.std.proofs.lemmas.Nat.Bits.{bit_at-zero, bit_at_above}
use borrow.Author.Tests.{eqb-false}
use Rattle.std.proofs.lemmas.List.{get_or_past, get_or-replicate, get_or-take, length-replicate}
use Rattle.std.proofs.lemmas.Bool.{cases_lt, and_parts, not-true}
use Rattle.flow.specs.declared.touched.Touched.{Touched}
use Rattle.mesh.specs.declared.right.Right.{Right}
use Rattle.mesh.specs.declared.right.Right.TheVariants.{Empty}
use Rattle.mesh.specs.declared.row.Row.{Row}
use Rattle.mesh.specs.declared.shape.Shape.{Shape}
use Rattle.mesh.specs.Rights.{can_read, can_write}
use Rattle.mesh.specs.Table.{row_of}
use Rattle.flow.specs.Flow.{Rights, right_at, placed, rights, Source}
use Rattle.flow.specs.Followers.{Follows, Followers}
use Rattle.flow.specs.Sets.{meets, set_of}
use Rattle.flow.specs.Touched.{TouchesAt, touched_at, Touches, feeds}
use Rattle.flow.proofs.SetLaws.{set_of_bit, set_of_lt, set_of_within, meets_found, meets_at, empty_has_none}

-- the right in a row that is read
pub right_in_row : {W : Type 0} (rows : List (Row W)) (i : ℕ) (x : Row W) → i < length rows → right_at rows i ≡ (get_or rows i x).right
right_in_row [] i x h = absurd (not-suc-le-zero h)
right_in_row (y ∷ ys) zero x h = refl
right_in_row (y ∷ ys) (suc i) x h = right_in_row ys i x (le_of_suc-le-suc h)

-- and in a row that is read of a part of the rows
pub right_in_part : {W : Type 0} (rows : List (Row W)) (first n i : ℕ) (x : Row W) → i < n → first + n ≤ length rows → x ≡ get_or (take n (drop first rows)) i x
    → right_at rows (first + i) ≡ x.right
right_in_part rows first n i x h l e =
    right_in_row rows (first + i) x (omega arith) ∙ ap (λ y. y.right) (sym (e ∙ get_or-take n (drop first rows) i x h ∙ get_or-drop first rows i x))

-- ---- a table of 64 that a loop fills from the front

-- the places below n are as P wants them, and the others hold x still
pub record FilledTo {A : Type 0} (P : ℕ → A → Type 0) (x : A) (n : ℕ) (ys : List A) : Type 0 where
  pub long : length ys ≡ 64
  pub filled : (k : ℕ) → k < n → P k (get_or ys k x)
  pub past : (k : ℕ) → n ≤ k → get_or ys k x ≡ x

pub filled_none : {A : Type 0} (P : ℕ → A → Type 0) (x : A) → FilledTo P x 0 (replicate 64 x)
filled_none P x = record {
  long = length-replicate 64 x;
  filled = λ k h. absurd (omega arith);
  past = λ k h. elim (cases_lt k 64) [
    | inl l ↦ get_or-replicate 64 k x x l
    | inr above ↦ let l = length-replicate 64 x in get_or_past (replicate 64 x) k x (omega arith)
  ];
}

pub filled_more : {A : Type 0} (P : ℕ → A → Type 0) (x : A) (n : ℕ) (ys : List A) (y : A) → n < 64 → P n y → FilledTo P x n ys → FilledTo P x (n + 1) (set ys n y)
filled_more P x n ys y h e f = let l = f.long in record {
  long = simp length-set f.long;
  filled = λ k u. elim (eq-or-lt_of_le (le_of_suc-le-suc (subst (λ m. suc k ≤ m) (add-one n) u))) [
    | inl q ↦ subst (λ j. P j (get_or (set ys n y) j x)) (sym q) (subst (P n) (sym (get_or-set_same ys n y x (omega arith))) e)
    | inr below ↦ subst (P k) (sym (get_or-set_other ys n k y x (λ q. absurd (omega arith)))) (f.filled k below)
  ];
  past = λ k u. get_or-set_other ys n k y x (λ q. absurd (omega arith)) ∙ f.past k (omega arith);
}

-- ---- the points of one device

-- those at which its right passes a test: none of a device that the table does not have
module _ {W : Type 0} (test : Right → Bool) (none : test Empty ≡ false) (s : Shape) (rows : List (Row W)) (d : ℕ) where
  points_of : (w : ℕ) → d < s.devices → w ≡ set_of (λ p. test (right_at rows (row_of s d p))) s.points → (p : ℕ) → bit_at w p ≡ from_bool (test (rights s rows d p))
  points_of w h e p = ap (λ x. bit_at x p) e ∙ go (ltb d s.devices) (lt-ltb d s.devices h) (ltb p s.points) refl
    where
      go : (b : Bool) → b ≡ true → (c : Bool) → ltb p s.points ≡ c
          → bit_at (set_of (λ q. test (right_at rows (row_of s d q))) s.points) p ≡ from_bool (test (cond (b && c) (right_at rows (row_of s d p)) Empty))
      go true t true u = set_of_bit _ s.points p (ltb-true p s.points u)
      go true t false u = bit_at_above _ s.points p (set_of_lt _ s.points) (ltb-false p s.points u) ∙ ap from_bool (sym none)
      go false t c u = cc

  no_points : s.devices ≤ d → (p : ℕ) → bit_at 0 p ≡ from_bool (test (rights s rows d p))
  no_points h p = bit_at-zero p ∙ go (ltb d s.devices) (le-ltb d s.devices h)
    where
      go : (b : Bool) → b ≡ false → 0 ≡ from_bool (test (cond (b && ltb p s.points) (right_at rows (row_of s d p)) Empty))
      go false t = ap from_bool (sym none)
      go true t = cc

pub touches_there : {W : Type 0} (s : Shape) (rows : List (Row W)) (d : ℕ) (t : Touched) → d < s.devices
    → t.reads ≡ set_of (λ p. can_read (right_at rows (row_of s d p))) s.points → t.writes ≡ set_of (λ p. can_write (right_at rows (row_of s d p))) s.points
    → TouchesAt (rights s rows) d t
touches_there s rows d t h r w = record { reading = points_of can_read refl s rows d t.reads h r; writing = points_of can_write refl s rows d t.writes h w }

pub touches_nothing : {W : Type 0} (s : Shape) (rows : List (Row W)) (d : ℕ) → s.devices ≤ d → TouchesAt (rights s rows) d (record { reads = 0; writes = 0 })
touches_nothing s rows d h = record { reading = no_points can_read refl s rows d h; writing = no_points can_write refl s rows d h }

-- the sets of every device, where each device of the table has its place
pub touches_each : {W : Type 0} (s : Shape) (rows : List (Row W)) (ts : List Touched)
    → FilledTo (TouchesAt (rights s rows)) (record { reads = 0; writes = 0 }) s.devices ts → Touches (rights s rows) ts
touches_each s rows ts f d = go (cases_lt d s.devices)
  where
    go : (d < s.devices) ⊎ (s.devices ≤ d) → TouchesAt (rights s rows) d (touched_at ts d)
    go (inl h) = f.filled d h
    go (inr h) = subst (TouchesAt (rights s rows) d) (sym (f.past d h)) (touches_nothing s rows d h)

-- ---- followers

digit_true : (b : Bool) → from_bool b ≡ 1 → b ≡ true
digit_true true e = refl
digit_true false e = absurd (omega arith)

pub true_holds : (b : Bool) → b ≡ true → T b
true_holds b e = subst T (sym e) tt

pub holds_true : (b : Bool) → T b → b ≡ true
holds_true true t = refl
holds_true false t = absurd t

-- a right that lets a device do something stands in the table
pub placed_within : (test : Right → Bool) → test Empty ≡ false → (s : Shape) (rs : List Right) (d p : ℕ) → T (test (placed s rs d p)) → (d < s.devices) × (p < s.points)
placed_within test none s rs d p = go (ltb d s.devices) refl (ltb p s.points) refl
  where
    go : (b : Bool) → ltb d s.devices ≡ b → (c : Bool) → ltb p s.points ≡ c → T (test (cond (b && c) (get_or rs (row_of s d p) Empty) Empty))
        → (d < s.devices) × (p < s.points)
    go true t true u h = (ltb-true d s.devices t, ltb-true p s.points u)
    go true t false u h = absurd (subst T none h)
    go false t c u h = absurd (subst T none h)

-- all sources are devices of the table, by points of the table
abbrev pub Inside : Shape → Rights → Type 0
Inside s g = (a b : ℕ) (h : Source g a b) → (a < s.devices) × (b < s.devices) × (h.point < s.points)

pub placed_inside : (s : Shape) (rs : List Right) → Inside s (placed s rs)
placed_inside s rs a b h =
    let w = placed_within can_write refl s rs a h.point h.written in
    let r = placed_within can_read refl s rs b h.point h.read in
    (w.0, r.0, w.1)

pub source_within : {W : Type 0} (s : Shape) (rows : List (Row W)) (a b : ℕ) → Source (rights s rows) a b → (a < s.devices) × (b < s.devices)
source_within s rows a b h = let w = placed_inside s (map (λ r. r.right) rows) a b h in (w.0, w.1)

-- what the sets of points say of sources
pub feeds_source : (g : Rights) (ts : List Touched) (a b : ℕ) → Touches g ts → feeds ts a b ≡ true → Source g a b
feeds_source g ts a b t e =
    let both = and_parts (not (eqb a b)) (meets (touched_at ts a).writes (touched_at ts b).reads) e in
    let m = meets_found (touched_at ts a).writes (touched_at ts b).reads both.1 in
    record {
      apart = eqb-false a b (not-true (eqb a b) both.0);
      point = m.0;
      written = true_holds _ (digit_true _ (sym ((t a).writing m.0) ∙ m.1));
      read = true_holds _ (digit_true _ (sym ((t b).reading m.0) ∙ m.2));
    }

pub source_feeds : (g : Rights) (ts : List Touched) (a b : ℕ) → Touches g ts → Source g a b → feeds ts a b ≡ true
source_feeds g ts a b t h =
    let w = (t a).writing h.point ∙ ap from_bool (holds_true _ h.written) in
    let r = (t b).reading h.point ∙ ap from_bool (holds_true _ h.read) in
    ap₂ (λ x y. not x && y) (ne_eqb a b h.apart) (meets_at (touched_at ts a).writes (touched_at ts b).reads h.point w r)

module _ {W : Type 0} (s : Shape) (rows : List (Row W)) (ts : List Touched) (words : List ℕ) (t : Touches (rights s rows) ts)
    (f : FilledTo (λ a w. w ≡ set_of (feeds ts a) s.devices) 0 s.devices words) where
  pub words_past : (a : ℕ) → s.devices ≤ a → get_or words a 0 ≡ 0
  words_past = f.past

  pub words_followers : Followers (rights s rows) words
  words_followers = record {
    sound = λ a b m. feeds_source (rights s rows) ts a b t (member a b (cases_lt a s.devices) m);
    whole = λ a b h.
        let w = source_within s rows a b h in
        ap (λ x. bit_at x b) (f.filled a w.0) ∙ set_of_bit (feeds ts a) s.devices b w.1 ∙ ap from_bool (source_feeds (rights s rows) ts a b t h);
  }
    where
      member : (a b : ℕ) → (a < s.devices) ⊎ (s.devices ≤ a) → Follows words a b → feeds ts a b ≡ true
      member a b (inl l) m =
          let i = ap (λ x. bit_at x b) (sym (f.filled a l)) ∙ m in
          digit_true _ (sym (set_of_bit (feeds ts a) s.devices b (set_of_within (feeds ts a) s.devices b i)) ∙ i)
      member a b (inr g) m = absurd (empty_has_none (get_or words a 0) b (words_past a g) m)
