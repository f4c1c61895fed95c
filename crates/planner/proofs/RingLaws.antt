-- The tests of rings answer the propositions, and the rows to decide are those of the grants on a ring.
use Rattle.std.proofs.Common.{◌≡◌, ℕ, zero, suc, ◌+◌, ◌/◌, ◌%◌, ◌<◌, ◌≤◌, Bool, true, false, cond, not, ◌&&◌, ◌||◌, T, eqb, ◌⊎◌, List, [], ◌∷◌, map, sym, refl, subst, ap₂, inl, inr, not-suc-le-zero, div-add-mod', arith}
use Rattle.std.proofs.lemmas.Nat.{mul-add-lt, div-mul-add, mod-mul-add}
use Rattle.std.proofs.lemmas.Bool.{cases_eq}
use Rattle.mesh.specs.declared.right.Right.{Right}
use Rattle.mesh.specs.declared.shape.Shape.{Shape}
use Rattle.mesh.specs.Rights.{can_read, can_write}
use Rattle.mesh.specs.Table.{row_of, rows_of, InTable}
use Rattle.flow.specs.Flow.{Rights, placed, Source, Path, step, further, In, Ring, OnRing}
use Rattle.flow.proofs.FlowLaws.{Inside, placed_within, placed_inside}
use Rattle.flow.proofs.PathLaws.{joined, ring_through, adjacent_source, adjacent_back, ring_path, path_ring}
use Rattle.planner.specs.Grants.{Slot, right_in, rights_in}
use Rattle.planner.specs.Search.{Rising, Decides}
use Rattle.planner.proofs.TestLaws.{both, parts, by_first, by_second, either, equal_test, test_equal, apart_test, test_apart, any_found, any_below_holds}
use Rattle.planner.specs.FlowTests.{any_below, is_source, flows_to, has_ring, step_on_ring, on_ring, passing, to_decide}

module _ (s : Shape) (g : Rights) where
  pub is_source_test : (a b : ℕ) → T (is_source s g a b) → Source g a b
  is_source_test a b t =
      let h = parts (not (eqb a b)) (any_below s.points (λ p. can_write (g a p) && can_read (g b p))) t in
      let at = any_found s.points (λ p. can_write (g a p) && can_read (g b p)) h.1 in
      let r = parts (can_write (g a at.0)) (can_read (g b at.0)) at.2 in
      record { apart = test_apart a b h.0; point = at.0; written = r.0; read = r.1 }

  flows_path : (n a b : ℕ) → T (flows_to s g n a b) → Path (Source g) a b
  flows_path zero a b t = step (is_source_test a b t)
  flows_path (suc n) a b t = elim (either (flows_to s g n a b) (flows_to s g n a n && flows_to s g n n b) t) [
    | inl h ↦ flows_path n a b h
    | inr h ↦ (let p = parts (flows_to s g n a n) (flows_to s g n n b) h in joined (flows_path n a n p.0) (flows_path n n b p.1))
  ]

  source_flows : (n a b : ℕ) → T (is_source s g a b) → T (flows_to s g n a b)
  source_flows zero a b t = t
  source_flows (suc n) a b t = by_first (flows_to s g n a b) (flows_to s g n a n && flows_to s g n n b) (source_flows n a b t)

  flows_over : (n m a b : ℕ) → m < n → T (flows_to s g n a m) → T (flows_to s g n m b) → T (flows_to s g n a b)
  flows_over zero m a b l p q = absurd (not-suc-le-zero l)
  flows_over (suc n) m a b l p q = go (λ k x y. flows_over n m x y k) (cases_eq m n)
    where
      -- over n, or not
      ways : (x y : ℕ) → T (flows_to s g (suc n) x y) → T (flows_to s g n x y) ⊎ (T (flows_to s g n x n) × T (flows_to s g n n y))
      ways x y t = elim (either (flows_to s g n x y) (flows_to s g n x n && flows_to s g n n y) t) [ inl h ↦ inl h | inr h ↦ inr (parts (flows_to s g n x n) (flows_to s g n n y) h) ]

      direct : T (flows_to s g n a b) → T (flows_to s g (suc n) a b)
      direct h = by_first (flows_to s g n a b) (flows_to s g n a n && flows_to s g n n b) h

      over : T (flows_to s g n a n) → T (flows_to s g n n b) → T (flows_to s g (suc n) a b)
      over h k = by_second (flows_to s g n a b) (flows_to s g n a n && flows_to s g n n b) (both (flows_to s g n a n) (flows_to s g n n b) h k)

      beside : ((x y : ℕ) → T (flows_to s g n x m) → T (flows_to s g n m y) → T (flows_to s g n x y))
          → T (flows_to s g n a m) ⊎ (T (flows_to s g n a n) × T (flows_to s g n n m)) → T (flows_to s g n m b) ⊎ (T (flows_to s g n m n) × T (flows_to s g n n b))
          → T (flows_to s g (suc n) a b)
      beside on (inl h) (inl k) = direct (on a b h k)
      beside on (inl h) (inr k) = over (on a n h k.0) k.1
      beside on (inr h) (inl k) = over h.0 (on n b h.1 k)
      beside on (inr h) (inr k) = over h.0 k.1

      go : (m < n → (x y : ℕ) → T (flows_to s g n x m) → T (flows_to s g n m y) → T (flows_to s g n x y)) → (m ≡ n) ⊎ (m ≡ n → ⊥) → T (flows_to s g (suc n) a b)
      go on (inl e) =
          over
          (elim (ways a n (subst (λ i. T (flows_to s g (suc n) a i)) e p)) [ inl h ↦ h | inr h ↦ h.0 ])
          (elim (ways n b (subst (λ i. T (flows_to s g (suc n) i b)) e q)) [ inl h ↦ h | inr h ↦ h.1 ])
      go on (inr ne) = beside (on (omega arith)) (ways a m p) (ways m b q)

  module _ (inside : Inside s g) where
    pub source_is : (a b : ℕ) → Source g a b → T (is_source s g a b)
    source_is a b h =
        both (not (eqb a b)) (any_below s.points (λ p. can_write (g a p) && can_read (g b p))) (apart_test a b h.apart)
        (any_below_holds s.points _ h.point (inside a b h).2 (both (can_write (g a h.point)) (can_read (g b h.point)) h.written h.read))

    path_flows : {a b : ℕ} → Path (Source g) a b → T (flows_to s g s.devices a b)
    path_flows {a} {b} (step r) = source_flows s.devices a b (source_is a b r)
    path_flows {a} {b} (further {b = m} p r) = flows_over s.devices m a b (inside m b r).0 (path_flows p) (source_flows s.devices m b (source_is m b r))

    path_start : {a b : ℕ} → Path (Source g) a b → a < s.devices
    path_start {a} {b} (step r) = (inside a b r).0
    path_start (further p r) = path_start p

-- ---- rings

pub has_ring_test : (s : Shape) (rs : List Right) → (T (has_ring s (placed s rs)) → Ring (placed s rs)) × (Ring (placed s rs) → T (has_ring s (placed s rs)))
has_ring_test s rs = (found, stands)
  where
    found : T (has_ring s (placed s rs)) → Ring (placed s rs)
    found t =
        let at = any_found s.devices (λ a. flows_to s (placed s rs) s.devices a a) t in
        path_ring (placed s rs) at.0 at.0 refl (flows_path s (placed s rs) s.devices at.0 at.0 at.2)

    stands : Ring (placed s rs) → T (has_ring s (placed s rs))
    stands r =
        let inside = placed_inside s rs in
        let p = ring_path (placed s rs) r in
        any_below_holds s.devices (λ a. flows_to s (placed s rs) s.devices a a) r.first (path_start s (placed s rs) inside p) (path_flows s (placed s rs) inside p)

-- ---- grants on a ring

module _ (s : Shape) (g : Rights) (d p : ℕ) where
  pub on_ring_test : T (on_ring s g d p) → OnRing g d p
  on_ring_test t =
      let at = any_found s.devices (λ a. any_below s.devices (λ b. step_on_ring s g d p a b)) t in
      let to = any_found s.devices (λ b. step_on_ring s g d p at.0 b) at.2 in
      here at.0 to.0 to.2
    where
      here : (a b : ℕ) → T (step_on_ring s g d p a b) → OnRing g d p
      here a b h =
          let ends = parts (eqb d a || eqb d b) _ h in
          let ne = parts (not (eqb a b)) _ ends.1 in
          let w = parts (can_write (g a p)) _ ne.1 in
          let r = parts (can_read (g b p)) (flows_to s g s.devices b a) w.1 in
          let source : Source g a b = record { apart = test_apart a b ne.0; point = p; written = w.0; read = r.0 } in
          let ring = ring_through g a b source (flows_path s g s.devices b a r.1) in
          record {
            ring = ring.0;
            from = a;
            to = b;
            adjacent = ring.1;
            written = w.0;
            read = r.0;
            one_of = elim (either (eqb d a) (eqb d b) ends.0) [ inl e ↦ inl (test_equal d a e) | inr e ↦ inr (test_equal d b e) ];
          }

  pub ring_on : Inside s g → OnRing g d p → T (on_ring s g d p)
  ring_on inside o =
      let a = o.from in
      let b = o.to in
      let source = adjacent_source g o.ring a b o.adjacent in
      let w = inside a b source in
      any_below_holds s.devices (λ x. any_below s.devices (λ y. step_on_ring s g d p x y)) a w.0
      (any_below_holds s.devices (λ y. step_on_ring s g d p a y) b w.1
      (both (eqb d a || eqb d b) _ (ends o.one_of)
      (both (not (eqb a b)) _ (apart_test a b source.apart)
      (both (can_write (g a p)) _ o.written
      (both (can_read (g b p)) (flows_to s g s.devices b a) o.read (path_flows s g inside (adjacent_back g o.ring a b o.adjacent)))))))
    where
      ends : (d ≡ o.from) ⊎ (d ≡ o.to) → T (eqb d o.from || eqb d o.to)
      ends (inl e) = by_first (eqb d o.from) (eqb d o.to) (equal_test d o.from e)
      ends (inr e) = by_second (eqb d o.from) (eqb d o.to) (equal_test d o.to e)

-- a grant on a ring stands in the table
on_ring_within : (s : Shape) (rs : List Right) (d p : ℕ) → OnRing (placed s rs) d p → InTable s d p
on_ring_within s rs d p o =
    let w = placed_within can_write refl s rs o.from p o.written in
    let r = placed_within can_read refl s rs o.to p o.read in
    (elim o.one_of [ inl e ↦ omega arith | inr e ↦ omega arith ], w.1)

-- ---- the rows to decide

passing_found : (f : ℕ → Bool) (n j i : ℕ) → In i (passing f n j) → (j ≤ i) × (i < j + n) × T (f i)
passing_found f zero j i h = absurd h
passing_found f (suc n) j i h = go (passing_found f n (suc j) i) (f j) refl h
  where
    go : (In i (passing f n (suc j)) → (suc j ≤ i) × (i < suc j + n) × T (f i)) → (b : Bool) → f j ≡ b → In i (cond b (j ∷ passing f n (suc j)) (passing f n (suc j)))
        → (j ≤ i) × (i < j + suc n) × T (f i)
    go on true e (inl q) = (omega arith, omega arith, subst (λ k. T (f k)) (sym q) (subst T (sym e) tt))
    go on true e (inr k) = let r = on k in (omega arith, omega arith, r.2)
    go on false e k = let r = on k in (omega arith, omega arith, r.2)

passes : (f : ℕ → Bool) (n j i : ℕ) → j ≤ i → i < j + n → T (f i) → In i (passing f n j)
passes f zero j i low high t = absurd (omega arith)
passes f (suc n) j i low high t = go (passes f n (suc j) i) (f j) refl (cases_eq i j)
  where
    go : (suc j ≤ i → i < suc j + n → T (f i) → In i (passing f n (suc j))) → (b : Bool) → f j ≡ b → (i ≡ j) ⊎ (i ≡ j → ⊥)
        → In i (cond b (j ∷ passing f n (suc j)) (passing f n (suc j)))
    go on true e (inl q) = inl q
    go on true e (inr ne) = inr (on (omega arith) (omega arith) t)
    go on false e (inl q) = absurd (subst T e (subst (λ k. T (f k)) q t))
    go on false e (inr ne) = on (omega arith) (omega arith) t

passing_rising : (f : ℕ → Bool) (n j : ℕ) → Rising (passing f n j)
passing_rising f zero j = tt
passing_rising f (suc n) j = go (passing_rising f n (suc j)) (f j)
  where
    go : Rising (passing f n (suc j)) → (b : Bool) → Rising (cond b (j ∷ passing f n (suc j)) (passing f n (suc j)))
    go on true = ((λ y i. (passing_found f n (suc j) y i).0), on)
    go on false = on

pub to_decide_test : {W : Type 0} (s : Shape) (xs : List (Slot W)) → Decides s xs (to_decide s xs)
to_decide_test s xs = record { rising = passing_rising test (rows_of s) 0; all = all; none_else = none_else }
  where
    test : ℕ → Bool
    test i = on_ring s (rights_in s xs) (i / s.points) (i % s.points)

    all : (d p : ℕ) → OnRing (rights_in s xs) d p → In (row_of s d p) (to_decide s xs)
    all d p o =
        let w = on_ring_within s (map right_in xs) d p o in
        let low = mul-add-lt d s.points p s.devices w.0 w.1 in
        passes test (rows_of s) 0 (row_of s d p) (omega arith) (omega arith)
        (rw (div-mul-add d s.points p w.1, mod-mul-add d s.points p w.1) (ring_on s (rights_in s xs) d p (placed_inside s (map right_in xs)) o))

    none_else : (i : ℕ) → In i (to_decide s xs) → (d : ℕ) × (p : ℕ) × (i ≡ row_of s d p) × OnRing (rights_in s xs) d p
    none_else i h =
        let f = passing_found test (rows_of s) 0 i h in
        (i / s.points, i % s.points, sym (div-add-mod' i s.points), on_ring_test s (rights_in s xs) (i / s.points) (i % s.points) f.2)

-- two rising lists of the same numbers are the same list
rising_same : (xs ys : List ℕ) → Rising xs → Rising ys → ((i : ℕ) → In i xs → In i ys) → ((i : ℕ) → In i ys → In i xs) → xs ≡ ys
rising_same [] [] rx ry to back = refl
rising_same [] (y ∷ ys) rx ry to back = absurd (back y (inl refl))
rising_same (x ∷ xs) [] rx ry to back = absurd (to x (inl refl))
rising_same (x ∷ xs) (y ∷ ys) rx ry to back = ap₂ ◌∷◌ same (rising_same xs ys rx.1 ry.1 on from)
  where
    same : x ≡ y
    same = elim (to x (inl refl)) [
      | inl e ↦ e
      | inr i ↦ elim (back y (inl refl)) [ inl e ↦ sym e | inr j ↦ (let u = ry.0 x i in let v = rx.0 y j in absurd (omega arith)) ]
    ]

    on : (i : ℕ) → In i xs → In i ys
    on i h = elim (to i (inr h)) [ inl e ↦ (let u = rx.0 i h in let q = same in absurd (omega arith)) | inr j ↦ j ]

    from : (i : ℕ) → In i ys → In i xs
    from i h = elim (back i (inr h)) [ inl e ↦ (let u = ry.0 i h in let q = same in absurd (omega arith)) | inr j ↦ j ]

decides_also : {W : Type 0} (s : Shape) (xs : List (Slot W)) (ds es : List ℕ) → Decides s xs ds → Decides s xs es → (i : ℕ) → In i ds → In i es
decides_also s xs ds es a b i h = let r = a.none_else i h in subst (λ k. In k es) (sym r.2) (b.all r.0 r.1 r.3)

pub decides_unique : {W : Type 0} (s : Shape) (xs : List (Slot W)) (ds es : List ℕ) → Decides s xs ds → Decides s xs es → ds ≡ es
decides_unique s xs ds es a b = rising_same ds es a.rising b.rising (decides_also s xs ds es a b) (decides_also s xs es ds b a)
