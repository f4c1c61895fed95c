-- The search's question about rings has the facts that the walk rests on.
use Rattle.std.proofs.Common.{◌≡◌, ℕ, zero, suc, ◌+◌, ◌-◌, ◌^◌, ◌<◌, ◌≤◌, Bool, true, false, cond, not, ◌&&◌, T, eqb, ltb, ◌⊎◌, List, [], ◌∷◌, ◌++◌, length, get_or, Some, None, Option, sym, refl, ap, ◌∙◌, subst, inl, inr, le_of_suc-le-suc, not-suc-le-zero, arith, eqb-true}
use borrow.Author.Tests.{eqb-false}
use Rattle.std.proofs.lemmas.Bool.{cases_lt}
use Rattle.mesh.specs.declared.right.Right.{Right}
use Rattle.mesh.specs.declared.right.Right.TheVariants.{Empty}
use Rattle.mesh.specs.declared.shape.Shape.{Shape}
use Rattle.mesh.specs.Kind.{Kind, Lawful}
use Rattle.mesh.specs.Rights.{can_read, can_write}
use Rattle.mesh.specs.Table.{row_of}
use Rattle.flow.specs.Flow.{Rights, Source, In, Chain, Ring, Adjacent, OnRing}
use Rattle.planner.specs.Grants.{Slot, RowSet, rights_in, without, only, weight_of}
use Rattle.planner.specs.Walk.{Decision, Node, keep, revoke, Place, begun, Walked}
use Rattle.planner.specs.Search.{Decides, choice_of, is_keep, is_revoke, kept, revoked, choices_of, second_mark, ring_question}
use Rattle.planner.specs.Ledger.{is_vacant}
use Rattle.planner.proofs.TestLaws.{holds, fails, is_true}
use Rattle.planner.proofs.GrantLaws.{row_right, row_without, part_weighs}
use Rattle.planner.proofs.WalkLaws.{revoking, Extends, Answers, Matched, ended_cheapest, Fits, Good, place_good, few_visits}

-- ---- rings of some rights that are rings of others

-- a chain whose every step is one of h
chain_over : (g h : Rights) (a : ℕ) (xs : List ℕ) (b : ℕ) → ((x y : ℕ) → Adjacent x y (a ∷ (xs ++ (b ∷ []))) → Source g x y → Source h x y) → Chain g a xs b → Chain h a xs b
chain_over g h a [] b f c = f a b (inl (refl, refl)) c
chain_over g h a (x ∷ xs) b f c = (f a x (inl (refl, refl)) c.0, chain_over g h x xs b (λ u v adj. f u v (inr adj)) c.1)

abbrev Steps : {g : Rights} → Ring g → ℕ → ℕ → Type 0
Steps r x y = Adjacent x y (r.first ∷ (r.others ++ (r.first ∷ [])))

ring_over : (g h : Rights) (r : Ring g) → ((x y : ℕ) → Steps r x y → Source g x y → Source h x y) → Ring h
ring_over g h r f = record {
  first = r.first;
  others = r.others;
  several = r.several;
  different = r.different;
  round = chain_over g h r.first r.others r.first f r.round;
}

some_step : (g : Rights) (a : ℕ) (xs : List ℕ) (b : ℕ) → Chain g a xs b → (x : ℕ) × Source g a x
some_step g a [] b c = (b, c)
some_step g a (x ∷ xs) b c = (x, c.0)

-- ---- rights after a removal

module _ {W : Type 0} (s : Shape) (xs : List (Slot W)) where
  abbrev all : Rights
  all = rights_in s xs

  abbrev rest : RowSet → Rights
  rest c = rights_in s (without c xs)

  rest_at : (c : RowSet) (d p : ℕ) → rest c d p ≡ cond (c (row_of s d p)) Empty (all d p)
  rest_at c d p = go (ltb d s.devices && ltb p s.points) (c (row_of s d p)) refl
    where
      go : (b u : Bool) → c (row_of s d p) ≡ u → cond b (row_right (without c xs) (row_of s d p)) Empty ≡ cond u Empty (cond b (row_right xs (row_of s d p)) Empty)
      go true u e = row_without c xs (row_of s d p) ∙ ap (λ v. cond v Empty (row_right xs (row_of s d p))) e
      go false true e = refl
      go false false e = refl

  -- what passes a test after the removal was not removed
  module _ (test : Right → Bool) (none : test Empty ≡ false) where
    rest_stands : (c : RowSet) (d p : ℕ) → T (test (rest c d p)) → c (row_of s d p) ≡ false
    rest_stands c d p h = go (c (row_of s d p)) (subst (λ x. T (test x)) (rest_at c d p) h)
      where
        go : (u : Bool) → T (test (cond u Empty (all d p))) → u ≡ false
        go true k = absurd (fails (test Empty) none k)
        go false k = refl

    rest_passes : (c : RowSet) (d p : ℕ) → T (test (rest c d p)) → T (test (all d p))
    rest_passes c d p h =
        let e = rest_stands c d p h in
        subst (λ x. T (test x)) (rest_at c d p ∙ ap (λ u. cond u Empty (all d p)) e) h

    passes_rest : (c : RowSet) (d p : ℕ) → c (row_of s d p) ≡ false → T (test (all d p)) → T (test (rest c d p))
    passes_rest c d p e h = subst (λ x. T (test x)) (sym (rest_at c d p ∙ ap (λ u. cond u Empty (all d p)) e)) h

    -- where a right passes, a grant stands
    stands : (d p : ℕ) → T (test (all d p)) → is_vacant (get_or xs (row_of s d p) None) ≡ false
    stands d p h = go (ltb d s.devices && ltb p s.points) h
      where
        row : (ys : List (Slot W)) (i : ℕ) → T (test (row_right ys i)) → is_vacant (get_or ys i None) ≡ false
        row [] i k = absurd (fails (test Empty) none k)
        row (None ∷ ys) zero k = absurd (fails (test Empty) none k)
        row (Some x ∷ ys) zero k = refl
        row (y ∷ ys) (suc i) k = row ys i k

        go : (b : Bool) → T (test (cond b (row_right xs (row_of s d p)) Empty)) → is_vacant (get_or xs (row_of s d p) None) ≡ false
        go true k = row xs (row_of s d p) k
        go false k = absurd (fails (test Empty) none k)

  rest_source : (c : RowSet) (a b : ℕ) → Source (rest c) a b → Source all a b
  rest_source c a b h = record {
    apart = h.apart;
    point = h.point;
    written = rest_passes can_write refl c a h.point h.written;
    read = rest_passes can_read refl c b h.point h.read;
  }

  -- a source stays under another removal if its two grants do
  source_stays : (c d : RowSet) (a b : ℕ) (h : Source (rest c) a b) → d (row_of s a h.point) ≡ false → d (row_of s b h.point) ≡ false → Source (rest d) a b
  source_stays c d a b h u v = record {
    apart = h.apart;
    point = h.point;
    written = passes_rest can_write refl d a h.point u (rest_passes can_write refl c a h.point h.written);
    read = passes_rest can_read refl d b h.point v (rest_passes can_read refl c b h.point h.read);
  }

  -- a ring stands under a smaller removal too
  ring_stays : (c d : RowSet) → ((i : ℕ) → c i ≡ false → d i ≡ false) → Ring (rest c) → Ring (rest d)
  ring_stays c d less r = ring_over (rest c) (rest d) r stays
    where
      stays : (x y : ℕ) → Steps r x y → Source (rest c) x y → Source (rest d) x y
      stays x y adj h =
          source_stays c d x y h (less (row_of s x h.point) (rest_stands can_write refl c x h.point h.written))
          (less (row_of s y h.point) (rest_stands can_read refl c y h.point h.read))

  -- with every grant removed no ring stands
  pub none_left : Ring (rest (λ _. true)) → ⊥
  none_left r =
      let h = some_step (rest (λ _. true)) r.first r.others r.first r.round in
      let e : true ≡ false = rest_stands can_write refl (λ _. true) r.first h.1.point h.1.written in
      fails true e tt

-- ---- the grants that a node decides

in_at : (i : ℕ) (ds : List ℕ) → In i ds → (j : ℕ) × (j < length ds) × (get_or ds j 0 ≡ i)
in_at i [] h = absurd h
in_at i (d ∷ ds) (inl e) = (0, omega arith, sym e)
in_at i (d ∷ ds) (inr h) = let r = in_at i ds h in (suc r.0, omega arith, r.2)

pub at_in : (ds : List ℕ) (j : ℕ) → j < length ds → In (get_or ds j 0) ds
at_in [] j h = absurd (not-suc-le-zero h)
at_in (d ∷ ds) zero h = inl refl
at_in (d ∷ ds) (suc j) h = inr (at_in ds j (le_of_suc-le-suc h))

module _ (ds : List ℕ) where
  -- a grant at a position below the node's length is kept or revoked
  decided : (n : Node) (j : ℕ) → j < length n → T (kept ds n (get_or ds j 0)) ⊎ T (revoked ds n (get_or ds j 0))
  decided [] j h = absurd (not-suc-le-zero h)
  decided (c ∷ n) j h = go c (eqb (get_or ds j 0) (get_or ds (length n) 0)) refl (λ l. decided n j l) (cases_lt j (length n))
    where
      go : (c' : Decision) (b : Bool) → eqb (get_or ds j 0) (get_or ds (length n) 0) ≡ b → (j < length n → T (kept ds n (get_or ds j 0)) ⊎ T (revoked ds n (get_or ds j 0))) → (j < length n) ⊎ (length n ≤ j)
          → T (is_keep (cond b (Some c') (choice_of ds n (get_or ds j 0)))) ⊎ T (is_revoke (cond b (Some c') (choice_of ds n (get_or ds j 0))))
      go keep true e on w = inl tt
      go revoke true e on w = inr tt
      go c' false e on (inl l) = on l
      go c' false e on (inr ge) = absurd (eqb-false (get_or ds j 0) (get_or ds (length n) 0) e (ap (λ i. get_or ds i 0) (omega arith)))

  -- only grants to decide are revoked
  revoked_in : (n : Node) (i : ℕ) → length n ≤ length ds → T (revoked ds n i) → In i ds
  revoked_in [] i l h = absurd h
  revoked_in (c ∷ n) i l h = go (eqb i (get_or ds (length n) 0)) refl (λ k. revoked_in n i (omega arith) k) h
    where
      go : (b : Bool) → eqb i (get_or ds (length n) 0) ≡ b → (T (revoked ds n i) → In i ds) → T (is_revoke (cond b (Some c) (choice_of ds n i))) → In i ds
      go true e on k = subst (λ x. In x ds) (sym (eqb-true i (get_or ds (length n) 0) e)) (at_in ds (length n) l)
      go false e on k = on k

  -- an answer that makes the node's choices keeps what the node keeps, and revokes what it revokes
  extended : (r : RowSet) (n : Node) (i : ℕ) → Extends (λ j. r (get_or ds j 0)) n → (T (kept ds n i) → r i ≡ false) × (T (revoked ds n i) → r i ≡ true)
  extended r [] i e = ((λ h. absurd h), λ h. absurd h)
  extended r (c ∷ n) i e = go c (eqb i (get_or ds (length n) 0)) refl e.0 (extended r n i e.1)
    where
      go : (c' : Decision) (b : Bool) → eqb i (get_or ds (length n) 0) ≡ b → r (get_or ds (length n) 0) ≡ revoking c' → (T (kept ds n i) → r i ≡ false) × (T (revoked ds n i) → r i ≡ true)
          → (T (is_keep (cond b (Some c') (choice_of ds n i))) → r i ≡ false) × (T (is_revoke (cond b (Some c') (choice_of ds n i))) → r i ≡ true)
      go keep true q f on = ((λ h. ap r (eqb-true i (get_or ds (length n) 0) q) ∙ f), λ h. absurd h)
      go revoke true q f on = ((λ h. absurd h), λ h. ap r (eqb-true i (get_or ds (length n) 0) q) ∙ f)
      go c' false q f on = on

-- ---- the facts

module _ {W : Type 0} (k : Kind W) (law : Lawful k) (s : Shape) (xs : List (Slot W)) (ds : List ℕ) (decides : Decides s xs ds) where
  -- whatever makes the node's choices leaves the ring of its kept grants
  ring_remains : (n : Node) (r : RowSet) → Ring (rights_in s (only (kept ds n) xs)) → Extends (λ j. r (get_or ds j 0)) n → Ring (rights_in s (without r xs))
  ring_remains n r ring e = ring_stays s xs (λ i. not (kept ds n i)) r (λ i h. (extended ds r n i e).0 (kept_there (kept ds n i) h)) ring
    where
      kept_there : (b : Bool) → not b ≡ false → T b
      kept_there true h = tt
      kept_there false h = absurd (fails true h tt)

  part_of : (n : Node) (r : RowSet) → Extends (λ j. r (get_or ds j 0)) n → T (k.at_most (weight_of k (revoked ds n) xs) (weight_of k r xs))
  part_of n r e = part_weighs k law (revoked ds n) r xs (λ i h. holds (r i) ((extended ds r n i e).1 h))

  -- where every grant is decided, a ring that is left is one of kept grants
  ring_of_kept : (n : Node) → length n ≡ length ds → Ring (rights_in s (without (revoked ds n) xs)) → Ring (rights_in s (only (kept ds n) xs))
  unfolding ring_over
  ring_of_kept n full r = ring_over _ _ r (λ x y adj h. source_stays s xs (revoked ds n) (λ i. not (kept ds n i)) x y h (writer x y adj h) (reader x y adj h))
    where
      whole : Ring (rights_in s xs)
      whole = ring_over _ _ r (λ x y adj h. rest_source s xs (revoked ds n) x y h)

      on_it : (x y : ℕ) → Steps r x y → (h : Source (rights_in s (without (revoked ds n) xs)) x y) → (d : ℕ) → (d ≡ x) ⊎ (d ≡ y) → OnRing (rights_in s xs) d h.point
      on_it x y adj h d end = record {
        ring = whole;
        from = x;
        to = y;
        adjacent = adj;
        written = rest_passes s xs can_write refl (revoked ds n) x h.point h.written;
        read = rest_passes s xs can_read refl (revoked ds n) y h.point h.read;
        one_of = end;
      }

      stays : (i : ℕ) → In i ds → revoked ds n i ≡ false → not (kept ds n i) ≡ false
      stays i h u =
          let at = in_at i ds h in
          let w = subst (λ x. T (kept ds n x) ⊎ T (revoked ds n x)) at.2 (decided ds n at.0 (omega arith)) in
          elim w [ inl q ↦ ap not (is_true (kept ds n i) q) | inr q ↦ absurd (fails (revoked ds n i) u q) ]

      writer : (x y : ℕ) → Steps r x y → (h : Source (rights_in s (without (revoked ds n) xs)) x y) → not (kept ds n (row_of s x h.point)) ≡ false
      writer x y adj h = stays (row_of s x h.point) (decides.all x h.point (on_it x y adj h x (inl refl))) (rest_stands s xs can_write refl (revoked ds n) x h.point h.written)

      reader : (x y : ℕ) → Steps r x y → (h : Source (rights_in s (without (revoked ds n) xs)) x y) → not (kept ds n (row_of s y h.point)) ≡ false
      reader x y adj h = stays (row_of s y h.point) (decides.all y h.point (on_it x y adj h y (inr refl))) (rest_stands s xs can_read refl (revoked ds n) y h.point h.read)

  -- so a node that decides every grant is hopeless or solved
  full : (n : Node) → length n ≡ length ds → (Ring (rights_in s (only (kept ds n) xs)) → ⊥) → Ring (rights_in s (without (revoked ds n) xs)) → ⊥
  full n e good ring = good (ring_of_kept n e ring)

  -- the sets of grants whose removal leaves no ring, as answers to the question
  ring_answers : Answers k (ring_question k s xs ds) (length ds)
  ring_answers = record {
    Answer = RowSet;
    revokes = λ r j. r (get_or ds j 0);
    weight = λ r. weight_of k r xs;
    Solves = λ r. Ring (rights_in s (without r xs)) → ⊥;
    hopeless = λ n r bad e solves. solves (ring_remains n r bad e);
    cheaper = part_of;
    full = full;
  }

  pub few : {v : ℕ} {p : Place} → Walked k (ring_question k s xs ds) v begun p → v ≤ 2 ^ (length ds + 1) - 1
  few w = few_visits k (ring_question k s xs ds) (length ds) full w

  -- no node has more choices than there are grants to decide, and the best plan holds none but these
  pub next_fits : {v : ℕ} {p : Place} → Walked k (ring_question k s xs ds) v begun p → length (choices_of p.next) ≤ length ds
  next_fits {p = p} w = go p.next (place_good k (ring_question k s xs ds) (length ds) full w).0
    where
      go : (n : Option Node) → Fits (length ds) n → length (choices_of n) ≤ length ds
      go None f = omega arith
      go (Some n) f = f

  pub best_fits : {v : ℕ} {p : Place} → Walked k (ring_question k s xs ds) v begun p → (b : Node) → p.best ≡ Some b → length b ≤ length ds
  best_fits {p = p} w b e =
      (subst (Good (ring_question k s xs ds) (length ds)) e
      (place_good k (ring_question k s xs ds) (length ds) full w).1).0

  pub held_in : {v : ℕ} {p : Place} → Walked k (ring_question k s xs ds) v begun p → (i : ℕ) → T (second_mark ds p.best i) → In i ds
  held_in {p = p} w i = go p.best (place_good k (ring_question k s xs ds) (length ds) full w).1
    where
      go : (b : Option Node) → Good (ring_question k s xs ds) (length ds) b → T (second_mark ds b i) → In i ds
      go None g h = absurd h
      go (Some b) g h = revoked_in ds b i g.0 h

  -- what is promised of the plan that a node revokes
  pub record Planned (n : Node) : Type 0 where
    pub short : length n ≤ length ds
    pub ringless : Ring (rights_in s (without (revoked ds n) xs)) → ⊥
    pub cheapest : (rival : RowSet) → (Ring (rights_in s (without rival xs)) → ⊥) → T (k.at_most (weight_of k (revoked ds n) xs) (weight_of k rival xs))

  -- a walk that has ended has a best plan, an answer that weighs at most every other
  pub planned : {v : ℕ} (p : Place) → Walked k (ring_question k s xs ds) v begun p → p.next ≡ None → (n : Node) × (p.best ≡ Some n) × Planned n
  unfolding ring_answers
  planned p w e = go p.best refl (place_good k (ring_question k s xs ds) (length ds) full w).1 (ended_cheapest k law (ring_question k s xs ds) (length ds) ring_answers w e)
    where
      go : (b : Option Node) → p.best ≡ b → Good (ring_question k s xs ds) (length ds) b
          → ((r : RowSet) → (Ring (rights_in s (without r xs)) → ⊥) → Matched ring_answers b r) → (n : Node) × (p.best ≡ Some n) × Planned n
      go None q g c = absurd (c (λ _. true) (none_left s xs))
      go (Some n) q g c = (n, q, record { short = g.0; ringless = g.1; cheapest = c })

  -- the grants that a node revokes stand
  pub revoked_stand : (n : Node) (i : ℕ) → length n ≤ length ds → T (revoked ds n i) → is_vacant (get_or xs i None) ≡ false
  revoked_stand n i l h =
      let on = decides.none_else i (revoked_in ds n i l h) in
      subst (λ j. is_vacant (get_or xs j None) ≡ false) (sym on.2) (either on.0 on.1 on.3 on.3.one_of)
    where
      either : (d p : ℕ) (o : OnRing (rights_in s xs) d p) → (d ≡ o.from) ⊎ (d ≡ o.to) → is_vacant (get_or xs (row_of s d p) None) ≡ false
      either d p o (inl e) = stands s xs can_write refl d p (subst (λ x. T (can_write (rights_in s xs x p))) (sym e) o.written)
      either d p o (inr e) = stands s xs can_read refl d p (subst (λ x. T (can_read (rights_in s xs x p))) (sym e) o.read)
