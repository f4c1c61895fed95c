-- The walk over any question: how many visits it makes, and that its best plan weighs at most every answer.
use Rattle.std.proofs.Common.{◌≡◌, ℕ, zero, suc, ◌+◌, ◌-◌, ◌*◌, ◌^◌, ◌<◌, ◌≤◌, Bool, true, false, cond, T, ◌⊎◌, [], ◌∷◌, length, Some, None, Option, sym, refl, ap, ◌∙◌, subst, inl, inr, pow-suc, arith}
use Rattle.std.proofs.lemmas.Bool.{cases_lt}
use Rattle.mesh.specs.Kind.{Kind, Lawful}
use Rattle.planner.specs.declared.walk.Condition.TheVariants.{Descending, Returning, Ended}
use Rattle.planner.specs.declared.walk.Outcome.{Outcome}
use Rattle.planner.specs.declared.walk.Outcome.TheVariants as by
use Rattle.planner.specs.Walk.{Decision, Node, keep, revoke, Question, NoLess, after, Place, at, begun, Visit, no_less, hopeless_node, best_plan, open_node, Walked, stay, visit, condition, has_keep, closed, settled}

-- ---- what is left of the walk

abbrev pub revoking : Decision → Bool
revoking keep = false
revoking revoke = true

-- an answer, by the positions of the grants that it revokes, makes the node's choices
abbrev pub Extends : (ℕ → Bool) → Node → Type 0
Extends r [] = Unit {0}
Extends r (c ∷ n) = (r (length n) ≡ revoking c) × Extends r n

-- it makes the choices of a node that is visited after all below n
abbrev Later : (ℕ → Bool) → Node → Type 0
Later r [] = ⊥
Later r (keep ∷ n) = Extends r (revoke ∷ n) ⊎ Later r n
Later r (revoke ∷ n) = Later r n

-- it lies below the node to be visited next, or later
abbrev Ahead : (ℕ → Bool) → Option Node → Type 0
Ahead r None = ⊥
Ahead r (Some n) = Extends r n ⊎ Later r n

later_after : (r : ℕ → Bool) (n : Node) → Later r n → Ahead r (after n)
later_after r [] l = absurd l
later_after r (keep ∷ n) l = l
later_after r (revoke ∷ n) l = later_after r n l

-- ---- the two facts of the tests, and of full nodes

-- size is how many grants are to decide
pub record Answers {W : Type 0} (k : Kind W) (q : Question W) (size : ℕ) : Type 1 where
  pub Answer : Type 0
  pub revokes : Answer → ℕ → Bool
  pub weight : Answer → W
  pub Solves : Answer → Type 0
  pub hopeless : (n : Node) (r : Answer) → q.Hopeless n → Extends (revokes r) n → Solves r → ⊥
  pub cheaper : (n : Node) (r : Answer) → Extends (revokes r) n → T (k.at_most (q.weight n) (weight r))
  pub full : (n : Node) → length n ≡ size → (q.Hopeless n → ⊥) → q.Solved n

-- the best plan weighs at most the answer
abbrev pub Matched : {W : Type 0} {k : Kind W} {q : Question W} {size : ℕ} (f : Answers k q size) → Option Node → f.Answer → Type 0
Matched f None r = ⊥
Matched {k = k} {q = q} f (Some b) r = T (k.at_most (q.weight b) (f.weight r))

module _ {W : Type 0} (k : Kind W) (law : Lawful k) (q : Question W) (size : ℕ) (f : Answers k q size) where
  -- no answer is lost: it lies ahead, or the best plan weighs at most it
  abbrev pub Covers : Place → Type 0
  Covers p = (r : f.Answer) → f.Solves r → Ahead (f.revokes r) p.next ⊎ Matched f p.best r

  covers_begun : Covers begun
  covers_begun r h = inl (inl tt)

  -- a closed node hands on what comes later, if the best plan matches all that extends it
  closes : (n : Node) (b b' : Option Node) (r : f.Answer) → (Extends (f.revokes r) n → Matched f b' r) → (Matched f b r → Matched f b' r)
      → Ahead (f.revokes r) (Some n) ⊎ Matched f b r → Ahead (f.revokes r) (after n) ⊎ Matched f b' r
  closes n b b' r here old (inl (inl e)) = inr (here e)
  closes n b b' r here old (inl (inr l)) = inl (later_after (f.revokes r) n l)
  closes n b b' r here old (inr m) = inr (old m)

  dear : (n : Node) (b : Option Node) (r : f.Answer) → NoLess k q b n → Extends (f.revokes r) n → Matched f b r
  dear n None r h e = absurd h
  dear n (Some b) r h e = law.transitive (q.weight b) (q.weight n) (f.weight r) h (f.cheaper n r e)

  bettered : (n : Node) (b : Option Node) (r : f.Answer) → (NoLess k q b n → ⊥) → Matched f b r → Matched f (Some n) r
  bettered n None r h m = absurd m
  bettered n (Some b) r h m =
      elim (law.total (q.weight n) (q.weight b)) [
        | inl le ↦ law.transitive (q.weight n) (q.weight b) (f.weight r) le m
        | inr ge ↦ absurd (h ge)
      ]

  splits : (n : Node) (r : f.Answer) (c : Bool) → f.revokes r (length n) ≡ c → Extends (f.revokes r) n → Ahead (f.revokes r) (Some (keep ∷ n))
  splits n r false e x = inl (e, x)
  splits n r true e x = inr (inl (e, x))

  visit_covers : {n : Node} {b : Option Node} {t : Outcome} {p : Place} → Visit k q n b t p → Covers (at (Some n) b) → Covers p
  visit_covers {n} {b} (no_less h) c r s = closes n b b r (dear n b r h) (λ m. m) (c r s)
  visit_covers {n} {b} (hopeless_node h bad) c r s = closes n b b r (λ e. absurd (f.hopeless n r bad e s)) (λ m. m) (c r s)
  visit_covers {n} {b} (best_plan h good solved) c r s = closes n b (Some n) r (f.cheaper n r) (bettered n b r h) (c r s)
  visit_covers {n} {b} (open_node h good unsolved) c r s =
      elim (c r s) [
        | inl a ↦ elim a [ inl e ↦ inl (splits n r (f.revokes r (length n)) refl e) | inr l ↦ inl (inr (inr l)) ]
        | inr m ↦ inr m
      ]

  walk_covers : {v : ℕ} {p p' : Place} → Walked k q v p p' → Covers p → Covers p'
  walk_covers stay c = c
  walk_covers (visit h w) c = walk_covers w (visit_covers h c)

  -- once no node is left, the best plan weighs at most every answer
  pub ended_cheapest : {v : ℕ} {p : Place} → Walked k q v begun p → p.next ≡ None → (r : f.Answer) → f.Solves r → Matched f p.best r
  ended_cheapest w e r s = elim (walk_covers w covers_begun r s) [ inl a ↦ absurd (subst (Ahead (f.revokes r)) e a) | inr m ↦ m ]

-- ---- what holds of every place of the walk

-- a node has no more choices than there are grants to decide, and the best plan is an answer
abbrev pub Fits : ℕ → Option Node → Type 0
Fits size None = Unit {0}
Fits size (Some n) = length n ≤ size

abbrev pub Good : {W : Type 0} → Question W → ℕ → Option Node → Type 0
Good q size None = Unit {0}
Good q size (Some b) = (length b ≤ size) × q.Solved b

fits_after : (size : ℕ) (n : Node) → length n ≤ size → Fits size (after n)
fits_after size [] h = tt
fits_after size (keep ∷ n) h = h
fits_after size (revoke ∷ n) h = fits_after size n (omega arith)

-- ---- how many visits are left

-- the nodes from one on which d grants are still to decide, down
below : ℕ → ℕ
below zero = 1
below (suc d) = suc (below d + below d)

below_some : (d : ℕ) → 0 < below d
unfolding below
below_some zero = omega arith
below_some (suc d) = omega arith

below_power : (d : ℕ) → below d + 1 ≡ 2 ^ (d + 1)
unfolding below
below_power zero = refl
below_power (suc d) =
    let e = below_power d in
    let p : 2 ^ (suc d + 1) ≡ 2 ^ (d + 1) * 2 = ap (λ i. 2 ^ i) (omega arith) ∙ pow-suc 2 (d + 1) in
    omega arith

-- the nodes that are visited after all below n, on which d grants are still to decide
later : ℕ → Node → ℕ
later d [] = 0
later d (keep ∷ n) = below d + later (suc d) n
later d (revoke ∷ n) = later (suc d) n

-- of size grants to decide, at most m visits are left
abbrev Left : ℕ → Option Node → ℕ → Type 0
Left size None m = Unit {0}
Left size (Some n) m = (d : ℕ) × (d + length n ≡ size) × (below d + later d n ≤ m)

left_after : (size : ℕ) (n : Node) (d m : ℕ) → d + length n ≡ size → later d n ≤ m → Left size (after n) m
unfolding later
left_after size [] d m e h = tt
left_after size (keep ∷ n) d m e h = (d, e, h)
left_after size (revoke ∷ n) d m e h = left_after size n (suc d) m (omega arith) h

left_closed : (size : ℕ) (n : Node) (m : ℕ) → Left size (Some n) (suc m) → Left size (after n) m
left_closed size n m l = let s = below_some l.0 in left_after size n l.0 m l.1 (omega arith)

module _ {W : Type 0} (k : Kind W) (q : Question W) (size : ℕ) (full : (n : Node) → length n ≡ size → (q.Hopeless n → ⊥) → q.Solved n) where
  -- a node with a choice for every grant is not opened
  fits_deeper : (n : Node) → (q.Hopeless n → ⊥) → (q.Solved n → ⊥) → length n ≤ size → length n < size
  fits_deeper n h u l = elim (cases_lt (length n) size) [ inl lt ↦ lt | inr ge ↦ absurd (u (full n (omega arith) h)) ]

  visit_good : {n : Node} {b : Option Node} {t : Outcome} {p : Place} → Visit k q n b t p → Fits size (Some n) → Good q size b → Fits size p.next × Good q size p.best
  visit_good {n} (no_less h) f g = (fits_after size n f, g)
  visit_good {n} (hopeless_node h bad) f g = (fits_after size n f, g)
  visit_good {n} (best_plan h ok solved) f g = (fits_after size n f, (f, solved))
  visit_good {n} (open_node h ok unsolved) f g = (fits_deeper n ok unsolved f, g)

  walk_good : {v : ℕ} {p p' : Place} → Walked k q v p p' → Fits size p.next → Good q size p.best → Fits size p'.next × Good q size p'.best
  walk_good stay f g = (f, g)
  walk_good (visit h w) f g = let on = visit_good h f g in walk_good w on.0 on.1

  pub place_good : {v : ℕ} {p : Place} → Walked k q v begun p → Fits size p.next × Good q size p.best
  place_good w = walk_good w (omega arith) tt

  left_deeper : (n : Node) (d m : ℕ) → (q.Hopeless n → ⊥) → (q.Solved n → ⊥) → d + length n ≡ size → below d + later d n ≤ suc m → Left size (Some (keep ∷ n)) m
  unfolding below later
  left_deeper n zero m h u e l = absurd (u (full n (omega arith) h))
  left_deeper n (suc d) m h u e l = (d, omega arith, omega arith)

  visit_left : {n : Node} {b : Option Node} {t : Outcome} {p : Place} (m : ℕ) → Visit k q n b t p → Left size (Some n) (suc m) → Left size p.next m
  visit_left {n} m (no_less h) l = left_closed size n m l
  visit_left {n} m (hopeless_node h bad) l = left_closed size n m l
  visit_left {n} m (best_plan h ok solved) l = left_closed size n m l
  visit_left {n} m (open_node h ok unsolved) l = left_deeper n l.0 m ok unsolved l.1 l.2

  walk_few : {v : ℕ} {p p' : Place} (m : ℕ) → Walked k q v p p' → Left size p.next m → v ≤ m
  walk_few m stay l = omega arith
  walk_few zero (visit h w) l = let s = below_some l.0 in absurd (omega arith)
  walk_few (suc m) (visit h w) l = let on = walk_few m w (visit_left m h l) in omega arith

  pub few_visits : {v : ℕ} {p : Place} → Walked k q v begun p → v ≤ 2 ^ (size + 1) - 1
  unfolding later
  few_visits w = let e = below_power size in walk_few (2 ^ (size + 1) - 1) w (size, omega arith, omega arith)

-- ---- the search's condition

after_condition : (n : Node) → condition (after n) ≡ cond (has_keep n) Returning Ended
after_condition [] = refl
after_condition (keep ∷ n) = refl
after_condition (revoke ∷ n) = after_condition n

closed_condition : (n : Node) (t : Outcome) → closed t ≡ true → settled (condition (Some n)) t (has_keep n) ≡ cond (has_keep n) Returning Ended
closed_condition [] t e = ap (λ c. cond c Ended Descending) e
closed_condition (keep ∷ n) t e = ap (λ c. cond c Returning Descending) e
closed_condition (revoke ∷ n) t e = ap (λ c. cond c (cond (has_keep n) Returning Ended) Descending) e

opened_condition : (n : Node) → settled (condition (Some n)) by.Opened (has_keep n) ≡ Descending
opened_condition [] = refl
opened_condition (keep ∷ n) = refl
opened_condition (revoke ∷ n) = refl

pub visit_settled : {W : Type 0} {k : Kind W} {q : Question W} {n : Node} {b : Option Node} {t : Outcome} {p : Place}
    → Visit k q n b t p → condition p.next ≡ settled (condition (Some n)) t (has_keep n)
visit_settled {n = n} (no_less h) = after_condition n ∙ sym (closed_condition n by.NoLess refl)
visit_settled {n = n} (hopeless_node h bad) = after_condition n ∙ sym (closed_condition n by.Hopeless refl)
visit_settled {n = n} (best_plan h ok solved) = after_condition n ∙ sym (closed_condition n by.BestPlan refl)
visit_settled {n = n} (open_node h ok unsolved) = sym (opened_condition n)
