-- The walk and the ledger that compute agree with the relations.
use Rattle.std.proofs.Common.{◌≡◌, ℕ, zero, suc, ◌+◌, ◌^◌, ◌<◌, ◌≤◌, Bool, true, false, cond, not, T, List, [], ◌∷◌, map, length, Some, None, Option, sym, refl, ap, ◌∙◌, subst, not-suc-le-zero, arith, pow_pos}
use Rattle.mesh.specs.declared.refusal.Refusal.{Refusal}
use Rattle.mesh.specs.declared.shape.Shape.{Shape}
use Rattle.mesh.specs.Kind.{Kind, Lawful}
use Rattle.planner.specs.declared.walk.Outcome.{Outcome}
use Rattle.planner.specs.declared.walk.Outcome.TheVariants as by
use Rattle.planner.specs.declared.calls.Call.{Call}
use Rattle.planner.specs.declared.calls.Call.TheVariants as call
use Rattle.planner.specs.declared.calls.Lent.{Lent}
use Rattle.planner.specs.declared.calls.Answer.{Answer}
use Rattle.planner.specs.declared.calls.Answer.TheVariants as says
use Rattle.planner.specs.Grants.{Slot, right_in, without, only}
use Rattle.planner.specs.Walk.{Node, Question, NoLess, Place, at, begun, Visit, no_less, hopeless_node, best_plan, open_node, Walked, stay, visit, Advanced}
use Rattle.planner.specs.Search.{kept, revoked, ring_question}
use Rattle.planner.specs.Ledger.{Ledger, book, searching, too_few, refusal, admitted, opened, asks, started, Done, write, erase, read, start, advance, take, abandon, Told, misuse, refused, done, Run, none, then}
use Rattle.planner.specs.FlowTests.{to_decide}
use Rattle.planner.specs.Theorems.{WalksAgree, WalksEnd}
use Rattle.planner.proofs.QuestionLaws.{few, next_fits, planned}
use Rattle.planner.proofs.TestLaws.{holds, fails, is_true, is_false, clash}
use Rattle.planner.proofs.RingLaws.{has_ring_test, to_decide_test, decides_unique}
use Rattle.planner.proofs.SoundLaws.{Sound, told_sound, opened_sound, walk_ended}
use Rattle.planner.specs.Computed.{Tests, ring_tests, is_no_less, outcome_of, leads, walks, moves, takes, makes, replies, tell, run}

-- ---- the walk

-- a test decides a proposition
abbrev Decided : Bool → Type 0 → Type 0
Decided b P = (T b → P) × (P → T b)

passes : {P : Type 0} (b : Bool) → Decided b P → b ≡ true → P
passes b d e = d.0 (holds b e)

stops : {P : Type 0} (b : Bool) → Decided b P → b ≡ false → P → ⊥
stops b d e h = fails b e (d.1 h)

passed : {P : Type 0} (b : Bool) → Decided b P → P → b ≡ true
passed b d h = is_true b (d.1 h)

stopped : {P : Type 0} (b : Bool) → Decided b P → (P → ⊥) → b ≡ false
stopped b d h = is_false b (λ t. h (d.0 t))

no_less_decided : {W : Type 0} (k : Kind W) (q : Question W) (b : Option Node) (n : Node) → Decided (is_no_less k q b n) (NoLess k q b n)
no_less_decided k q None n = ((λ h. h), λ h. h)
no_less_decided k q (Some b) n = ((λ h. h), λ h. h)

module _ {W : Type 0} (k : Kind W) (q : Question W) (t : Tests)
    (hopeless : (n : Node) → (T (t.hopeless n) → q.Hopeless n) × (q.Hopeless n → T (t.hopeless n)))
    (solved : (n : Node) → (T (t.solved n) → q.Solved n) × (q.Solved n → T (t.solved n))) where
  pub visit_computed : (n : Node) (b : Option Node) → Visit k q n b (outcome_of k q t n b) (leads (outcome_of k q t n b) n b)
  visit_computed n b = go (is_no_less k q b n) refl (t.hopeless n) refl (t.solved n) refl
    where
      less : is_no_less k q b n ≡ false → NoLess k q b n → ⊥
      less = stops _ (no_less_decided k q b n)

      go : (x : Bool) → is_no_less k q b n ≡ x → (y : Bool) → t.hopeless n ≡ y → (z : Bool) → t.solved n ≡ z
          → let o = cond x by.NoLess (cond y by.Hopeless (cond z by.BestPlan by.Opened)) in Visit k q n b o (leads o n b)
      go true e y f z g = no_less (passes _ (no_less_decided k q b n) e)
      go false e true f z g = hopeless_node (less e) (passes _ (hopeless n) f)
      go false e false f true g = best_plan (less e) (stops _ (hopeless n) f) (passes _ (solved n) g)
      go false e false f false g = open_node (less e) (stops _ (hopeless n) f) (stops _ (solved n) g)

  pub visit_told : {n : Node} {b : Option Node} {o : Outcome} {p : Place} → Visit k q n b o p → (o ≡ outcome_of k q t n b) × (p ≡ leads (outcome_of k q t n b) n b)
  visit_told {n} {b} v = let e = outcome v in (e, place v ∙ ap (λ x. leads x n b) e)
    where
      place : {o : Outcome} {p : Place} → Visit k q n b o p → p ≡ leads o n b
      place (no_less h) = refl
      place (hopeless_node h r) = refl
      place (best_plan h r s) = refl
      place (open_node h r s) = refl

      outcome : {o : Outcome} {p : Place} → Visit k q n b o p → o ≡ outcome_of k q t n b
      outcome (no_less h) = rw (passed _ (no_less_decided k q b n) h)
      outcome (hopeless_node h r) = rw (stopped _ (no_less_decided k q b n) h, passed _ (hopeless n) r)
      outcome (best_plan h r s) = rw (stopped _ (no_less_decided k q b n) h, stopped _ (hopeless n) r, passed _ (solved n) s)
      outcome (open_node h r s) = rw (stopped _ (no_less_decided k q b n) h, stopped _ (hopeless n) r, stopped _ (solved n) s)

  -- as many visits from one place lead to one place
  walked_once : {v : ℕ} {p a b : Place} → Walked k q v p a → Walked k q v p b → a ≡ b
  walked_once stay stay = refl
  walked_once {v = suc v} {b = b} (visit one more) (visit other rest) = walked_once more (subst (λ p. Walked k q v p b) ((visit_told other).1 ∙ sym (visit_told one).1) rest)

  pub advance_computed : (budget before : ℕ) (next best : Option Node)
      → Advanced k q budget before (at next best) (before + (walks k q t budget next best).0) (walks k q t budget next best).1
  advance_computed zero before next best = record { made = 0; walk = stay; counted = refl; within = omega arith; all = λ h. absurd (not-suc-le-zero h) }
  advance_computed (suc budget) before None best = record { made = 0; walk = stay; counted = refl; within = omega arith; all = λ h. refl }
  advance_computed (suc budget) before (Some n) best =
      let p = leads (outcome_of k q t n best) n best in
      let rest = advance_computed budget before p.next p.best in
      record {
        made = suc rest.made;
        walk = visit (visit_computed n best) rest.walk;
        counted = omega arith;
        within = omega arith;
        all = λ h. rest.all (omega arith);
      }

  walked_told : {v : ℕ} {p p' : Place} (budget : ℕ) → Walked k q v p p' → v ≤ budget → (v < budget → p'.next ≡ None)
      → (v ≡ (walks k q t budget p.next p.best).0) × (p' ≡ (walks k q t budget p.next p.best).1)
  walked_told zero stay within all = (refl, refl)
  walked_told {p = p} (suc budget) stay within all = go p.next (all (omega arith))
    where
      go : (next : Option Node) → next ≡ None → (0 ≡ (walks k q t (suc budget) next p.best).0) × (at next p.best ≡ (walks k q t (suc budget) next p.best).1)
      go None e = (refl, refl)
      go (Some n) e = absurd (clash (cc))
  walked_told zero (visit one more) within all = absurd (not-suc-le-zero within)
  walked_told (suc budget) (visit one more) within all =
      let rest = walked_told budget more (omega arith) (λ h. all (omega arith)) in
      let w = λ (p : Place). walks k q t budget p.next p.best in
      (ap suc (rest.0 ∙ ap (λ p. (w p).0) (visit_told one).1), rest.1 ∙ ap (λ p. (w p).1) (visit_told one).1)

  pub advance_told : {budget before visits : ℕ} {p p' : Place} → Advanced k q budget before p visits p'
      → (visits ≡ before + (walks k q t budget p.next p.best).0) × (p' ≡ (walks k q t budget p.next p.best).1)
  advance_told {budget} {before} a =
      let told = walked_told budget a.walk a.within a.all in
      (a.counted ∙ ap (λ n. before + n) told.0, told.1)

-- ---- the ledger

not_decided : {P : Type 0} (b : Bool) → Decided b P → Decided (not b) (P → ⊥)
not_decided true d = ((λ h. absurd h), λ n. n (d.0 tt))
not_decided false d = ((λ h p. d.1 p), λ n. tt)

-- ---- rings

module _ {W : Type 0} (k : Kind W) (s : Shape) (xs : List (Slot W)) (ds : List ℕ) where
  hopeless_decided : (n : Node) → Decided ((ring_tests s xs ds).hopeless n) ((ring_question k s xs ds).Hopeless n)
  hopeless_decided n = has_ring_test s (map right_in (only (kept ds n) xs))

  solved_decided : (n : Node) → Decided ((ring_tests s xs ds).solved n) ((ring_question k s xs ds).Solved n)
  solved_decided n = not_decided _ (has_ring_test s (map right_in (without (revoked ds n) xs)))

  ring_visit : (n : Node) (b : Option Node) → (t : Outcome) × (p : Place) × Visit k (ring_question k s xs ds) n b t p
  ring_visit n b = (_, _, visit_computed k (ring_question k s xs ds) (ring_tests s xs ds) hopeless_decided solved_decided n b)

  ring_advance : (budget before : ℕ) (next best : Option Node)
      → Advanced k (ring_question k s xs ds) budget before (at next best) (before + (walks k (ring_question k s xs ds) (ring_tests s xs ds) budget next best).0)
      (walks k (ring_question k s xs ds) (ring_tests s xs ds) budget next best).1
  ring_advance = advance_computed k (ring_question k s xs ds) (ring_tests s xs ds) hopeless_decided solved_decided

pub walks_agree : {W : Type 0} (k : Kind W) → WalksAgree k
walks_agree k s xs ds = record {
  advances = ring_advance k s xs ds;
  no_other = λ budget before visits p p' a. advance_told k (ring_question k s xs ds) (ring_tests s xs ds) (hopeless_decided k s xs ds) (solved_decided k s xs ds) a;
  decides = to_decide_test s xs;
  no_others = λ d. decides_unique s xs ds (to_decide s xs) d (to_decide_test s xs);
}

module _ {W : Type 0} (k : Kind W) (law : Lawful k) where
  pub walks_end : WalksEnd k
  walks_end s xs ds decides = record {
    fits = λ v p w. next_fits k law s xs ds decides w;
    few = λ v p w. few k law s xs ds decides w;
    onward = λ v n b w. ring_visit k s xs ds n b;
    ends = ends;
    planned = λ v p w e. let plan = planned k law s xs ds decides p w e in (plan.0, plan.1);
    one = λ v p p'. walked_once k (ring_question k s xs ds) (ring_tests s xs ds) (hopeless_decided k s xs ds) (solved_decided k s xs ds);
  }
    where
      -- within more visits than the walk can make, it ends
      ends : (v : ℕ) × (p : Place) × Walked k (ring_question k s xs ds) v begun p × (p.next ≡ None)
      ends =
          let a = ring_advance k s xs ds (2 ^ (length ds + 1)) 0 (Some []) None in
          let most = few k law s xs ds decides a.walk in
          let some = pow_pos (length ds + 1) in
          (a.made, _, a.walk, a.all (omega arith))

-- ---- the ledger

module _ {W : Type 0} (k : Kind W) (law : Lawful k) (s : Shape) where
  done_computed : (l : Ledger W) (c : Call) (n : ℕ) → Sound k s l → admitted l c ≡ true → refusal k s l c n ≡ None → Done k s l c (makes k s l c).0 (makes k s l c).1
  done_computed (book xs) (call.Write d p r a) n h e f = write
  done_computed (book xs) (call.Erase d p) n h e f = erase
  done_computed (book xs) (call.Read d p) n h e f = read
  done_computed (book xs) call.Start n h e f = start (to_decide_test s xs)
  done_computed (searching xs q) (call.Advance b) n h e f =
      advance (ring_advance k s q.slots q.deciding b q.visits q.place.next q.place.best)
  done_computed (searching xs q) call.Take n h e f =
      let ended = walk_ended q.place.next q.place.best (too_few s n) f in
      let best = (planned k law s q.slots q.deciding h.decides q.place h.walked ended).1 in
      subst (λ b. Done k s (searching xs q) call.Take (takes k xs q b).0 (takes k xs q b).1) (sym best) (take best)
  done_computed (searching xs q) call.Abandon n h e f = abandon
  -- calls that are not admitted
  done_computed (book xs) (call.Advance b) n h e f = absurd (clash (cc))
  done_computed (book xs) call.Take n h e f = absurd (clash (cc))
  done_computed (book xs) call.Abandon n h e f = absurd (clash (cc))
  done_computed (searching xs q) (call.Write d p r a) n h e f = absurd (clash (cc))
  done_computed (searching xs q) (call.Erase d p) n h e f = absurd (clash (cc))
  done_computed (searching xs q) (call.Read d p) n h e f = absurd (clash (cc))
  done_computed (searching xs q) call.Start n h e f = absurd (clash (cc))

  pub tell_computed : (l : Ledger W) (c : Lent) → Sound k s l → Told k s l c (tell k s l c).0 (tell k s l c).1
  tell_computed l c h = go (admitted l c.call) refl (refusal k s l c.call c.rows) refl
    where
      go : (x : Bool) → admitted l c.call ≡ x → (r : Option Refusal) → refusal k s l c.call c.rows ≡ r
          → Told k s l c (replies k s l c.call x r).0 (replies k s l c.call x r).1
      go false e r f = misuse e
      go true e (Some why) f = refused e f
      go true e None f = done e f (done_computed l c.call c.rows h e f)

  makes_told : {l l' : Ledger W} {c : Call} {a : Answer W} → Sound k s l → Done k s l c a l' → (a, l') ≡ makes k s l c
  makes_told h write = refl
  makes_told h erase = refl
  makes_told h read = refl
  makes_told h (start {xs = xs} {ds = ds} d) = ap (λ (ds : List ℕ). (says.Started, searching xs (started xs ds))) (decides_unique s xs ds (to_decide s xs) d (to_decide_test s xs))
  makes_told h (advance {xs = xs} {q = q} {p = p} m) =
      let told = advance_told k (asks k s q) (ring_tests s q.slots q.deciding) (hopeless_decided k s q.slots q.deciding) (solved_decided k s q.slots q.deciding) m in
      ap (λ v. moves xs q v p) told.0 ∙ ap (moves xs q _) told.1
  makes_told h (take {xs = xs} {q = q} e) = ap (takes k xs q) (sym e)
  makes_told h abandon = refl

  tell_is : (l : Ledger W) (c : Lent) (x : Bool) (r : Option Refusal) → admitted l c.call ≡ x → refusal k s l c.call c.rows ≡ r → replies k s l c.call x r ≡ tell k s l c
  tell_is l c x r e f = ap (λ y. replies k s l c.call y r) (sym e) ∙ ap (replies k s l c.call (admitted l c.call)) (sym f)

  pub told_computed : {l l' : Ledger W} {c : Lent} {a : Answer W} → Sound k s l → Told k s l c a l' → (a ≡ (tell k s l c).0) × (l' ≡ (tell k s l c).1)
  told_computed {l} {c = c} h t = let e = go t in (ap (λ x. x.0) e, ap (λ x. x.1) e)
    where
      go : {l' : Ledger W} {a : Answer W} → Told k s l c a l' → (a, l') ≡ tell k s l c
      go (misuse e) = tell_is l c false _ e refl
      go (refused e f) = tell_is l c true _ e f
      go (done e f d) = makes_told h d ∙ tell_is l c true None e f

  run_computed : (l : Ledger W) (cs : List Lent) → Sound k s l → Run k s l cs (run k s l cs).0 (run k s l cs).1
  run_computed l [] h = none
  run_computed l (c ∷ cs) h = let t = tell_computed l c h in then t (run_computed (tell k s l c).1 cs (told_sound t h))

  run_told : {l last : Ledger W} {cs : List Lent} {answers : List (Answer W)} → Sound k s l → Run k s l cs answers last
      → (answers ≡ (run k s l cs).0) × (last ≡ (run k s l cs).1)
  run_told h none = (refl, refl)
  run_told h (then {cs = cs} t r) =
      let now = told_computed h t in
      let rest = run_told (told_sound t h) r in
      let same = ap (λ m. run k s m cs) now.1 in
      (cc, cc)

  pub runs_are_told : (cs : List Lent) → Run k s (opened s) cs (run k s (opened s) cs).0 (run k s (opened s) cs).1
      × ((answers : List (Answer W)) (last : Ledger W) → Run k s (opened s) cs answers last → (answers ≡ (run k s (opened s) cs).0) × (last ≡ (run k s (opened s) cs).1))
  runs_are_told cs = (run_computed (opened s) cs (opened_sound k s), λ answers last r. run_told (opened_sound k s) r)
