-- The tests of rings and orders answer the propositions.
use Rattle.std.proofs.Common.{◌≡◌, ℕ, suc, Bool, true, false, not, ◌&&◌, ◌||◌, T, eqb, ltb, List, [], ◌∷◌, length, get_or, take, sym, refl, subst, inl, inr, leb→le}
use Rattle.std.proofs.lemmas.Bool.{lt-ltb}
use Rattle.mesh.specs.declared.right.Right.{Right}
use Rattle.mesh.specs.declared.shape.Shape.{Shape}
use Rattle.flow.specs.Flow.{Rights, placed, Source, In, Different}
use Rattle.flow.specs.Order.{Ready, Lowest, FlowOrder}
use Rattle.planner.specs.Search.{is_in}
use Rattle.planner.specs.Theorems.{TestsAnswer}
use Rattle.planner.specs.FlowTests.{is_source, all_below, all_different, is_ready, is_lowest, is_order}
use Rattle.flow.proofs.FlowLaws.{placed_inside}
use Rattle.planner.proofs.TestLaws.{both, parts, either, test_equal, all_below_holds, below_all, in_test, test_in, test_not, not_test}
use Rattle.planner.proofs.RingLaws.{is_source_test, source_is, has_ring_test, on_ring_test, ring_on}

different : (xs : List ℕ) → T (all_different xs) → Different xs
different [] t = tt
different (x ∷ xs) t =
    let h = parts (not (is_in x xs)) (all_different xs) t in
    ((λ i. not_test (is_in x xs) h.0 (in_test x xs i)), different xs h.1)

module _ (s : Shape) (rs : List Right) (listed : List ℕ) where
  abbrev g : Rights
  g = placed s rs

  -- a source is listed, or there is none
  abbrev is_fed : ℕ → ℕ → Bool
  is_fed d a = not (is_source s g a d) || is_in a listed

  ready : (d : ℕ) → T (is_ready s g listed d) → Ready g s.devices listed d
  ready d t =
      let h = parts (ltb d s.devices) (not (is_in d listed) && all_below s.devices (is_fed d)) t in
      let k = parts (not (is_in d listed)) (all_below s.devices (is_fed d)) h.1 in
      record { device = leb→le (suc d) s.devices h.0; fresh = λ i. not_test (is_in d listed) k.0 (in_test d listed i); fed = λ a r. fed k.1 a r }
    where
      fed : T (all_below s.devices (is_fed d)) → (a : ℕ) → Source g a d → In a listed
      fed t' a r = elim (either (not (is_source s g a d)) (is_in a listed) (below_all s.devices (is_fed d) t' a (placed_inside s rs a d r).0)) [
        | inl n ↦ absurd (not_test (is_source s g a d) n (source_is s g (placed_inside s rs) a d r))
        | inr i ↦ test_in a listed i
      ]

  is_ready_test : (d : ℕ) → Ready g s.devices listed d → T (is_ready s g listed d)
  is_ready_test d r = both (ltb d s.devices) (not (is_in d listed) && all_below s.devices (is_fed d)) (subst T (sym (lt-ltb d s.devices r.device)) tt)
      (both (not (is_in d listed)) (all_below s.devices (is_fed d)) (test_not (is_in d listed) (λ i. r.fresh (test_in d listed i))) (all_below_holds s.devices (is_fed d) (λ a l. fed a (is_source s g a d) refl)))
    where
      fed : (a : ℕ) (b : Bool) → is_source s g a d ≡ b → T (not b || is_in a listed)
      fed a true e = in_test a listed (r.fed a (is_source_test s g a d (subst T (sym e) tt)))
      fed a false e = tt

  lowest : (d : ℕ) → T (is_lowest s g listed d) → Lowest g s.devices listed d
  lowest d t =
      let h = parts (is_ready s g listed d) (all_below d (λ e. not (is_ready s g listed e))) t in
      record { ready = ready d h.0; least = λ e l r. not_test (is_ready s g listed e) (below_all d (λ x. not (is_ready s g listed x)) h.1 e l) (is_ready_test e r) }

pub is_order_test : (s : Shape) (rs : List Right) (xs : List ℕ) → T (is_order s (placed s rs) xs) → FlowOrder (placed s rs) s.devices xs
is_order_test s rs xs t = record {
  long = test_equal (length xs) s.devices h.0;
  once = different xs k.0;
  all = λ d l. test_in d xs (below_all s.devices (λ e. is_in e xs) m.0 d l);
  next = λ i l. lowest s rs (take i xs) (get_or xs i 0) (below_all s.devices (λ j. is_lowest s (placed s rs) (take j xs) (get_or xs j 0)) m.1 i l);
}
  where
    h : T (eqb (length xs) s.devices) × T (all_different xs && (all_below s.devices (λ d. is_in d xs) && all_below s.devices (λ k. is_lowest s (placed s rs) (take k xs) (get_or xs k 0))))
    h = parts _ _ t

    k : T (all_different xs) × T (all_below s.devices (λ d. is_in d xs) && all_below s.devices (λ k. is_lowest s (placed s rs) (take k xs) (get_or xs k 0)))
    k = parts _ _ h.1

    m : T (all_below s.devices (λ d. is_in d xs)) × T (all_below s.devices (λ k. is_lowest s (placed s rs) (take k xs) (get_or xs k 0)))
    m = parts _ _ k.1

pub tests_answer : TestsAnswer
tests_answer s rs = record {
  ring = (has_ring_test s rs).0;
  ring_found = (has_ring_test s rs).1;
  on_ring_test = on_ring_test s (placed s rs);
  on_ring_found = λ d p. ring_on s (placed s rs) d p (placed_inside s rs);
  order = is_order_test s rs;
}
