-- What stops each of the wrong planners.
use Rattle.std.proofs.Common.{◌≡◌, ℕ, ◌+◌, ◌^◌, ◌≤◌, Bool, false, cond, ◌||◌, T, eqb, ltb, List, [], ◌∷◌, ◌++◌, map, reverse, length, get_or, Some, None, sym, refl, ap, ◌∙◌, inl, inr, arith, le→leb, leb→le}
use Rattle.std.proofs.lemmas.List.{length-append}
use Rattle.std.proofs.lemmas.Bool.{cases_lt, or_parts, eqb-false}
use Rattle.mesh.specs.declared.refusal.Refusal.TheVariants.{ShortMemory, WrongBudget}
use Rattle.mesh.specs.declared.shape.Shape.{Shape}
use Rattle.mesh.specs.declared.sum.Sum.{Sum}
use Rattle.mesh.specs.Kind.{Kind, Lawful}
use Rattle.mesh.specs.Kinds.{admitted, sum_kind}
use Rattle.flow.specs.Flow.{Ring}
use Rattle.planner.specs.declared.calls.Call.{Call}
use Rattle.planner.specs.declared.calls.Lent.{Lent}
use Rattle.planner.specs.declared.calls.Plan.{Plan}
use Rattle.planner.specs.declared.calls.Progress.{Progress}
use Rattle.planner.specs.declared.calls.Answer.TheVariants as says
use Rattle.planner.specs.Grants.{Slot, RowSet, right_in, rights_in, without, joined, weight_of}
use Rattle.planner.specs.Law.{Exact}
use Rattle.planner.specs.Walk.{Question, Place, Walked, stay, visit}
use Rattle.planner.specs.Ledger.{Search, Ledger, searching, started, too_few, refusal, Done, advance, Told, done}
use Rattle.planner.specs.Theorems.{RunsAreTold}
use Rattle.planner.specs.Tried.{two_by_two, first_trial, filled, calls_of, planned, left_of}
use Rattle.planner.specs.WrongPlanners.{level, rolled, roll_kind, slots, seeker, roll_trial, level_trial, WrongPlanners}
use Rattle.planner.proofs.TestLaws.{is_true, is_false, clash}
use Rattle.planner.proofs.RingLaws.{has_ring_test, to_decide_test}
use Rattle.planner.proofs.SoundLaws.{first_none}
use Rattle.planner.proofs.ComputedLaws.{runs_are_told}
use Rattle.planner.proofs.TriedLaws.{holds}
use Rattle.planner.proofs.GrantLaws.{chosen_left}
use Rattle.planner.proofs.RunLaws.{runs_obey}

pub level_lawful : {W : Type 0} (k : Kind W) → Lawful k → Lawful (level k)
level_lawful k law = record {
  reflexive = λ a. tt;
  transitive = λ a b c p q. tt;
  total = λ a b. inl tt;
  grows = λ a b. tt;
  monotone = λ a b c p. tt;
  back = law.back;
  nothing_else = law.nothing_else;
}

-- a comparison of lengths
at_most_by_length : (a b : List ℕ) → length a ≤ length b → T (roll_kind.at_most a b)
at_most_by_length a b h = le→leb (length a) (length b) h

no_more : (a b : List ℕ) → T (roll_kind.at_most a b) → length a ≤ length b
no_more a b t = leb→le (length a) (length b) t

roll_lawful : Lawful roll_kind
roll_lawful = record {
  reflexive = λ a. at_most_by_length a a (omega arith);
  transitive = λ a b c p q. let x = no_more a b p in let y = no_more b c q in at_most_by_length a c (omega arith);
  total = λ a b. elim (cases_lt (length a) (length b)) [ inl l ↦ inl (at_most_by_length a b (omega arith)) | inr g ↦ inr (at_most_by_length b a g) ];
  grows = λ a b. let e = length-append a b in at_most_by_length a (a ++ b) (omega arith);
  monotone = λ a b c p.
      let x = no_more a b p in
      let y = length-append a c in
      let z = length-append b c in
      at_most_by_length (a ++ c) (b ++ c) (omega arith);
  back = λ n t. ap (λ b. cond b n 0) (is_true (admitted n) t);
  nothing_else = nothing;
}
  where
    nothing : (w : List ℕ) → ((n : ℕ) → T (admitted n) → n ∷ [] ≡ w → ⊥) → rolled w ≡ 0
    nothing [] h = refl
    nothing (n ∷ []) h = ap (λ b. cond b n 0) (is_false (admitted n) (λ t. h n t refl))
    nothing (n ∷ m ∷ ns) h = refl

-- ---- the first tried table

-- without its cheapest plan no ring stands in it
rid : Ring (rights_in two_by_two (without (λ i. eqb i 1) seeker.slots)) → ⊥
rid r = (has_ring_test two_by_two (map right_in (without (λ i. eqb i 1) seeker.slots))).1 r

stay_there : {W : Type 0} {k : Kind W} {q : Question W} {v : ℕ} {p p' : Place} → Walked k q v p p' → v ≡ 0 → p' ≡ p
stay_there stay e = refl
stay_there (visit h w) e = absurd (omega arith)

-- the first advance of a search makes a visit
some_visit : {W : Type 0} {k : Kind W} {s : Shape} {l l' : Ledger W} {c : Call} {now : Progress} → Done k s l c (says.Advanced now) l'
    → (lent : ℕ) → refusal k s l c lent ≡ None → (xs : List (Slot W)) (ds : List ℕ) → l ≡ searching xs (started xs ds) → now.visits ≡ 0 → ⊥
some_visit {s = s} (advance {q = q} {b = b} {p = p} m) lent r xs ds e none =
    let same : q ≡ started xs ds = cc in
    let wrong : Bool = eqb b 0 || ltb (10 ^ 12) (q.visits + b) in
    let budget = (first_none wrong WrongBudget [] (first_none (too_few s lent) ShortMemory ((wrong, WrongBudget) ∷ []) r).1).0 in
    let some = eqb-false b 0 (or_parts (eqb b 0) (ltb (10 ^ 12) (q.visits + b)) budget).0 in
    let made = m.counted in
    let here : p.next ≡ Some [] = ap (λ x. x.next) (stay_there m.walk (omega arith)) ∙ ap (λ x. x.place.next) same in
    let gone : p.next ≡ None = m.all (omega arith) in
    clash (cc)

pub wrong_planners : RunsAreTold sum_kind → Lawful (level sum_kind) → WrongPlanners
wrong_planners told lawful = record {
  decides = to_decide_test two_by_two seeker.slots;
  all_on_rings = λ cheapest. cheapest (λ i. eqb i 1) rid;
  empty_plan = (has_ring_test two_by_two (map right_in (without (λ _. false) seeker.slots))).0 tt;
  no_visit = no_visit;
  lawful = roll_lawful;
  in_row_order = holds roll_kind (runs_are_told roll_kind roll_lawful) roll_trial refl;
  other_order = other_order;
  all_equal = lawful;
  its_plan = runs_obey (level sum_kind) lawful two_by_two _ _ _ (holds (level sum_kind) (runs_are_told (level sum_kind) lawful) level_trial refl).told;
  not_cheapest = λ cheapest. cheapest (λ i. eqb i 1) rid;
  no_other = λ answers last law. ((told two_by_two (calls_of first_trial)).1 answers last law.told).0;
}
  where
    other_order : (q : Search (List ℕ)) (plan : Plan (List ℕ)) (grants : RowSet) → q.slots ≡ filled roll_kind roll_trial.shape roll_trial.grants
        → Exact roll_kind q plan q.slots (left_of roll_kind roll_trial) grants → plan.weight ≡ reverse roll_trial.weight → ⊥
    other_order q plan grants e x turned =
        let table = filled roll_kind roll_trial.shape roll_trial.grants in
        let left : without grants table ≡ left_of roll_kind roll_trial = ap (without grants) (sym e) ∙ sym x.emptied in
        let weight : plan.weight ≡ roll_trial.weight = x.weight ∙ ap (weight_of roll_kind grants) e ∙ ap (joined roll_kind []) (chosen_left grants (planned roll_trial) table left) in
        let first : ◌≡◌ {A = ℕ} 3 1 = ap (λ w. get_or w 0 0) (sym weight ∙ turned) in
        omega arith

    no_visit : (c : Lent) (ended : Bool) (l : Ledger Sum) → Told sum_kind two_by_two (searching (slots sum_kind) seeker) c (says.Advanced (record { visits = 0; ended = ended })) l → ⊥
    no_visit c ended l (done e r d) = some_visit d c.rows r (slots sum_kind) seeker.deciding refl refl
