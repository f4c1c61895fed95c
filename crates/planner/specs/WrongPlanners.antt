-- Five wrong planners, and what of the law stops each. All but the fourth plan for the first tried table.
--     level k         the kind k, but all its weights rank equal
--     roll_kind       a lawful kind whose weights keep the order in which they were joined
--     WrongPlanners   what stops each of them
use Rattle.std.specs.Prelude.{◌≡◌, ℕ, Bool, true, false, List, [], ◌∷◌, ◌++◌, reverse, length, ◌≢◌, nat_le}
use Rattle.mesh.specs.declared.sum.Sum.{Sum}
use Rattle.mesh.specs.Kind.{Kind, Lawful}
use Rattle.mesh.specs.Kinds.{admitted, amount_from, sum_kind}
use Rattle.flow.specs.Flow.{Ring}
use Rattle.mesh.specs.declared.right.Right.TheVariants.{Both}
use Rattle.planner.specs.declared.calls.Lent.{Lent}
use Rattle.planner.specs.declared.calls.Plan.{Plan}
use Rattle.planner.specs.declared.calls.Answer.{Answer}
use Rattle.planner.specs.declared.calls.Answer.TheVariants as says
use Rattle.planner.specs.Grants.{Slot, RowSet, rights_in, without, weight_of}
use Rattle.planner.specs.Search.{Decides, is_in}
use Rattle.planner.specs.Ledger.{Search, Ledger, book, searching, started, Told}
use Rattle.planner.specs.Law.{Exact, Cheapest, Law}
use Rattle.planner.specs.Tried.{Trial, entry, shaped, Holds, two_by_two, first_trial, filled, calls_of, answers_of, left_of}

abbrev pub level : {W : Type 0} → Kind W → Kind W
level k = record {
  number = k.number;
  zero = k.zero;
  admits = k.admits;
  of = k.of;
  amount = k.amount;
  join = k.join;
  at_most = λ a b. true;
  text = k.text;
}

-- the amount of a roll of one
abbrev pub rolled : List ℕ → ℕ
rolled [] = 0
rolled (n ∷ []) = amount_from n
rolled (n ∷ m ∷ ns) = 0

abbrev pub roll_kind : Kind (List ℕ)
roll_kind = record {
  number = 3;
  zero = [];
  admits = admitted;
  of = λ n. n ∷ [];
  amount = rolled;
  join = ◌++◌;
  at_most = λ a b. nat_le (length a) (length b);
  text = λ w. [];
}

-- the slots of the first tried table
abbrev pub slots : {W : Type 0} → Kind W → List (Slot W)
slots k = filled k two_by_two first_trial.grants

-- a search that starts on them
abbrev pub seeker : Search Sum
seeker = started (slots sum_kind) (0 ∷ 1 ∷ 2 ∷ 3 ∷ [])

-- two pairs of devices that read and append at a point of their own: a plan has a grant of each
abbrev pub roll_trial : Trial (List ℕ)
roll_trial = record {
  shape = shaped 4 2 tt tt tt tt;
  grants = entry 0 0 Both 4 ∷ entry 1 0 Both 3 ∷ entry 2 1 Both 2 ∷ entry 3 1 Both 1 ∷ [];
  weight = 3 ∷ 1 ∷ [];
  revokes = (1, 0) ∷ (3, 1) ∷ [];
  visits = 15;
  order = 0 ∷ 1 ∷ 2 ∷ 3 ∷ [];
}

-- what the planner that ranks all weights equal gives there: the first plan that its walk finds, the grant (1, 1)
abbrev pub level_trial : Trial Sum
level_trial = record { shape = two_by_two; grants = first_trial.grants; weight = record { value = 9 }; revokes = (1, 1) ∷ []; visits = 9; order = 1 ∷ 0 ∷ [] }

pub record WrongPlanners : Type 0 where
  pub decides : Decides two_by_two seeker.slots seeker.deciding
  -- it revokes every grant on a ring: not cheapest
  pub all_on_rings : Cheapest sum_kind two_by_two seeker (weight_of sum_kind (λ i. is_in i seeker.deciding) seeker.slots) → ⊥
  -- it takes an empty plan: not ringless
  pub empty_plan : Ring (rights_in two_by_two (without (λ _. false) seeker.slots))
  -- it makes no visit, and says ended or not: not told
  pub no_visit : (c : Lent) (ended : Bool) (l : Ledger Sum)
      → Told sum_kind two_by_two (searching (slots sum_kind) seeker) c (says.Advanced (record { visits = 0; ended = ended })) l → ⊥
  -- it joins in another order: not exact, under a lawful kind that tells the orders apart
  pub lawful : Lawful roll_kind
  pub in_row_order : Holds roll_kind roll_trial
  pub other_order : (q : Search (List ℕ)) (plan : Plan (List ℕ)) (grants : RowSet) → q.slots ≡ filled roll_kind roll_trial.shape roll_trial.grants
      → Exact roll_kind q plan q.slots (left_of roll_kind roll_trial) grants → plan.weight ≢ reverse roll_trial.weight
  -- it ranks all weights equal: lawful, so the law holds of its plan by that ranking; by the ranking of sum it is not cheapest
  pub all_equal : Lawful (level sum_kind)
  pub its_plan : Law (level sum_kind) two_by_two (calls_of level_trial) (answers_of level_trial) (book (left_of (level sum_kind) level_trial))
  pub not_cheapest : Cheapest sum_kind two_by_two seeker level_trial.weight → ⊥
  -- whatever is told on the first tried table are its answers
  pub no_other : (answers : List (Answer Sum)) (last : Ledger Sum) → Law sum_kind two_by_two (calls_of first_trial) answers last → answers ≡ answers_of first_trial
