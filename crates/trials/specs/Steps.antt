-- What the kind steps means.
--     admitted n   the kind admits the amount n: 1 to 9, or 20 to 29
--     step_of w    the step on which the weight stands: its tens
--     steps_kind   kind 7: its join is the weight on the higher step, the left one on equal steps
use Rattle.std.specs.Prelude.{ℕ, ◌+◌, ◌/◌, Bool, cond, ◌&&◌, ◌||◌, [], ◌∷◌, nat_le, nat_lt}
use Rattle.mesh.specs.Kind.{Kind}
use Rattle.trials.specs.declared.steps.Steps.{Steps}

abbrev pub admitted : ℕ → Bool
admitted n = (nat_le 1 n && nat_le n 9) || (nat_le 20 n && nat_le n 29)

abbrev pub step_of : Steps → ℕ
step_of w = w.height / 10

abbrev pub steps_kind : Kind Steps
steps_kind = record {
  number = 7;
  zero = record { height = 0 };
  admits = admitted;
  of = λ n. record { height = n };
  amount = λ w. cond (admitted w.height) w.height 0;
  join = λ a b. cond (nat_lt (step_of a) (step_of b)) b a;
  at_most = λ a b. nat_le (step_of a) (step_of b);
  text = λ w. (97 + step_of w) ∷ [];
}
