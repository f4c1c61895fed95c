-- What the kinds sum and peak mean.
--     admitted n      both kinds admit the amount n: 1 to 1,000,000
--     amount_from n   n where it is admitted, else 0
--     held n          n, or 2^40 where n is larger
--     sum_kind        kind 1: its join adds, and every stored number counts as held
--     peak_kind       kind 2: its join is the larger, and no stored number is held
use Rattle.std.specs.Prelude.{ℕ, ◌+◌, ◌^◌, min, max, Bool, cond, ◌&&◌, decimal, nat_le}
use Rattle.mesh.specs.Kind.{Kind}
use Rattle.mesh.specs.declared.sum.Sum.{Sum}
use Rattle.mesh.specs.declared.peak.Peak.{Peak}

abbrev pub admitted : ℕ → Bool
admitted n = nat_le 1 n && nat_le n 1000000

abbrev pub amount_from : ℕ → ℕ
amount_from n = cond (admitted n) n 0

abbrev pub held : ℕ → ℕ
held n = min n (2 ^ 40)

abbrev pub sum_kind : Kind Sum
sum_kind = record {
  number = 1;
  zero = record { value = 0 };
  admits = admitted;
  of = λ n. record { value = n };
  amount = λ w. amount_from (held w.value);
  join = λ a b. record { value = held (held a.value + held b.value) };
  at_most = λ a b. nat_le (held a.value) (held b.value);
  text = λ w. decimal (held w.value);
}

abbrev pub peak_kind : Kind Peak
peak_kind = record {
  number = 2;
  zero = record { value = 0 };
  admits = admitted;
  of = λ n. record { value = n };
  amount = λ w. amount_from w.value;
  join = λ a b. record { value = max a.value b.value };
  at_most = λ a b. nat_le a.value b.value;
  text = λ w. decimal w.value;
}
