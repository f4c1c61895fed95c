-- A set of numbers below 64 as one word, with number 0 as its lowest bit.
--     Member i w     i is a member of w
--     has w i        the same, as a test
--     meets v w      the sets have a member in common
--     IsLowest w i   i is the lowest member of w
--     set_of p n     the set of the numbers below n that pass the test p
--     count_of p n   how many numbers below n pass the test p
use Rattle.std.specs.Prelude.{◌≡◌, ℕ, zero, suc, ◌+◌, ◌*◌, ◌^◌, ◌<◌, Bool, not, ◌==◌, bit_and}
use Rattle.std.specs.Int.{bit_at, from_bool}

abbrev pub Member : ℕ → ℕ → Type 0
Member i w = bit_at w i ≡ 1

abbrev pub has : ℕ → ℕ → Bool
has w i = bit_at w i == 1

abbrev pub meets : ℕ → ℕ → Bool
meets v w = not (bit_and v w == 0)

pub record IsLowest (w i : ℕ) : Type 0 where
  pub item : Member i w
  pub least : (j : ℕ) → j < i → bit_at w j ≡ 0

unfoldable pub set_of : (ℕ → Bool) → ℕ → ℕ
set_of p zero = 0
set_of p (suc n) = from_bool (p n) * 2 ^ n + set_of p n

unfoldable pub count_of : (ℕ → Bool) → ℕ → ℕ
count_of p zero = 0
count_of p (suc n) = from_bool (p n) + count_of p n
