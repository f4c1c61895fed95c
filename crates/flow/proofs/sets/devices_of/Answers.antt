use Rattle.std.proofs.Common.{◌≡◌, ℕ, ◌-◌, ◌^◌, ◌<◌, ◌≤◌, ◌⊎◌, ◌↔◌, inl, inr, ap, ◌∙◌, arith}
use Rattle.std.specs.Int.Count.{ones, ones-ones}
use Rattle.std.specs.Int.{bit_at}
use Rattle.std.proofs.lemmas.Nat.Bits.{bit_at_ones, bit_at_ones_above, ones_shr}
use Rattle.std.proofs.lemmas.Bool.{cases_lt}
use Rattle.flow.specs.Sets.{Member}
use Rattle.flow.proofs.sets.devices_of.Goals as goal

-- the word whose n lowest digits are 1
every : (n w : ℕ) → w ≡ 2 ^ n - 1 → ((i : ℕ) → Member i w ↔ (i < n)) × (ones w ≡ n)
every n w e = (λ i. (λ m. within i m (cases_lt i n), λ l. ap (λ (x : ℕ). bit_at x i) e ∙ bit_at_ones n i l), ap ones e ∙ ones-ones n)
  where
    within : (i : ℕ) → Member i w → (i < n) ⊎ (n ≤ i) → i < n
    within i m (inl l) = l
    within i m (inr g) = let z : bit_at w i ≡ 0 = ap (λ (x : ℕ). bit_at x i) e ∙ bit_at_ones_above n i g in absurd (omega arith)

pub returns : goal.returns
returns c =
    let n = c.args.shape.devices in
    let back : 64 - (64 - c.devices.result) ≡ n = omega arith in
    let r = every n _ (ones_shr 64 (64 - c.devices.result) (omega arith) ∙ ap (λ (x : ℕ). 2 ^ x - 1) back) in
    record { members = r.0; count = r.1 }
