use Rattle.std.proofs.Common.{ℕ, ◌+◌, ◌-◌, ◌^◌, ◌<◌, ap, ◌∙◌, arith}
use Rattle.std.specs.Int.{bit_at}
use lib.Bits.{bit_and}
use lib.Count.{ones}
use Rattle.std.proofs.lemmas.Nat.{one_shl}
use Rattle.flow.proofs.SetLaws.{bit_without, ones_without}
use Rattle.flow.proofs.sets.without.Goals as goal

pub returns : goal.returns
returns c =
    let k = c.args.device.number in
    let w = c.args.set in
    let h : w < 2 ^ 64 = omega arith in
    let e = ap (λ (x : ℕ). bit_and w (2 ^ 64 - 1 - x)) (one_shl k 64 c.args.device.in_word) in
    record {
      members = λ i. ap (λ (x : ℕ). bit_at x i) e ∙ bit_without k w i c.args.device.in_word h;
      count = λ m. ap (λ (x : ℕ). ones x + 1) e ∙ ones_without k w c.args.device.in_word h m;
    }
