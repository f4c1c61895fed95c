use Rattle.std.proofs.Common.{ℕ, ap, ◌∙◌}
use lib.Bits.{bit_or}
use lib.Count.{ones}
use Rattle.std.specs.Int.{bit_at}
use Rattle.std.proofs.lemmas.Nat.{one_shl}
use Rattle.flow.proofs.SetLaws.{bit_with, ones_insert}
use Rattle.flow.proofs.sets.with.Goals as goal

pub returns : goal.returns
returns c =
    let k = c.args.device.number in
    let w = c.args.set in
    let e = ap (bit_or w) (one_shl k 64 c.args.device.in_word) in
    record { members = λ i. ap (λ (x : ℕ). bit_at x i) e ∙ bit_with k w i; count = λ z. ap ones e ∙ ones_insert k w z }
