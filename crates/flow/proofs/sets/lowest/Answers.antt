use Rattle.std.proofs.Common.{◌^◌, ◌<◌, arith}
use Rattle.std.specs.Int.{w64}
use Rattle.std.proofs.lemmas.Nat.Bits.{bit_at-trailing_zeros}
use Rattle.flow.proofs.sets.lowest.Goals as goal

pub returns : goal.returns
returns c =
    let h : c.args.set < 2 ^ 64 = omega arith in
    let t = bit_at-trailing_zeros w64 c.args.set (omega arith) h in
    record { cases = record { item = t.1; least = t.2 } }
