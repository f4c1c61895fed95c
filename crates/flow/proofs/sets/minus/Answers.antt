use Rattle.std.proofs.Common.{arith}
use Rattle.flow.proofs.SetLaws.{bit_minus}
use Rattle.flow.proofs.sets.minus.Goals as goal

pub returns : goal.returns
returns c = record { members = λ i. bit_minus c.args.set c.args.other i (omega arith) (omega arith) }
