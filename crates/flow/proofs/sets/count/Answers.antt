use Rattle.std.proofs.Common.{arith}
use Rattle.flow.proofs.SetLaws.{ones_members}
use Rattle.flow.proofs.sets.count.Goals as goal

pub returns : goal.returns
returns c = record { value = ones_members 64 c.args.set (omega arith) }
