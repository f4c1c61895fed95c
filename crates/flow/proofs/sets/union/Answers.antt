use Rattle.flow.proofs.sets.union.Goals as goal
use Rattle.std.proofs.lemmas.Nat.Bits.{bit_at_or}

pub returns : goal.returns
returns c = record { members = bit_at_or c.args.set c.args.other }
