use Rattle.planner.proofs.theorems.walks_end.Goals as goal
use Rattle.planner.proofs.ComputedLaws.{walks_end}

pub returns : goal.returns
returns g c = record { ends = walks_end g.W.Weight.meaning g.met.W.Weight.lawful }
