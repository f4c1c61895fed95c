use Rattle.planner.proofs.theorems.walks_agree.Goals as goal
use Rattle.planner.proofs.ComputedLaws.{walks_agree}

pub returns : goal.returns
returns g c = record { agree = walks_agree g.W.Weight.meaning }
