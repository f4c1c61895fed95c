use Rattle.planner.proofs.theorems.runs_are_told.Goals as goal
use Rattle.planner.proofs.ComputedLaws.{runs_are_told}

pub returns : goal.returns
returns g c = record { told = runs_are_told g.W.Weight.meaning g.met.W.Weight.lawful }
