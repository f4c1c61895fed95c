use Rattle.planner.proofs.theorems.runs_obey.Goals as goal
use Rattle.planner.proofs.RunLaws.{runs_obey}

pub returns : goal.returns
returns g c = record { law = runs_obey g.W.Weight.meaning g.met.W.Weight.lawful }
