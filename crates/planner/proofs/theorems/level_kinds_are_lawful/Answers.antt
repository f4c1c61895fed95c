use Rattle.planner.proofs.theorems.level_kinds_are_lawful.Goals as goal
use Rattle.planner.proofs.WrongLaws.{level_lawful}

pub returns : goal.returns
returns g c = record { lawful = level_lawful g.W.Weight.meaning g.met.W.Weight.lawful }
