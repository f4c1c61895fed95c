use Rattle.planner.proofs.theorems.wrong_planners_fail.Goals as goal
use Rattle.planner.proofs.WrongLaws.{wrong_planners}

pub returns : goal.returns
returns c = record { wrong = wrong_planners c.runs_are_told.ensures.told c.level_kinds_are_lawful.ensures.lawful }
