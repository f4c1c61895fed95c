use Rattle.planner.proofs.theorems.opens_fit.Goals as goal
use Rattle.planner.proofs.RowLaws.{opens_fit}

pub returns : goal.returns
returns c = record { opens = opens_fit }
