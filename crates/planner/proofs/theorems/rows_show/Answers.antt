use Rattle.planner.proofs.theorems.rows_show.Goals as goal
use Rattle.planner.proofs.RowLaws.{rows_show}

pub returns : goal.returns
returns g c = record { rows = rows_show g.W.Weight.meaning g.met.W.Weight.lawful }
