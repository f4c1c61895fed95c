use Rattle.planner.proofs.theorems.tables_tried.Goals as goal
use Rattle.planner.proofs.TriedLaws.{tried}

pub returns : goal.returns
returns c = record { tables = tried c.runs_are_told.ensures.told c.runs_are_told-2.ensures.told }
