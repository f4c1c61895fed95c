use Rattle.planner.proofs.theorems.conditions_settle.Goals as goal
use Rattle.planner.proofs.WalkLaws.{visit_settled}

pub returns : goal.returns
returns g c = record { follows = λ s xs ds n b t p v. visit_settled v }
