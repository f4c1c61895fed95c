use Rattle.planner.proofs.theorems.tests_answer.Goals as goal
use Rattle.planner.proofs.OrderTestLaws.{tests_answer}

pub returns : goal.returns
returns c = record { tests = tests_answer }
