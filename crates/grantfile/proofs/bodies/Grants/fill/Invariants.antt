-- The grants so far stand in their rows, and the other rows are empty.
use Rattle.grantfile.specs.Inner.{BodyFilled}
use Rattle.grantfile.proofs.bodies.Grants.fill.Given as goal

abbrev pub invariant-loop-number : goal.invariant-loop-number
invariant-loop-number g l = BodyFilled g.W.Weight.meaning l.self.file.now l.self.start l.number l.rows
