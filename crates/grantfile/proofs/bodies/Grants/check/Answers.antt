-- One grant: it passes, or is the first that does not.
use Rattle.grantfile.specs.Tests.{grant_tests}
use Rattle.grantfile.proofs.Firsts.{joined_past, joined_handed}
use Rattle.grantfile.proofs.bodies.Grants.check.Goals as goal

pub loop-j-preserved : goal.loop-j-preserved
loop-j-preserved g c =
    let body = c.args.self.now in
    joined_past (grant_tests g.W.Weight.meaning body.file.now body.start) c.loop-j.j body.count _ c.loop-j.invariant c.loop-j-test.true c.in_ok-grant.ensures.cases

pub returns-in_err-grant : goal.returns-in_err-grant
returns-in_err-grant g c =
    let body = c.args.self.now in
    record {
      cases =
          joined_handed (grant_tests g.W.Weight.meaning body.file.now body.start) c.loop-j.j body.count _ _ _ c.loop-j.invariant c.loop-j-test.true
          c.in_err-grant.ensures.cases c.from_residual.ensures.1;
    }
