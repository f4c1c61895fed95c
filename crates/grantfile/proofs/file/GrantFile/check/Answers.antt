-- One body: its grants pass, or hold the first that does not.
use Rattle.std.proofs.Common.{◌<◌, ◌∙◌, arith}
use Rattle.grantfile.specs.Format.{devices_of}
use Rattle.grantfile.specs.Tests.{body_tests}
use Rattle.grantfile.proofs.Checks.{tests_of_body}
use Rattle.grantfile.proofs.Firsts.{joined_past, joined_handed}
use Rattle.grantfile.proofs.file.GrantFile.check.Goals as goal

pub loop-device-preserved : goal.loop-device-preserved
loop-device-preserved g c =
    let k = g.W.Weight.meaning in
    let file = c.args.self.now.headed.bytes.now in
    let inside : c.loop-device.device < devices_of file = omega arith in
    let tests = tests_of_body k file c.loop-device.device c.grants.result c.grants.ensures.file c.grants.ensures.start c.grants.ensures.count in
    joined_past (body_tests k file) c.loop-device.device (devices_of file) _ c.loop-device.invariant inside (tests ∙ c.in_ok-check.ensures.cases)

pub returns-in_err-check : goal.returns-in_err-check
returns-in_err-check g c =
    let k = g.W.Weight.meaning in
    let file = c.args.self.now.headed.bytes.now in
    let inside : c.loop-device.device < devices_of file = omega arith in
    let tests = tests_of_body k file c.loop-device.device c.grants.result c.grants.ensures.file c.grants.ensures.start c.grants.ensures.count in
    record {
      cases =
          joined_handed (body_tests k file) c.loop-device.device (devices_of file) _ _ _ c.loop-device.invariant inside
          (tests ∙ c.in_err-check.ensures.cases) c.from_residual.ensures.1;
    }
