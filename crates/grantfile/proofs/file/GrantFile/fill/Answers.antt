-- One more device has its rows.
use Rattle.std.proofs.Common.{◌≡◌, ◌+◌, ◌-◌, ◌*◌, ◌<◌, length, sym, ap, ◌∙◌, subst, arith}
use Rattle.std.proofs.lemmas.List.Edits.{length-between}
use Rattle.grantfile.specs.Format.{devices_of, points_of, count_of, body_at}
use Rattle.grantfile.specs.Inner.{BodyFilled}
use Rattle.grantfile.specs.Tests.{body_tests}
use Rattle.grantfile.proofs.Checks.{tests_of_body}
use Rattle.grantfile.proofs.Devices.{rows_within, more_to, more_beyond}
use Rattle.grantfile.proofs.Firsts.{joined_passed}
use Rattle.grantfile.proofs.Written.{points_inside}
use Rattle.grantfile.proofs.file.GrantFile.fill.Goals as goal

pub fill-requires-clause-passed : goal.fill-requires-clause-passed
fill-requires-clause-passed g c =
    let k = g.W.Weight.meaning in
    let file = c.args.self.now.headed.bytes.now in
    let d = c.loop-device.device in
    let inside : d < devices_of file = omega arith in
    sym (tests_of_body k file d c.grants.result c.grants.ensures.file c.grants.ensures.start c.grants.ensures.count) ∙ joined_passed (body_tests k file) (devices_of file) d inside c.requires.passed

pub loop-device-preserved : goal.loop-device-preserved
loop-device-preserved g c =
    let k = g.W.Weight.meaning in
    let file = c.args.self.now.headed.bytes.now in
    let d = c.loop-device.device in
    let points = c.points-points.result in
    let inside : d < devices_of file = omega arith in
    let p : points ≡ points_of file = omega arith in
    let r = rows_within c.args.self.now.headed.shape d points (length c.loop-device.rows) (omega arith) c.points-points.ensures.value (omega (arith, c.requires.lent)) in
    let filled = subst (λ bytes. BodyFilled k bytes c.grants.result.start c.grants.result.count c.fill.new.rows) c.grants.ensures.file c.fill.ensures.after in
    let n : d * points + points - d * points ≡ points = omega arith in
    let l : length c.fill.new.rows ≡ points = c.fill.auto.rows ∙ length-between c.loop-device.rows (d * points) (d * points + points) r ∙ n in (
      more_beyond d points _ c.loop-device.rows c.fill.new.rows c.args.rows.now c.loop-device.invariant.0 n l (omega arith),
      more_to k file d _ _ (d * points) _ c.loop-device.rows c.fill.new.rows c.loop-device.invariant.1 filled
          c.grants.ensures.start c.grants.ensures.count (ap (λ q. d * q) p) (l ∙ p) (omega arith)
          (λ e j a b. points_inside k file (body_at file e) (count_of file e) j (joined_passed (body_tests k file) (devices_of file) e (omega arith) c.requires.passed) b),
    )
