-- One more grant is written.
use Rattle.std.proofs.Common.{◌≡◌, ◌+◌, ◌*◌, ◌<◌, ◌∙◌, length, arith, rules}
use Rattle.std.proofs.lemmas.Result.{IfOk-at_ok}
use Rattle.grantfile.specs.Format.{point_at}
use Rattle.grantfile.specs.Tests.{grant_tests}
use Rattle.mesh.specs.Rows.{empty_row}
use Rattle.grantfile.proofs.Firsts.{joined_passed}
use Rattle.grantfile.proofs.Written.{none_filled, more_filled, grant_read, all_made, points_inside, points_rise}
use Rattle.grantfile.proofs.bodies.Grants.fill.Goals as goal

pub loop-number-init : goal.loop-number-init
loop-number-init g c =
    let body = c.args.self.now in
    none_filled g.W.Weight.meaning body.file.now body.start c.fill_with.new.self
    (all_made _ _ (empty_row g.W.Weight.meaning) (λ x q h. (search rules, search rules)) _ _ c.fill_with.ensures.ran.1)

pub unwrap-point-requires : goal.unwrap-point-requires
unwrap-point-requires g c =
    let body = c.args.self.now in
    let tests = grant_tests g.W.Weight.meaning body.file.now body.start in
    grant_read (tests c.loop-number.number) c.grant.result (joined_passed tests body.count c.loop-number.number c.loop-number-test.true c.requires.passed) c.grant.ensures.cases

pub loop-number-preserved : goal.loop-number-preserved
loop-number-preserved g c =
    let k = g.W.Weight.meaning in
    let body = c.args.self.now in
    let j = c.loop-number.number in
    let p = points_inside k body.file.now body.start body.count j c.requires.passed c.loop-number-test.true in
    let h : point_at body.file.now (body.start + 6 * j) < length c.loop-number.rows = omega (arith, c.requires.points) in
    let e : c.from.result ≡ point_at body.file.now (body.start + 6 * j) = c.from.ensures ∙ IfOk-at_ok _ c.unwrap-point.ensures c.grant.ensures.point in
    rw e
    (more_filled k body.file.now body.start j c.loop-number.rows c.unwrap-point.result.1 c.loop-number.invariant h
    (λ i l. points_rise k body.file.now body.start body.count i j c.requires.passed l c.loop-number-test.true)
    (IfOk-at_ok _ c.unwrap-point.ensures c.grant.ensures.row))
