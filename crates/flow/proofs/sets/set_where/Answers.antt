use Rattle.std.proofs.Common.{◌<◌, sym, ◌∙◌, arith}
use Rattle.flow.proofs.SetLaws.{set_of_none, set_of_push, set_of_skip}
use Rattle.flow.proofs.sets.set_where.Goals as goal
use Rattle.flow.proofs.sets.set_where.Goals.{then-test, else-test}

pub loop-i-init : goal.loop-i-init
loop-i-init g c = λ p h. sym (set_of_none p)

pub loop-i-preserved : goal.loop-i-preserved
loop-i-preserved g c = λ p h.
    let i = c.loop-i.i in
    let lt : i < 64 = omega arith in
    let so_far = c.loop-i.invariant p h in
    let e = h i c.test.result c.loop-i-test.true c.test.ensures in
    elim c.if-test.branch [
      | then-test w ↦ w.set-is ∙ set_of_push p i c.loop-i.set lt (sym e ∙ w.if-test.true) so_far
      | else-test w ↦ w.set-is ∙ so_far ∙ set_of_skip p i (sym e ∙ w.if-test.false)
    ]
