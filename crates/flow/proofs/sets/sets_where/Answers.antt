use Rattle.std.proofs.Common.{◌<◌, sym, ◌∙◌, arith}
use Rattle.flow.proofs.SetLaws.{set_of_none, set_of_push, set_of_skip}
use Rattle.flow.proofs.sets.sets_where.Goals as goal
use Rattle.flow.proofs.sets.sets_where.Goals.{then-one, else-one, then-other, else-other}

pub loop-i-init : goal.loop-i-init
loop-i-init g c = record { first = λ p h. sym (set_of_none p); second = λ p h. sym (set_of_none p) }

pub loop-i-preserved : goal.loop-i-preserved
loop-i-preserved g c =
    let i = c.loop-i.i in
    let lt : i < 64 = omega arith in
    record {
      first = λ p h.
          let so_far = c.loop-i.invariant.first p h in
          let e = h i c.one.result c.loop-i-test.true c.one.ensures in
          elim c.if-one.branch [
            | then-one w ↦ w.first-is ∙ set_of_push p i c.loop-i.first lt (sym e ∙ w.if-one.true) so_far
            | else-one w ↦ w.first-is ∙ so_far ∙ set_of_skip p i (sym e ∙ w.if-one.false)
          ];
      second = λ p h.
          let so_far = c.loop-i.invariant.second p h in
          let e = h i c.other.result c.loop-i-test.true c.other.ensures in
          elim c.if-other.branch [
            | then-other w ↦ w.second-is ∙ set_of_push p i c.loop-i.second lt (sym e ∙ w.if-other.true) so_far
            | else-other w ↦ w.second-is ∙ so_far ∙ set_of_skip p i (sym e ∙ w.if-other.false)
          ];
    }
