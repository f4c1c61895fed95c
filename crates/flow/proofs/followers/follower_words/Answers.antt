use Rattle.std.proofs.Common.{◌≡◌, subst, arith}
use Rattle.flow.specs.Sets.{set_of}
use Rattle.flow.specs.Touched.{feeds}
use Rattle.flow.proofs.FlowLaws.{FilledTo, filled_none, words_followers}
use Rattle.flow.proofs.followers.follower_words.Goals as goal

pub loop-from-init : goal.loop-from-init
loop-from-init g c = filled_none _ _

pub returns-clause-value : goal.returns-clause-value
returns-clause-value g c =
    let t = c.args.table.now in
    let ts = c.each_touched-touched.result in
    let d = c.devices-devices.ensures.value in
    let e : c.loop-from.from ≡ c.devices-devices.result = omega arith in
    let filled = subst (λ n. FilledTo (λ a w. w ≡ set_of (feeds ts a) n) 0 n c.loop-from.words) d
    (subst (λ n. FilledTo (λ a w. w ≡ set_of (feeds ts a) c.devices-devices.result) 0 n c.loop-from.words) e c.loop-from.invariant) in
    words_followers t.shape t.rows.now ts c.loop-from.words c.each_touched-touched.ensures.value filled
