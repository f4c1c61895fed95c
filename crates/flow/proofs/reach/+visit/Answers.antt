use Rattle.std.proofs.Common.{sym}
use Rattle.flow.proofs.SetLaws.{not_member}
use Rattle.flow.proofs.ReachLaws.{going_more, dealt_now}
use Rattle.flow.proofs.reach.+visit.Goals as goal

pub loop-next-preserved-then-not-member : goal.loop-next-preserved-then-not-member
loop-next-preserved-then-not-member t c =
    let w = c.args.words.now in
    let seen = c.loop-next.seen in
    let next = c.in-Some.next.number in
    let fresh = not_member seen next (sym c.if-not-member.ensures.value) in
    let dealt = dealt_now w seen next c.with.result c.visit-seen.result fresh c.with.ensures.members (c.with.ensures.count fresh) c.visit-seen.ensures.value in
    let going = going_more w c.args.entered c.args.device.number seen c.loop-next.next-iterator.0 next c.visit-seen.result c.next.new.self.0 c.loop-next.invariant.0 c.in-Some.ensures.steps dealt in
    (going, c.visit-seen.type_inv)
