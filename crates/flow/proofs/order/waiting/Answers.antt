use Rattle.flow.proofs.OrderLaws.{waiting_more}
use Rattle.flow.proofs.order.waiting.Goals as goal

pub loop-device-preserved : goal.loop-device-preserved
loop-device-preserved c =
    waiting_more c.args.words.now c.args.left c.loop-device.device-iterator.0 c.loop-device.waits c.in-Some.device.number c.next.new.self.0 c.union-waits.result
    c.in-Some.ensures.steps c.union-waits.ensures.members c.loop-device.invariant
