use Rattle.flow.proofs.OrderLaws.{WaitingBut}
use Rattle.flow.proofs.order.waiting.Given as goal

abbrev pub invariant-loop-device : goal.invariant-loop-device
invariant-loop-device l = WaitingBut l.words l.left l.device-iterator.0 l.waits
