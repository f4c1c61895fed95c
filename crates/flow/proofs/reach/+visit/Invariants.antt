use Rattle.std.proofs.Common.{◌-◌, ◌^◌, ◌<◌}
use lib.Count.{ones}
use Rattle.flow.proofs.ReachLaws.{Going}
use Rattle.flow.proofs.reach.+visit.Given as goal

abbrev pub decreases-visit : goal.decreases-visit
decreases-visit l = 64 - ones l.entered

abbrev pub invariant-loop-next : goal.invariant-loop-next
invariant-loop-next l = Going l.words l.entered l.fn.device.number l.seen l.next-iterator.0 × (l.seen < 2 ^ 64)
