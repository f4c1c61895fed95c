use Rattle.std.proofs.Common.{◌^◌, ◌<◌}
use lib.Count.{ones}
use Rattle.flow.specs.Tables.{table_rights}
use Rattle.flow.proofs.OrderLaws.{ListedTo}
use Rattle.flow.proofs.order.listing.Given as goal

abbrev pub invariant-loop-left : goal.invariant-loop-left
invariant-loop-left g l = record { small : l.left < 2 ^ 64; listed : ListedTo (table_rights l.fn.table) l.fn.table.shape.devices l.list.items l.left }

abbrev pub decreases-loop-left : goal.decreases-loop-left
decreases-loop-left g l = ones l.left
