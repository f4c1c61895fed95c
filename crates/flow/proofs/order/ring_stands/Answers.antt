use Rattle.std.proofs.Common.{◌≤◌, length, rules}
use Rattle.mesh.specs.Table.{rows_of}
use Rattle.flow.specs.Flow.{rights}
use Rattle.flow.specs.Listing.{Listed}
use Rattle.flow.proofs.FlowLaws.{source_within}
use Rattle.flow.proofs.OrderLaws.{ring_seen}
use Rattle.flow.proofs.order.ring_stands.Goals as goal

pub returns : goal.returns
returns g c =
    let s = c.args.shape in
    let rows = c.args.rows.now in
    let over = c.in_ok-table.ensures.cases in
    let there : rows_of s ≤ length rows = rw (over.0, over.1) at c.in_ok-table.table.lent in
    let l : Listed (rights s rows) s.devices c.listing.result = rw (over.0, over.1) at c.listing.ensures.value in
    record { cases = (there, ring_seen (rights s rows) s.devices c.listing.result _ (source_within s rows) l (search rules)) }
