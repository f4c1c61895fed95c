use Rattle.std.proofs.Common.{◌≤◌, length, sym, ◌∙◌, arith}
use Rattle.mesh.specs.Table.{rows_of}
use Rattle.flow.specs.Flow.{rights}
use Rattle.flow.specs.Order.{FlowOrder}
use Rattle.flow.proofs.FlowLaws.{source_within}
use Rattle.flow.proofs.OrderLaws.{order_ringless, copied}
use Rattle.flow.proofs.order.order.Goals as goal

pub returns : goal.returns
returns g c =
    let s = c.args.shape in
    let rows = c.args.rows.now in
    let n = c.devices-devices.result in
    let list = c.in_ok-list.list.items in
    let e = c.devices-devices.ensures.value in
    let over = c.in_ok-table.ensures.cases in
    let there : rows_of s ≤ length rows = rw (over.0, over.1) at c.in_ok-table.table.lent in
    let o : FlowOrder (rights s rows) s.devices list = rw (c.in_ok-list.ensures.ok_part, over.0, over.1) at c.listing.ensures.value in
    let w = copied n list c.args.memory.now c.copy_from_slice.new.self (o.long ∙ sym e) (c.copy_from_slice.ensures.after ∙ c.deref.ensures.0) in
    record {
      cases = (
        there,
        e,
        omega arith,
        order_ringless (rights s rows) s.devices list (source_within s rows) o,
        rw (w.0, e) o,
        w.1,
      );
    }
