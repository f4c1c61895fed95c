use Rattle.flow.specs.Tables.{table_rights}
use Rattle.flow.specs.Touched.{TouchesAt}
use Rattle.flow.proofs.FlowLaws.{FilledTo}
use Rattle.flow.proofs.table.Table.each_touched.Given as goal

abbrev pub invariant-loop-device : goal.invariant-loop-device
invariant-loop-device g l = FilledTo (TouchesAt (table_rights l.fn.self)) (record { reads = 0; writes = 0 }) l.device l.touched
