use Rattle.flow.proofs.FlowLaws.{filled_none}
use Rattle.flow.proofs.table.Table.each_touched.Goals as goal

pub loop-device-init : goal.loop-device-init
loop-device-init g c = filled_none _ _
