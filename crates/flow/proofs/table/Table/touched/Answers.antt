use Rattle.std.proofs.Common.{arith, rules}
use Rattle.flow.specs.Flow.{right_at}
use Rattle.mesh.specs.Rights.{can_read, can_write}
use Rattle.mesh.specs.Table.{row_of}
use Rattle.flow.proofs.FlowLaws.{touches_there, right_in_part}
use Rattle.flow.proofs.table.Table.touched.Goals as goal

pub returns : goal.returns
returns g c =
    let s = c.args.self.now.shape in
    let rows = c.args.self.now.rows.now in
    let d = c.args.device in
    let e = c.points-points.ensures.value in
    let r = c.sets_where-reads.ensures.one (λ p. can_read (right_at rows (row_of s d p))) (λ i b h q. search (rules, right_in_part)) in
    let w = c.sets_where-reads.ensures.other (λ p. can_write (right_at rows (row_of s d p))) (λ i b h q. search (rules, right_in_part)) in
    record { value = touches_there s rows d _ (omega arith) (rw e at r) (rw e at w) }
