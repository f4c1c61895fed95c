use Rattle.std.proofs.Common.{arith}
use Rattle.flow.specs.Tables.{table_rights}
use Rattle.flow.proofs.FlowLaws.{source_within}
use Rattle.flow.proofs.OrderLaws.{listed_more, listed_stuck, listed_all}
use Rattle.flow.proofs.order.listing.Goals as goal

pub returns-in_err-next : goal.returns-in_err-next
returns-in_err-next g c =
    let w = c.follower_words-words in
    let ring = listed_stuck (table_rights c.args.table.now) c.loop-left.left w.result c.loop-left.invariant.small (omega arith) w.ensures.value c.in_err-next.ensures.value in
    record { value = rw c.from_residual.ensures ring }

pub loop-left-preserved : goal.loop-left-preserved
loop-left-preserved g c =
    let t = c.args.table.now in
    let w = c.follower_words-words in
    let l = c.loop-left in
    let next = c.in_ok-next.ensures.value in
    let less = c.without-left in
    record {
      small = less.type_inv;
      listed = rw c.push.ensures.items
          (listed_more (table_rights t) t.shape.devices l.list.items l.left c.in_ok-next.next w.result less.result
          (source_within t.shape t.rows.now) w.ensures.value l.invariant.listed next less.ensures.members (less.ensures.count next.0));
    }

pub returns : goal.returns
returns g c = record { value = listed_all _ _ _ _ (omega arith) c.loop-left.invariant.listed }
