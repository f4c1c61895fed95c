use Rattle.std.proofs.Common.{take, ap, ◌∙◌}
use Rattle.std.proofs.Math.Nat.{min_comm}
use Rattle.std.proofs.lemmas.List.{take_min}
use Rattle.report.proofs.flow_order.file_part.Goals as goal

pub returns : goal.returns
returns c =
    let input = c.args.input.now in
    record { value = ap (λ n. take n input) (c.min.ensures ∙ min_comm _ _) ∙ take_min 65536 input }
