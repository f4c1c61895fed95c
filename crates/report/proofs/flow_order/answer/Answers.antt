use Rattle.std.proofs.Common.{sym, subst}
use Rattle.std.proofs.lemmas.Result.{IfOk-weaker}
use Rattle.report.specs.Answers.{Answered}
use Rattle.report.proofs.flow_order.answer.Goals as goal

pub returns-in-Ok : goal.returns-in-Ok
returns-in-Ok g c =
    let answered = Answered g.W.Weight.meaning c.args.file.now in
    record { made = IfOk-weaker c.to_string.result _ _ (λ t e. subst answered (sym e) c.in-Ok.ensures.answered) c.to_string.ensures.ok }

pub returns : goal.returns
returns g c =
    let answered = Answered g.W.Weight.meaning c.args.file.now in
    record { made = IfOk-weaker c.to_string-in-Err.result _ _ (λ t e. subst answered (sym e) c.in-Err.ensures.answered) c.to_string-in-Err.ensures.ok }
