-- The contents are whole; then the entries decide, and then the end.
use Rattle.std.proofs.Common.{ap, ◌∙◌, arith}
use Rattle.mesh.specs.declared.refusal.Refusal.TheVariants.{WrongEnd}
use Rattle.grantfile.specs.declared.fault.Layer.TheVariants as layer
use Rattle.grantfile.proofs.Checks.{entries_stop, end_stops, contents_passed}
use Rattle.grantfile.proofs.Firsts.{handed_on}
use Rattle.grantfile.proofs.file.HeadedFile.checked.Goals as goal

pub returns-in_err-end-clause-cases : goal.returns-in_err-end-clause-cases
returns-in_err-end-clause-cases c =
    rw (handed_on c.from_residual.result _ c.from_residual.ensures.1) (entries_stop c.args.self.bytes.now _ (omega arith) c.in_err-end.ensures.cases)

pub returns-then-len-end-clause-cases : goal.returns-then-len-end-clause-cases
returns-then-len-end-clause-cases c =
    end_stops c.args.self.bytes.now c.in_ok-end.end _ (omega arith) c.in_ok-end.ensures.cases c.in_ok-end.ensures.end (λ z. omega (arith, c.if-len-end.true)) (c.of-then-len-end.ensures.value ∙ ap (λ n. record { why = WrongEnd; place = n; layer = layer.Contents }) c.min.ensures)

pub invariant_of-result : goal.invariant_of-result
invariant_of-result c =
    record { sound = contents_passed c.args.self.bytes.now (omega arith) c.in_ok-end.ensures.cases (omega (arith, c.in_ok-end.ensures.end)) }
