use Rattle.std.proofs.Common.{◌≡◌, length, take, Some, None, inl, inr, sym, ap, refl, ◌∙◌, subst, rules}
use Rattle.std.proofs.lemmas.Result.{err_from_is_err_and}
use Rattle.arrayvec.proofs.ArrayVecLemmas.{items-with_items}
use Rattle.mesh.specs.declared.refusal.Refusal.TheVariants.{RingStands}
use Rattle.flow.specs.Flow.{Ring, rights}
use Rattle.flow.specs.Order.{FlowOrder}
use Rattle.report.specs.Lines.{line_of_refusal}
use Rattle.grantfile.specs.Tests.{first, all_tests}
use Rattle.report.specs.Answers.{listed, ringed, accepted, refused}
use Rattle.report.proofs.flow_order.device_order.Goals as goal

pub returns-in_err-shape : goal.returns-in_err-shape
returns-in_err-shape g c =
    let p = err_from_is_err_and c.from_residual.result c.from_residual.ensures.1 in
    let f = c.in_err-shape.field-0.0 in
    let failed = subst (λ n. first (all_tests g.W.Weight.meaning n c.args.file.now) ≡ Some f) c.requires c.in_err-shape.ensures.cases.0 in
    rw (p.1, p.2) (record { answered = refused f failed refl })

pub returns-in_err-count : goal.returns-in_err-count
returns-in_err-count g c =
    let p = err_from_is_err_and c.from_residual-in_err-count.result c.from_residual-in_err-count.ensures.1 in
    let h = c.in_ok-shape.ensures.cases in
    let passed = subst (λ n. first (all_tests g.W.Weight.meaning n c.args.file.now) ≡ None) c.requires h.0 in
    let ring : (c.in_err-count.field-0.0 ≡ RingStands) × Ring (rights c.in_ok-shape.shape c.read.new.rows) =
    elim c.in_err-count.ensures.cases.0 [ inl short ↦ search rules | inr why ↦ (why.0, why.3) ] in
    rw (p.1, p.2) (record { answered = accepted c.in_ok-shape.shape c.read.new.rows passed h.1 h.2 (ringed ring.1 (ap (λ w. line_of_refusal w 0) ring.0)) })

pub returns : goal.returns
returns g c =
    let h = c.in_ok-shape.ensures.cases in
    let o = c.in_ok-count.ensures.cases in
    let passed = subst (λ n. first (all_tests g.W.Weight.meaning n c.args.file.now) ≡ None) c.requires h.0 in
    let r = rights c.in_ok-shape.shape c.read.new.rows in
    let list = take c.in_ok-count.count c.order.new.memory in
    let kept : length c.order.new.memory ≡ length c.from-devices.result.items = c.order.auto.memory ∙ ap length c.deref_mut.ensures.value in
    let devices = c.truncate.ensures.items ∙ ap (take c.in_ok-count.count) (items-with_items c.from-devices.result c.order.new.memory kept) in
    let flows = subst (FlowOrder r c.in_ok-shape.shape.devices) (sym devices) (subst (λ n. FlowOrder r n list) o.1 o.4) in
    record { answered = accepted c.in_ok-shape.shape c.read.new.rows passed h.1 h.2 (listed c.truncate.new.self.items o.3 flows refl) }
