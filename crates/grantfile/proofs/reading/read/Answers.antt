-- The lists of tests one after the other; the rows are written once all pass. What passes or fails is what a well-formed file does.
use Rattle.std.proofs.Common.{◌≡◌, ◌≤◌, length, None, Ok, ap, sym, ◌∙◌, subst, arith}
use Rattle.mesh.specs.Table.{rows_of}
use Rattle.grantfile.specs.Format.{ShapeOf}
use Rattle.grantfile.specs.Reading.{Filled, ReadInto}
use Rattle.grantfile.specs.Tests.{first, all_tests, contents_tests, bodies_tests}
use Rattle.grantfile.proofs.Checks.{past_rows, past_contents}
use Rattle.grantfile.proofs.Firsts.{first_stop}
use Rattle.grantfile.proofs.Formed.{accepts, refused}
use Rattle.grantfile.proofs.reading.read.Given as given
use Rattle.grantfile.proofs.reading.read.Goals as goal
use Rattle.grantfile.proofs.reading.read.Goals.{After-check}

pub returns-in_err-file : goal.returns-in_err-file
returns-in_err-file g c =
    let k = g.W.Weight.meaning in
    let file = c.args.file.now in
    let s = c.in_ok-headed.headed.shape in
    let w : rows_of s ≤ length c.args.rows.now = omega arith in
    let same = c.in_ok-headed.ensures.bytes in
    let failed = sym (ap (λ b. first (contents_tests b)) same) ∙ c.in_err-file.ensures.cases in
    let all = past_rows k _ c.kind.result file s c.kind.ensures.value c.in_ok-headed.ensures.cases (subst (λ b. ShapeOf b s) same c.in_ok-headed.headed.named) w
    ∙ first_stop (contents_tests file) (bodies_tests k file) _ failed in
    let h = refused k file c.args.rows.now c.from_residual-in_err-file.result _ c.from_residual-in_err-file.ensures.1 all in
    record { cases = h.0; exactly = h.1 }

-- the file that is checked is the one that was read, so what its bodies' tests give is what all tests do
same_file : (g : given.Over) (c : After-check g) → c.in_ok-file.file.headed.bytes.now ≡ c.args.file.now
same_file g c = c.in_ok-file.ensures.bytes ∙ c.in_ok-headed.ensures.bytes

bodies_left : (g : given.Over) (c : After-check g)
    → first (all_tests g.W.Weight.meaning (length c.args.rows.now) c.args.file.now) ≡ first (bodies_tests g.W.Weight.meaning c.in_ok-file.file.headed.bytes.now)
bodies_left g c =
    let k = g.W.Weight.meaning in
    let s = c.in_ok-headed.headed.shape in
    let w : rows_of s ≤ length c.args.rows.now = omega arith in
    let same = same_file g c in
    let named = subst (λ b. ShapeOf b s) c.in_ok-headed.ensures.bytes c.in_ok-headed.headed.named in
    let sound = subst (λ b. first (contents_tests b) ≡ None) same c.in_ok-file.file.sound in
    past_contents k _ c.kind.result c.args.file.now s c.kind.ensures.value c.in_ok-headed.ensures.cases named w sound ∙ sym (ap (λ b. first (bodies_tests k b)) same)

pub returns-in_err-check : goal.returns-in_err-check
returns-in_err-check g c =
    let before = (goal.at.returns-in_err-check g c).After-check in
    let h = refused g.W.Weight.meaning c.args.file.now c.args.rows.now c.from_residual-in_err-check.result _ c.from_residual-in_err-check.ensures.1
    (bodies_left g before ∙ c.in_err-check.ensures.cases) in
    record { cases = h.0; exactly = h.1 }

pub returns : goal.returns
returns g c =
    let k = g.W.Weight.meaning in
    let before = (goal.at.returns g c).After-check in
    let s = c.in_ok-file.file.headed.shape in
    let same = same_file g before in
    let h : ReadInto k c.args.file.now c.args.rows.now c.fill.new.rows (Ok s) = (
      bodies_left g before ∙ c.in_ok-check.ensures.cases,
      subst (λ b. ShapeOf b s) same c.in_ok-file.file.headed.named,
      subst (λ b. Filled k s b c.fill.new.rows) same c.fill.ensures.table,
      c.fill.ensures.beyond,
    ) in
    record { cases = h; exactly = accepts k c.args.file.now c.args.rows.now c.fill.new.rows (Ok s) h }
