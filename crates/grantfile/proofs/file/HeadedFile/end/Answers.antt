-- One entry: it passes, or is the first that does not.
use Rattle.std.proofs.Common.{◌≡◌, ◌-◌, ◌<◌, ◌∷◌, [], Some, sym, ap, ◌∙◌, arith}
use Rattle.std.specs.List.{range_with_len, flat_map}
use Rattle.std.proofs.lemmas.Bool.{eq-eqb, ne_eqb, not_from_true, not_from_false, cond-true, cond-false}
use Rattle.grantfile.specs.Format.{body_at, start_of, count_of, devices_of}
use Rattle.grantfile.specs.Tests.{first, entry_test}
use Rattle.grantfile.proofs.Firsts.{joined_past, joined_stop, each_joined}
use Rattle.grantfile.proofs.Places.{body_first, body_next, entries_count, entry_chunk}
use Rattle.grantfile.proofs.file.HeadedFile.end.Goals as goal
use Rattle.grantfile.proofs.file.HeadedFile.end.Goals.{After-entry-start}

-- the device of this turn is in the table, and its entry is read in its place
inside : (c : After-entry-start) → c.loop-device.device < devices_of c.args.self.now.bytes.now
inside c =
    let n = c.as_chunks.ensures.front_len ∙ entries_count c.args.self.now.bytes.now _ (devices_of c.args.self.now.bytes.now) (omega arith) (omega arith) in
    omega (arith, n, c.loop-device-test.true)

here : (c : After-entry-start)
    → (c.entry-start.result.0 ≡ start_of c.args.self.now.bytes.now c.loop-device.device) × (c.entry-start.result.1 ≡ count_of c.args.self.now.bytes.now c.loop-device.device)
here c =
    let file = c.args.self.now.bytes.now in
    entry_chunk file _ (devices_of file) c.loop-device.device c.as_chunks.result.0.now c.entry-start.result.2.now c.entry-start.result.0 c.entry-start.result.1 (omega arith) (omega arith)
    c.as_chunks.ensures.front (inside c) c.entry-start.ensures.cases

pub loop-device-init : goal.loop-device-init
loop-device-init c =
    let file = c.args.self.now.bytes.now in
    let b = body_first file in
    let n : devices_of file ≡ devices_of file - 0 = omega arith in
    record {
      place = omega arith;
      small = omega arith;
      left = each_joined (entry_test file) (devices_of file) ∙ ap (λ m. first (flat_map (λ i. entry_test file i ∷ []) (range_with_len 0 m))) n;
    }

pub loop-device-preserved : goal.loop-device-preserved
loop-device-preserved c =
    let file = c.args.self.now.bytes.now in
    let d = c.loop-device.device in
    let turn = (goal.at.loop-device-preserved c).After-entry-start in
    let e = here turn in
    let n = body_next file d in
    let same : start_of file d ≡ body_at file d = omega arith in
    record {
      place = omega arith;
      small = omega arith;
      left =
          joined_past (λ i. entry_test file i ∷ []) d (devices_of file) _ c.loop-device.invariant.left (inside turn)
          (cond-false _ _ _ (not_from_true _ (eq-eqb _ _ same)));
    }

pub returns-then-from-end-clause-cases : goal.returns-then-from-end-clause-cases
returns-then-from-end-clause-cases c =
    let file = c.args.self.now.bytes.now in
    let d = c.loop-device.device in
    let turn = (goal.at.returns-then-from-end-clause-cases c).After-entry-start in
    let e = here turn in
    let other : start_of file d ≡ body_at file d → ⊥ = λ same. omega (arith, c.if-from-end.true) in
    joined_stop (λ i. entry_test file i ∷ []) d (devices_of file) _ _ c.loop-device.invariant.left (inside turn)
    (cond-true _ _ _ (not_from_false _ (ne_eqb _ _ other)) ∙ ap Some (sym c.of.ensures.value))
