-- In a sound file a body starts where its entry says, and lies within the file.
use Rattle.std.proofs.Common.{◌≡◌, arith}
use Rattle.grantfile.specs.Format.{start_of, count_of}
use Rattle.grantfile.proofs.Checks.{passed_whole, passed_start, passed_within}
use Rattle.grantfile.proofs.Places.{entry_rest}
use Rattle.grantfile.proofs.file.GrantFile.grants.Goals as goal
use Rattle.grantfile.proofs.file.GrantFile.grants.Goals.{After-entry-start}

here : (c : After-entry-start) → (c.entry-start.result.0 ≡ start_of c.args.self.now.headed.bytes.now c.args.device) × (c.entry-start.result.1 ≡ count_of c.args.self.now.headed.bytes.now c.args.device)
here c =
    let file = c.args.self.now.headed.bytes.now in
    let w = passed_whole file c.args.self.now.sound in
    entry_rest file c.entry-start.result.2.now c.args.device c.entry-start.result.0 c.entry-start.result.1 (omega arith) c.entry-start.ensures.cases

pub invariant_of-result-clause-within : goal.invariant_of-result-clause-within
invariant_of-result-clause-within c =
    let f = c.args.self.now in
    let h = here (goal.at.invariant_of-result-clause-within c).After-entry-start in
    let p = passed_start f.headed.bytes.now c.args.device f.sound c.requires in
    let w = passed_within f.headed.bytes.now c.args.device f.sound c.requires in
    omega arith

pub returns-clause-start : goal.returns-clause-start
returns-clause-start c =
    let f = c.args.self.now in
    let h = here (goal.at.returns-clause-start c).After-entry-start in
    let p = passed_start f.headed.bytes.now c.args.device f.sound c.requires in
    omega arith
