-- The tests that are left give what all give.
use Rattle.std.proofs.Common.{◌≡◌, ◌-◌}
use Rattle.std.specs.List.{range_with_len, flat_map}
use Rattle.grantfile.specs.Inner.{grants_tests}
use Rattle.grantfile.specs.Tests.{first, grant_tests}
use Rattle.grantfile.proofs.bodies.Grants.check.Given as goal

abbrev pub invariant-loop-j : goal.invariant-loop-j
invariant-loop-j g l =
    let k = g.W.Weight.meaning in
    let body = l.self in
    first (grants_tests k body) ≡ first (flat_map (grant_tests k body.file.now body.start) (range_with_len l.j (body.count - l.j)))
