-- The tests that are left give what all give.
use Rattle.std.proofs.Common.{◌≡◌, ◌-◌}
use Rattle.std.specs.List.{range_with_len, flat_map}
use Rattle.grantfile.specs.Format.{devices_of}
use Rattle.grantfile.specs.Tests.{first, body_tests, bodies_tests}
use Rattle.grantfile.proofs.file.GrantFile.check.Given as goal

abbrev pub invariant-loop-device : goal.invariant-loop-device
invariant-loop-device g l =
    let k = g.W.Weight.meaning in
    let file = l.self.headed.bytes.now in
    first (bodies_tests k file) ≡ first (flat_map (body_tests k file) (range_with_len l.device (devices_of file - l.device)))
