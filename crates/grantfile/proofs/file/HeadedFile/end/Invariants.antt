-- The end so far, which is small, and that the tests that are left give what all give.
use Rattle.std.proofs.Common.{◌≡◌, ◌+◌, ◌-◌, ◌*◌, ◌≤◌, [], ◌∷◌}
use Rattle.std.specs.List.{range_with_len, flat_map}
use Rattle.grantfile.specs.Format.{devices_of, body_at}
use Rattle.grantfile.specs.Tests.{first, entry_test, entries_tests}
use Rattle.grantfile.proofs.file.HeadedFile.end.Given as goal

abbrev pub invariant-loop-device : goal.invariant-loop-device
invariant-loop-device l =
    let file = l.self.bytes.now in
    record {
      place : l.end ≡ body_at file l.device;
      small : l.end ≤ 196 + 1530 * l.device;
      left : first (entries_tests file) ≡ first (flat_map (λ d. entry_test file d ∷ []) (range_with_len l.device (devices_of file - l.device)));
    }
