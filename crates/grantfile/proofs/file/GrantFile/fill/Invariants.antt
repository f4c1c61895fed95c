-- The devices so far have their rows, and the rows after theirs are as they were.
use Rattle.std.proofs.Common.{◌≡◌, ◌*◌, drop}
use Rattle.grantfile.proofs.Devices.{FilledTo}
use Rattle.grantfile.proofs.file.GrantFile.fill.Given as goal

abbrev pub invariant-loop-device : goal.invariant-loop-device
invariant-loop-device g l =
    (drop (l.device * l.points) l.rows ≡ drop (l.device * l.points) l.initial.rows) × FilledTo g.W.Weight.meaning l.device l.self.headed.bytes.now l.rows
