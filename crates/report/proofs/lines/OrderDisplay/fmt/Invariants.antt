use Rattle.std.proofs.Common.{◌∷◌, ◌++◌, take, codes, decimal}
use Rattle.std.specs.Fmt.{HasWritten, IsPlainFormatter}
use Rattle.std.specs.List.{flat_map}
use Rattle.report.specs.Lines.{space}
use Rattle.report.proofs.lines.OrderDisplay.fmt.Given as goal

abbrev pub invariant-loop-device : goal.invariant-loop-device
invariant-loop-device g l =
    IsPlainFormatter l.fn.f
    → HasWritten g.W.Write.write_str_gives l.fn.f (codes "order" ++ flat_map (λ d. space ∷ decimal d) (take l.device-index l.fn.self.devices.items)) l.f
