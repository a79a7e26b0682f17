use Rattle.std.proofs.Common.{◌≡◌, ◌-◌}
use Rattle.lx_state.specs.Frames.{nearest}
use Rattle.lx_state.proofs.machine.Machine.nearest.Given as goal

abbrev pub invariant-loop-passed : goal.invariant-loop-passed
invariant-loop-passed l = nearest l.self.classes l.name (l.count - l.passed) ≡ nearest l.self.classes l.name l.count
