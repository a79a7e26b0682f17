use Rattle.std.proofs.Common.{◌≡◌}
use Rattle.lx_paths.proofs.Each.{first_paths}
use Rattle.lx_paths.proofs.paths.signal_paths.Given as goal

abbrev pub invariant-loop-signal : goal.invariant-loop-signal
invariant-loop-signal l = l.paths ≡ first_paths l.machine l.signal
