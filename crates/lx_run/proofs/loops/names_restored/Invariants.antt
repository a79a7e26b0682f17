use Rattle.std.proofs.Common.{◌≡◌, length}
use Rattle.lx_run.specs.Loops.{names_restored}
use Rattle.lx_run.proofs.loops.names_restored.Given as goal

abbrev pub invariant-hidden : goal.invariant-hidden
invariant-hidden l = names_restored l.rest l.machine ≡ names_restored l.initial.rest l.initial.machine

abbrev pub decreases-hidden : goal.decreases-hidden
decreases-hidden l = length l.rest
