use Rattle.std.proofs.Common.{◌≡◌, length}
use Rattle.lx_run.specs.Signs.{all_applied}
use Rattle.lx_run.proofs.signs.all_applied.Given as goal

abbrev pub invariant-pending : goal.invariant-pending
invariant-pending l = all_applied l.rest l.made l.machine ≡ all_applied l.initial.rest l.initial.made l.initial.machine

abbrev pub decreases-pending : goal.decreases-pending
decreases-pending l = length l.rest
