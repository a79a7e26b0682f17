use Rattle.std.proofs.Common.{reverse}
use Rattle.lx_pytree.specs.Machine.{IsReading, left}
use Rattle.lx_pytree.proofs.reading.run.Given as goal

abbrev pub invariant-steps : goal.invariant-steps
invariant-steps l = IsReading l.items l.machine

abbrev pub decreases-steps : goal.decreases-steps
decreases-steps l = left l.items l.machine (reverse l.machine.pending.items)
