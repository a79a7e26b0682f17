use Rattle.std.proofs.Common.{◌≡◌, None}
use Rattle.lx_check.specs.Faults.{first_of, two_drivers}
use Rattle.lx_check.proofs.faults.first_drivers.Given as goal

abbrev pub invariant-loop-x : goal.invariant-loop-x
invariant-loop-x l = first_of (two_drivers l.design) l.x ≡ None
