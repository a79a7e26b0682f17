use Rattle.lx_drives.specs.Drives.{AreClosedTo}
use Rattle.lx_drives.proofs.drives.close.Given as goal

abbrev pub invariant-loop-x : goal.invariant-loop-x
invariant-loop-x l = AreClosedTo l.lowered l.x l.initial.drives l.drives
