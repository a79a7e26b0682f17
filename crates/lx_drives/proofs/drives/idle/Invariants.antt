use Rattle.lx_drives.specs.Drives.{AreIdle}
use Rattle.lx_drives.proofs.drives.idle.Given as goal

abbrev pub invariant-loop-x : goal.invariant-loop-x
invariant-loop-x l = AreIdle l.design l.x l.drives.items
