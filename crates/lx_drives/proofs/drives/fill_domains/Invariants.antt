use Rattle.lx_drives.specs.Drives.{AreClocked}
use Rattle.lx_drives.proofs.drives.fill_domains.Given as goal

abbrev pub invariant-loop-k : goal.invariant-loop-k
invariant-loop-k l = AreClocked l.lowered l.k l.drives
