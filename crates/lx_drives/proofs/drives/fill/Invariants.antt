use Rattle.std.proofs.Common.{take}
use Rattle.lx_drives.specs.Drives.{AreFilled}
use Rattle.lx_drives.proofs.drives.fill.Given as goal

abbrev pub invariant-loop-id : goal.invariant-loop-id
invariant-loop-id l = AreFilled l.lowered l.clock (take l.id-index l.ids) l.initial.drives l.drives
