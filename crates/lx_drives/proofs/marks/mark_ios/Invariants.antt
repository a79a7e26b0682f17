use Rattle.std.proofs.Common.{◌≡◌, take}
use Rattle.lx_drives.specs.Marks.{AreAmong}
use Rattle.lx_drives.proofs.marks.mark_ios.Given as goal

abbrev pub invariant-loop-x : goal.invariant-loop-x
invariant-loop-x l = (l.x-items ≡ l.lowered.ios) × AreAmong l.lowered (take l.x-index l.x-items) l.marks
