use Rattle.std.proofs.Common.{◌≡◌, length, map, take}
use Rattle.lx_fhdl.specs.Designs.{signal_number}
use Rattle.lx_namer.specs.Marks.{AreMarked}
use Rattle.lx_namer.proofs.marks.mark_ports.Given as goal

abbrev pub invariant-loop-x : goal.invariant-loop-x
invariant-loop-x l = (l.x-items ≡ l.design.ios) × AreMarked (length l.design.signals) (map signal_number (take l.x-index l.x-items)) l.marks
