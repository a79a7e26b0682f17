use Rattle.std.proofs.Common.{◌≡◌, ◌++◌, length, map, take}
use Rattle.lx_fhdl.specs.Designs.{signal_number}
use Rattle.lx_namer.specs.Marks.{AreMarked, resets_of}
use Rattle.lx_namer.proofs.marks.mark_resets.Given as goal

abbrev pub invariant-loop-domain : goal.invariant-loop-domain
invariant-loop-domain l = (l.domain-items ≡ l.design.domains) × AreMarked (length l.design.signals) (map signal_number l.design.ios ++ resets_of (take l.domain-index l.domain-items)) l.marks
