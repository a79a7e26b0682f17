use Rattle.std.proofs.Common.{◌≡◌, drop, length}
use Rattle.lx_kept.specs.Drivers.{some_part_marked}
use Rattle.lx_kept.specs.Given.{AllPartsBelow}
use Rattle.lx_kept.proofs.drivers.some_part_marked.Given as goal

abbrev pub invariant-loop-part : goal.invariant-loop-part
invariant-loop-part l = record { rest : some_part_marked l.marks (drop l.part-index l.parts) ≡ some_part_marked l.marks l.parts; lower : AllPartsBelow (length l.marks) (drop l.part-index l.parts) }
