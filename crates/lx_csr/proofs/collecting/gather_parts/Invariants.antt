use Rattle.std.proofs.Common.{◌≡◌, take}
use Rattle.std.specs.Prelude.{flat_map}
use Rattle.lx_csr.specs.Collected.{part_peripheral}
use Rattle.lx_csr.specs.Gathered.{gathered_of}
use Rattle.lx_csr.proofs.collecting.gather_parts.Given as goal

abbrev pub invariant-loop-part : goal.invariant-loop-part
invariant-loop-part l = l.gathered ≡ gathered_of (flat_map (part_peripheral l.modules) (take l.part-index l.parts))
