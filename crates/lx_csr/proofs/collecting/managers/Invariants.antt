use Rattle.std.proofs.Common.{◌≡◌, take}
use Rattle.std.specs.Prelude.{flat_map}
use Rattle.lx_csr.specs.Collected.{part_manager}
use Rattle.lx_csr.proofs.collecting.managers.Given as goal

abbrev pub invariant-loop-part : goal.invariant-loop-part
invariant-loop-part l = l.names ≡ flat_map (part_manager l.d.modules) (take l.part-index l.part-items)
