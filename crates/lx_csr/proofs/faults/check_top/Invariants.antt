use Rattle.std.proofs.Common.{◌≡◌, [], take}
use Rattle.std.specs.Prelude.{flat_map}
use Rattle.lx_csr.specs.Faults.{top_faults}
use Rattle.lx_csr.proofs.faults.check_top.Given as goal

abbrev pub invariant-loop-part : goal.invariant-loop-part
invariant-loop-part l = flat_map top_faults (take l.part-index l.parts) ≡ []
