use Rattle.std.proofs.Common.{◌≡◌, map, take}
use Rattle.lx_csr.specs.Defined.{fix_name}
use Rattle.lx_csr.proofs.defining.wish_names.Given as goal

abbrev pub invariant-loop-fix : goal.invariant-loop-fix
invariant-loop-fix l = l.names ≡ map fix_name (take l.fix-index l.fixes)
