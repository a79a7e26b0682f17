use Rattle.std.proofs.Common.{◌≡◌, ◌++◌, map, take}
use Rattle.lx_csr.specs.Defined.{constant_name}
use Rattle.lx_csr.proofs.defining.push_constants.Given as goal

abbrev pub invariant-loop-constant : goal.invariant-loop-constant
invariant-loop-constant l = l.names ≡ l.initial.names ++ map constant_name (take l.constant-index l.constants)
