use Rattle.std.proofs.Common.{◌≡◌, ◌++◌, drop}
use Rattle.std.specs.Prelude.{flat_map}
use Rattle.lx_describe.specs.Submodules.{unnamed_at}
use Rattle.lx_describe.proofs.submodules.unnamed_below.Given as goal

abbrev pub invariant-loop-submodule : goal.invariant-loop-submodule
invariant-loop-submodule l = l.list ++ flat_map (unnamed_at l.machine l.bound) (drop l.submodule-index l.module.submodules) ≡ flat_map (unnamed_at l.machine l.bound) l.module.submodules
