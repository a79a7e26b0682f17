use Rattle.std.proofs.Common.{◌≡◌, ◌++◌, drop, flat_map}
use Rattle.lx_description.specs.Keeping.{submodules}
use Rattle.lx_parts_kept.proofs.modules.submodules.Given as goal

abbrev pub invariant-loop-module : goal.invariant-loop-module
invariant-loop-module l = l.all ++ flat_map submodules (drop l.module-index l.modules) ≡ flat_map submodules l.modules
