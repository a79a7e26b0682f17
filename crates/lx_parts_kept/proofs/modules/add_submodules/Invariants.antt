use Rattle.std.proofs.Common.{◌≡◌, ◌++◌, drop, flat_map}
use Rattle.lx_description.specs.Keeping.{submodule}
use Rattle.lx_parts_kept.proofs.modules.add_submodules.Given as goal

abbrev pub invariant-loop-part : goal.invariant-loop-part
invariant-loop-part l = l.all ++ flat_map submodule (drop l.part-index l.parts) ≡ l.initial.all ++ flat_map submodule l.parts
