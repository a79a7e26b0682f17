use Rattle.std.proofs.Common.{◌≡◌, ◌++◌, drop, map}
use Rattle.lx_describe.specs.Parts.{part_of}
use Rattle.lx_describe.proofs.parts.push_submodules.Given as goal

abbrev pub invariant-loop-submodule : goal.invariant-loop-submodule
invariant-loop-submodule l = l.into ++ map (part_of l.all) (drop l.submodule-index l.submodules) ≡ l.initial.into ++ map (part_of l.all) l.submodules
