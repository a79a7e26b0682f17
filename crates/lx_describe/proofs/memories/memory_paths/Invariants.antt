use Rattle.std.proofs.Common.{◌≡◌, ◌++◌, drop, map, None}
use Rattle.lx_paths.specs.Paths.{path_of}
use Rattle.lx_describe.specs.Memories.{memory_paths}
use Rattle.lx_describe.proofs.memories.memory_paths.Given as goal

abbrev pub invariant-loop-object : goal.invariant-loop-object
invariant-loop-object l = l.paths ++ map (λ object. path_of l.machine object None) (drop l.object-index l.machine.memory_objects) ≡ memory_paths l.machine
