use Rattle.std.proofs.Common.{◌≡◌, ◌++◌, drop, length}
use Rattle.lx_describe.specs.Memories.{with_paths}
use Rattle.lx_describe.proofs.memories.with_paths.Given as goal

abbrev pub invariant-loop-place : goal.invariant-loop-place
invariant-loop-place l = (l.named ++ with_paths (drop l.place l.paths_left) (drop l.place l.memories_left) ≡ with_paths l.fn.paths l.fn.memories) × (length l.memories_left ≡ length l.fn.memories)
