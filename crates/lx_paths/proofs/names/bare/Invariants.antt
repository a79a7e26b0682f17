use Rattle.std.proofs.Common.{◌≡◌, drop}
use Rattle.lx_paths.specs.Paths.{bare}
use Rattle.lx_paths.proofs.names.bare.Given as goal

abbrev pub invariant-loop-place : goal.invariant-loop-place
invariant-loop-place l = bare (drop l.place l.name) ≡ bare l.name
