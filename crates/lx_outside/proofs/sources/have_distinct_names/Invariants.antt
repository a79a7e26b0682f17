use Rattle.std.proofs.Common.{◌≡◌, drop}
use Rattle.lx_outside.specs.Calls.{are_distinct}
use Rattle.lx_outside.proofs.sources.have_distinct_names.Given as goal

abbrev pub invariant-loop-place : goal.invariant-loop-place
invariant-loop-place l = are_distinct (drop l.place l.files) ≡ are_distinct l.files
