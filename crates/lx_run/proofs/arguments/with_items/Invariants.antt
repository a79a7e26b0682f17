use Rattle.std.proofs.Common.{◌≡◌, take}
use Rattle.lx_run.specs.Calls.{with_placed}
use Rattle.lx_run.proofs.arguments.with_items.Given as goal

abbrev pub invariant-loop-value : goal.invariant-loop-value
invariant-loop-value l = l.args ≡ with_placed (take l.value-index l.values) l.fn.so_far
