use Rattle.std.proofs.Common.{◌≡◌, ◌+◌, length}
use Rattle.lx_fsm.specs.Laid.{AreNone}
use Rattle.lx_fsm.proofs.flattening.empty_lists.Given as goal

abbrev pub invariant-loop-number : goal.invariant-loop-number
invariant-loop-number l = record { long : length l.lists ≡ l.number + 1; none : AreNone l.lists }
