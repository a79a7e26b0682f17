use Rattle.std.proofs.Common.{◌≡◌, ◌++◌, drop}
use Rattle.lx_fsm.specs.Laid.{woven_ids}
use Rattle.lx_fsm.proofs.flattening.woven.Given as goal

abbrev pub invariant-loop-number : goal.invariant-loop-number
invariant-loop-number l = l.list ++ woven_ids (drop l.number l.lists) (drop l.number l.ids) ≡ woven_ids l.lists l.ids
