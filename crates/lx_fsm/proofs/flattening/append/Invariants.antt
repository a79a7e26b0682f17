use Rattle.std.proofs.Common.{◌≡◌, ◌++◌, take}
use Rattle.lx_fsm.proofs.flattening.append.Given as goal

abbrev pub invariant-loop-id : goal.invariant-loop-id
invariant-loop-id l = l.into ≡ l.initial.into ++ take l.id-index l.ids
