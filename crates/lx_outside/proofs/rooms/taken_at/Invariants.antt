use Rattle.std.proofs.Common.{◌≡◌, drop}
use Rattle.lx_outside.specs.Memory.{taken_by}
use Rattle.lx_outside.proofs.rooms.taken_at.Given as goal

abbrev pub invariant-loop-fail : goal.invariant-loop-fail
invariant-loop-fail l = taken_by (drop l.fail-index l.fails) l.call ≡ taken_by l.fails l.call
