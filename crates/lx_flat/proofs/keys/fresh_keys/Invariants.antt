use Rattle.lx_flat.specs.Keys.{AreFresh}
use Rattle.lx_flat.proofs.Arms.{HasSeen}
use Rattle.lx_flat.proofs.keys.fresh_keys.Given as goal

abbrev pub invariant-loop-arm : goal.invariant-loop-arm
invariant-loop-arm l = AreFresh l.shape l.arms l.arm-index l.fresh × HasSeen l.arms l.arm-index l.seen
