use Rattle.std.proofs.Common.{[], None, take}
use Rattle.lx_fhdl.specs.Designs.{shapes, term}
use Rattle.lx_flat.specs.Keys.{NonePut, none_after}
use Rattle.lx_flat.proofs.keys.push_no_keys.Given as goal

abbrev pub invariant-loop-number : goal.invariant-loop-number
invariant-loop-number l = NonePut l.initial.draft l.draft l.none (none_after (shapes l.initial.draft) (term l.initial.draft l.keyed.on.id.place) [] None (take l.number l.keyed.arms.now))
