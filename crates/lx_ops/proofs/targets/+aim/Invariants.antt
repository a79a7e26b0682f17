use Rattle.std.proofs.Common.{◌≡◌, ◌+◌, ◌*◌, drop}
use Rattle.lx_ops.specs.Targets.{aim_within, aims_after}
use Rattle.lx_ops.proofs.targets.+aim.Given as goal

abbrev pub decreases-aim_within : goal.decreases-aim_within
decreases-aim_within l = 6 * l.levels

abbrev pub decreases-aim_there : goal.decreases-aim_there
decreases-aim_there l = 6 * l.levels + 5

abbrev pub decreases-aim_reached : goal.decreases-aim_reached
decreases-aim_reached l = 6 * l.levels + 4

abbrev pub decreases-aims_of : goal.decreases-aims_of
decreases-aims_of l = 6 * l.levels + 3

abbrev pub decreases-aims_after : goal.decreases-aims_after
decreases-aims_after l = 6 * l.levels + 2

abbrev pub decreases-aim_after : goal.decreases-aim_after
decreases-aim_after l = 6 * l.levels + 1

abbrev pub invariant-aims_after-loop-id : goal.invariant-aims_after-loop-id
invariant-aims_after-loop-id l = aims_after l.line (aim_within l.levels l.line) l.aims (drop l.id-index l.ids) l.machine ≡ aims_after l.line (aim_within l.levels l.line) l.fn.start l.ids l.initial.machine
