use Rattle.std.proofs.Common.{◌+◌, ◌*◌}
use Rattle.lx_objects.proofs.modules.+rise.Given as goal

abbrev pub decreases-rise : goal.decreases-rise
decreases-rise l = 2 * l.left

abbrev pub decreases-rise_on : goal.decreases-rise_on
decreases-rise_on l = 2 * l.left + 1
