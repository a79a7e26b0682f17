use Rattle.std.proofs.Common.{◌≡◌, ◌+◌, ◌*◌, ◌++◌, drop}
use Rattle.lx_describe.specs.Order.{all_ordered, ordered}
use Rattle.lx_describe.proofs.order.+push_ordered.Given as goal

abbrev pub decreases-push_ordered : goal.decreases-push_ordered
decreases-push_ordered l = 2 * l.levels

abbrev pub decreases-push_all_ordered : goal.decreases-push_all_ordered
decreases-push_all_ordered l = 2 * l.levels + 1

abbrev pub invariant-push_all_ordered-loop-next : goal.invariant-push_all_ordered-loop-next
invariant-push_all_ordered-loop-next l = l.into ++ all_ordered (ordered l.machine l.levels) (drop l.next-index l.modules) ≡ l.initial.into ++ all_ordered (ordered l.machine l.levels) l.modules
