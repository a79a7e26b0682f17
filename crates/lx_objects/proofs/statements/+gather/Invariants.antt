use Rattle.std.proofs.Common.{◌≡◌, ◌+◌, ◌*◌, drop}
use Rattle.lx_objects.specs.Statements.{all_hanging, behind, hanging}
use Rattle.lx_objects.proofs.statements.+gather.Given as goal

abbrev pub decreases-gather : goal.decreases-gather
decreases-gather l = 4 * l.levels + 1

abbrev pub decreases-gather_items : goal.decreases-gather_items
decreases-gather_items l = 4 * l.levels + 3

abbrev pub decreases-gather_all : goal.decreases-gather_all
decreases-gather_all l = 4 * l.levels + 2

abbrev pub decreases-gather_list : goal.decreases-gather_list
decreases-gather_list l = 4 * l.levels

abbrev pub invariant-gather_all-loop-value : goal.invariant-gather_all-loop-value
invariant-gather_all-loop-value l = behind l.into (all_hanging (hanging l.line l.what l.lists l.levels) (drop l.value-index l.values)) ≡ behind l.initial.into (all_hanging (hanging l.line l.what l.lists l.levels) l.values)
