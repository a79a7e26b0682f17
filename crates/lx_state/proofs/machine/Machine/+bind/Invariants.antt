use Rattle.std.proofs.Common.{◌≡◌, ◌+◌, ◌*◌, ℕ, drop}
use Rattle.lx_state.specs.Naming.{bind_items, bind_within}
use Rattle.lx_state.proofs.machine.Machine.+bind.Given as goal

abbrev pub decreases-bind_within : goal.decreases-bind_within
decreases-bind_within l = 4 * l.levels

abbrev pub decreases-bind_list : goal.decreases-bind_list
decreases-bind_list l = 4 * l.levels + 3

abbrev pub decreases-bind_items : goal.decreases-bind_items
decreases-bind_items l = 4 * l.levels + 2

abbrev pub decreases-bind_item : goal.decreases-bind_item
decreases-bind_item l = 4 * l.levels + 1

abbrev pub invariant-bind_items-loop-place : goal.invariant-bind_items-loop-place
invariant-bind_items-loop-place l = bind_items (bind_within l.levels l.binding) l.name l.place (drop l.place l.values) l.self ≡ bind_items (bind_within l.levels l.binding) l.name 0 l.values l.initial.self
