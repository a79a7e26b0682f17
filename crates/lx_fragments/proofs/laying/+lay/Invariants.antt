use Rattle.std.proofs.Common.{◌≡◌, ◌+◌, ◌*◌, ◌++◌, drop}
use Rattle.lx_state.specs.Step.{go_on, give}
use Rattle.lx_fragments.specs.Laying.{lay, lay_all, lay_arms, lay_branches}
use Rattle.lx_fragments.proofs.laying.+lay.Given as goal

abbrev pub decreases-lay : goal.decreases-lay
decreases-lay l = 6 * l.levels

abbrev pub decreases-lay_form : goal.decreases-lay_form
decreases-lay_form l = 6 * l.levels + 5

abbrev pub decreases-lay_if : goal.decreases-lay_if
decreases-lay_if l = 6 * l.levels + 4

abbrev pub decreases-lay_case : goal.decreases-lay_case
decreases-lay_case l = 6 * l.levels + 4

abbrev pub decreases-lay_branches : goal.decreases-lay_branches
decreases-lay_branches l = 6 * l.levels + 3

abbrev pub decreases-lay_arms : goal.decreases-lay_arms
decreases-lay_arms l = 6 * l.levels + 3

abbrev pub decreases-lay_branch : goal.decreases-lay_branch
decreases-lay_branch l = 6 * l.levels + 2

abbrev pub decreases-lay_all : goal.decreases-lay_all
decreases-lay_all l = 6 * l.levels + 1

abbrev pub invariant-lay_branches-loop-at : goal.invariant-lay_branches-loop-at
invariant-lay_branches-loop-at l = go_on (lay_branches l.line (lay_all (lay l.levels l.line)) (drop l.at-index l.places) l.machine) (λ bs. give (l.branches ++ bs)) ≡ lay_branches l.line (lay_all (lay l.levels l.line)) l.places l.initial.machine

abbrev pub invariant-lay_arms-loop-arm : goal.invariant-lay_arms-loop-arm
invariant-lay_arms-loop-arm l = go_on (lay_arms (lay_all (lay l.levels l.line)) (drop l.arm-index l.arms) l.machine) (λ xs. give (l.laid ++ xs)) ≡ lay_arms (lay_all (lay l.levels l.line)) l.arms l.initial.machine

abbrev pub invariant-lay_all-loop-at : goal.invariant-lay_all-loop-at
invariant-lay_all-loop-at l = go_on (lay_all (lay l.levels l.line) (drop l.at-index l.places) l.machine) (λ ids. give (l.ids ++ ids)) ≡ lay_all (lay l.levels l.line) l.places l.initial.machine
