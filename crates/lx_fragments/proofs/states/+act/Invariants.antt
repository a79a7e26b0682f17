use Rattle.std.proofs.Common.{◌≡◌, ◌+◌, ◌*◌, ◌++◌, drop}
use Rattle.lx_state.specs.Step.{go_on, give}
use Rattle.lx_fragments.specs.States.{act, act_all, act_arms, act_branches}
use Rattle.lx_fragments.proofs.states.+act.Given as goal

abbrev pub decreases-act : goal.decreases-act
decreases-act l = 6 * l.levels

abbrev pub decreases-act_form : goal.decreases-act_form
decreases-act_form l = 6 * l.levels + 5

abbrev pub decreases-act_if : goal.decreases-act_if
decreases-act_if l = 6 * l.levels + 4

abbrev pub decreases-act_case : goal.decreases-act_case
decreases-act_case l = 6 * l.levels + 4

abbrev pub decreases-act_branches : goal.decreases-act_branches
decreases-act_branches l = 6 * l.levels + 3

abbrev pub decreases-act_arms : goal.decreases-act_arms
decreases-act_arms l = 6 * l.levels + 3

abbrev pub decreases-act_branch : goal.decreases-act_branch
decreases-act_branch l = 6 * l.levels + 2

abbrev pub decreases-act_all : goal.decreases-act_all
decreases-act_all l = 6 * l.levels + 1

abbrev pub invariant-act_branches-loop-at : goal.invariant-act_branches-loop-at
invariant-act_branches-loop-at l = go_on (act_branches l.line (act_all (act l.levels l.line)) (drop l.at-index l.places) l.machine) (λ bs. give (l.branches ++ bs)) ≡ act_branches l.line (act_all (act l.levels l.line)) l.places l.initial.machine

abbrev pub invariant-act_arms-loop-arm : goal.invariant-act_arms-loop-arm
invariant-act_arms-loop-arm l = go_on (act_arms (act_all (act l.levels l.line)) (drop l.arm-index l.arms) l.machine) (λ xs. give (l.laid ++ xs)) ≡ act_arms (act_all (act l.levels l.line)) l.arms l.initial.machine

abbrev pub invariant-act_all-loop-at : goal.invariant-act_all-loop-at
invariant-act_all-loop-at l = go_on (act_all (act l.levels l.line) (drop l.at-index l.places) l.machine) (λ ids. give (l.ids ++ ids)) ≡ act_all (act l.levels l.line) l.places l.initial.machine
