use Rattle.std.proofs.Common.{◌≡◌, ◌++◌, drop}
use Rattle.lx_state.specs.Step.{go_on, give}
use Rattle.lx_fragments.specs.States.{states_of}
use Rattle.lx_fragments.proofs.states.states_of.Given as goal

abbrev pub invariant-loop-body : goal.invariant-loop-body
invariant-loop-body l = go_on (states_of (drop l.body-index l.bodies) l.machine) (λ xs. give (l.states ++ xs)) ≡ states_of l.bodies l.initial.machine
