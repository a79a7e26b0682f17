use Rattle.std.proofs.Common.{◌≡◌, drop}
use Rattle.std.specs.List.{list_all}
use Rattle.lx_description.specs.Below.{all_fsm_below}
use Rattle.lx_description.specs.declared.fsms.StateDecl.{StateDecl}
use Rattle.lx_elab.proofs.fsms.states_there.Given as goal

abbrev pub invariant-loop-state : goal.invariant-loop-state
invariant-loop-state l = list_all (λ (s : StateDecl). all_fsm_below l.count s.body) (drop l.state-index l.states) ≡ list_all (λ (s : StateDecl). all_fsm_below l.count s.body) l.states
