use Rattle.std.proofs.Common.{◌≡◌, [], take}
use Rattle.lx_fhdl.specs.declared.design.Design.{Design}
use Rattle.lx_fsm.specs.Lowers.{unknown_in_states}
use Rattle.lx_fsm.proofs.checks.check_states.Given as goal

abbrev pub invariant-loop-state : goal.invariant-loop-state
invariant-loop-state l = (d : Design) → unknown_in_states d l.fsm l.stmts (take l.state-index l.states) ≡ []
