use Rattle.std.proofs.Common.{refl, arith}
use Rattle.std.proofs.lemmas.Result.{err_from_is_err_and}
use Rattle.lx_alloc.proofs.Judging.{flat_more_at}
use Rattle.lx_description.specs.declared.fsms.StateDecl.{StateDecl}
use Rattle.lx_fsm.specs.Lowers.{unknown_in_acts}
use Rattle.lx_fsm.proofs.Naming.{states_end, states_exit}
use Rattle.lx_fsm.proofs.Ready.{body_of_state}
use Rattle.lx_fsm.proofs.checks.check_states.Goals as goal

pub loop-state-init : goal.loop-state-init
loop-state-init c = λ d. refl

pub check_acts-requires : goal.check_acts-requires
check_acts-requires c = record {
  within = omega (arith, c.len-bound.ensures);
  below = rw (c.len-bound.ensures, c.as_slice-body.ensures, c.state-item.is) (body_of_state _ _ c.loop-state.state-index c.state-item.result (rw (← c.as_slice-states.ensures) at c.requires) (omega arith));
}

pub loop-state-preserved : goal.loop-state-preserved
loop-state-preserved c = λ d.
    flat_more_at (λ (s : StateDecl). unknown_in_acts d c.args.fsm.now c.args.stmts.now s.body) c.as_slice-states.result.now c.loop-state.state-index c.state-item.result (omega arith) c.state-item.is (c.loop-state.invariant d)
    (rw c.as_slice-body.ensures at (c.in_ok-check_acts.ensures d))

pub returns : goal.returns
returns c = λ d. states_end d c.args.fsm.now c.args.stmts.now c.as_slice-states.result.now c.args.fsm.now.states c.loop-state.state-index c.as_slice-states.ensures (omega arith) (c.loop-state.invariant d)

pub returns-in_err-check_acts : goal.returns-in_err-check_acts
returns-in_err-check_acts c = λ d.
    let p = err_from_is_err_and c.from_residual.result c.from_residual.ensures.1 in
    rw (p.1, p.2)
    (states_exit d c.args.fsm.now c.args.stmts.now c.as_slice-states.result.now c.args.fsm.now.states c.loop-state.state-index c.state-item.result _ c.as_slice-states.ensures (omega arith) c.state-item.is (c.loop-state.invariant d)
    (rw c.as_slice-body.ensures at (c.in_err-check_acts.ensures d)))
