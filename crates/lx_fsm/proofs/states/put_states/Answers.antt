use Rattle.std.proofs.Common.{length, ap, arith}
use Rattle.lx_fsm.proofs.Lowered.{states_end, states_next, whole_states}
use Rattle.lx_fsm.proofs.Puts.{some_start}
use Rattle.lx_fsm.proofs.Ready.{body_of_state, ready_kept}
use Rattle.lx_fsm.proofs.states.put_states.Goals as goal

pub loop-number-init : goal.loop-number-init
loop-number-init c = some_start c.args.draft.now c.args.out.now _ _ c.requires.out

pub id_at-cond-requires : goal.id_at-cond-requires
id_at-cond-requires c = omega (arith, c.requires.conds.long, ap length c.states-states.ensures)

pub put_state-requires : goal.put_state-requires
put_state-requires c =
    let h = c.requires.conds.each _ _ c.id_at-cond.ensures in
    record {
      ready = ready_kept c.loop-number.invariant.grows c.requires.ready;
      out = c.loop-number.invariant.there;
      cond = omega (arith, h.there, c.loop-number.invariant.grows.stays.exprs);
      below = rw c.index-states-number.is (body_of_state _ _ c.loop-number.number c.index-states-number.result (rw (← c.states-states.ensures) at c.requires.bodies) (omega arith));
    }

pub loop-number-preserved : goal.loop-number-preserved
loop-number-preserved c =
    states_next c.args.part c.states-states.result.now c.loop-number.number c.index-states-number.result _ (omega arith) c.index-states-number.is c.requires.ready (c.requires.conds.each _ _ c.id_at-cond.ensures) c.loop-number.invariant c.in_ok-put_state.ensures

pub returns : goal.returns
returns c = whole_states c.args.source.now c.args.part c.states-states.ensures (states_end c.args.source.now c.args.part c.states-states.result.now c.loop-number.number (omega arith) c.loop-number.invariant)
