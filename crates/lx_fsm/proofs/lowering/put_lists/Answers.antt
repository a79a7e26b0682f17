use Rattle.std.proofs.Common.{refl, ap, length, arith}
use Rattle.lx_fsm.proofs.Grown.{grows_then}
use Rattle.lx_fsm.proofs.Ready.{ready_kept}
use Rattle.lx_fsm.proofs.Whole.{conds_kept, is_ready, listed, signals_kept, signals_there}
use Rattle.lx_fsm.proofs.lowering.put_lists.Goals as goal

pub push_numbers-requires : goal.push_numbers-requires
push_numbers-requires c = (c.requires.can.state c.requires.some).there

pub push_whole-requires : goal.push_whole-requires
push_whole-requires c = omega (arith, (c.requires.can.state c.requires.some).there, ap length c.in_ok-numbers.ensures.grows.signals)

pub put_states-requires : goal.put_states-requires
put_states-requires c = record {
  ready = rw c.new-source.ensures (is_ready _ c.in_ok-numbers.numbers c.requires.can c.requires.some c.lower.ensures c.in_ok-numbers.ensures c.as_slice-numerals.ensures c.in_ok-state.ensures);
  out = rw c.new-comb.ensures refl;
  conds = rw (c.new-source.ensures, c.as_slice-conds.ensures) (conds_kept c.args.fsm.now _ c.in_ok-numbers.numbers c.in_ok-numbers.ensures c.in_ok-state.ensures.grows);
  bodies = rw c.new-source.ensures c.requires.can.bodies;
}

pub put_all_ongoing-requires : goal.put_all_ongoing-requires
put_all_ongoing-requires c =
    let first = rw (c.new-source.ensures, c.new-comb.ensures) at c.in_ok-put_states.ensures in
    let g = grows_then (grows_then c.in_ok-numbers.ensures.grows c.in_ok-state.ensures.grows) first.grows in
    record {
      out = first.there;
      some = c.requires.some;
      conds = rw c.as_slice-conds.ensures (conds_kept c.args.fsm.now _ c.in_ok-numbers.numbers c.in_ok-numbers.ensures (grows_then c.in_ok-state.ensures.grows first.grows));
      asked = signals_kept c.args.fsm.now.asked g (signals_there _ c.args.fsm.now.asked c.requires.can.asked);
    }

pub put_states-requires-2 : goal.put_states-requires-2
put_states-requires-2 c =
    let first = rw (c.new-source.ensures, c.new-comb.ensures) at c.in_ok-put_states.ensures in
    let more = grows_then first.grows c.in_ok-put_all_ongoing.ensures.grows in
    record {
      ready = rw c.new-source.ensures (ready_kept more (is_ready _ c.in_ok-numbers.numbers c.requires.can c.requires.some c.lower.ensures c.in_ok-numbers.ensures c.as_slice-numerals.ensures c.in_ok-state.ensures));
      out = rw c.new-sync.ensures refl;
      conds = rw (c.new-source.ensures, c.as_slice-conds.ensures) (conds_kept c.args.fsm.now _ c.in_ok-numbers.numbers c.in_ok-numbers.ensures (grows_then c.in_ok-state.ensures.grows more));
      bodies = rw c.new-source.ensures c.requires.can.bodies;
    }

pub returns : goal.returns
returns c =
    listed c.args.stmts.now c.args.fsm.now c.requires.can c.lower.ensures (grows_then c.in_ok-numbers.ensures.grows c.in_ok-state.ensures.grows)
    (rw (c.new-source.ensures, c.new-comb.ensures) at c.in_ok-put_states.ensures)
    c.in_ok-put_all_ongoing.ensures
    (rw (c.new-source.ensures, c.new-sync.ensures) at c.in_ok-put_states-2.ensures)
    c.start_of-start.ensures
