use Rattle.std.proofs.Common.{◌<◌, length, arith}
use Rattle.lx_description.specs.declared.fsms.Asked.{Asked}
use Rattle.lx_fsm.proofs.Puts.{some_start}
use Rattle.lx_fsm.proofs.Ready.{each_at}
use Rattle.lx_fsm.proofs.Whole.{conds_stay, ongoing_done, ongoing_next, signals_kept}
use Rattle.lx_fsm.proofs.lowering.put_all_ongoing.Goals as goal

pub loop-asked-init : goal.loop-asked-init
loop-asked-init c = some_start c.args.draft.now c.args.out.now _ _ c.requires.out

pub put_ongoing-requires : goal.put_ongoing-requires
put_ongoing-requires c =
    let g = c.loop-asked.invariant.grows in
    let l : c.loop-asked.asked-index < length c.as_slice-all.result.now = omega arith in
    let signals = signals_kept c.args.fsm.now.asked g c.requires.asked in
    record {
      out = c.loop-asked.invariant.there;
      some = c.requires.some;
      conds = conds_stay c.args.fsm.now _ g c.requires.conds;
      asked = rw c.asked-item.is (each_at (λ (a : Asked). a.signal.0 < length c.loop-asked.draft.signals) c.as_slice-all.result.now c.loop-asked.asked-index c.asked-item.result (rw (← c.as_slice-all.ensures) at signals) l);
    }

pub loop-asked-preserved : goal.loop-asked-preserved
loop-asked-preserved c =
    ongoing_next c.args.fsm.now c.as_slice-all.result.now c.loop-asked.asked-index c.asked-item.result (omega arith) c.asked-item.is c.loop-asked.invariant c.in_ok-put_ongoing.ensures

pub returns : goal.returns
returns c = ongoing_done c.args.fsm.now c.as_slice-all.result.now c.args.fsm.now.asked c.loop-asked.asked-index c.as_slice-all.ensures (omega arith) c.loop-asked.invariant
