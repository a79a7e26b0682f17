use Rattle.std.proofs.Common.{refl}
use Rattle.std.proofs.lemmas.Result.{on_ok_weaker}
use Rattle.lx_fsm.proofs.Lowered.{next_here, next_none}
use Rattle.lx_fsm.proofs.states.put_next.Goals as goal

pub numeral-value-requires : goal.numeral-value-requires
numeral-value-requires c = record { some = c.requires.ready.some; long = c.requires.ready.numerals.long }

pub put_assign-requires : goal.put_assign-requires
put_assign-requires c = record {
  target = rw c.state-state.ensures c.requires.ready.state.there;
  value = (c.requires.ready.numerals.each _ _ c.numeral-value.ensures).there;
  out = c.requires.out;
}

pub returns-in-Comb : goal.returns-in-Comb
returns-in-Comb c = next_none c.args.source.now c.args.out.now c.args.part _ _ c.in-Comb.is c.requires.out

pub returns-in-Sync : goal.returns-in-Sync
returns-in-Sync c =
    on_ok_weaker c.put_assign.result (λ p. next_here c.args.part _ _ _ _ c.in-Sync.is c.requires.ready refl (rw c.as_bytes.ensures at c.numeral-value.ensures) p) (rw c.state-state.ensures at c.put_assign.ensures)
