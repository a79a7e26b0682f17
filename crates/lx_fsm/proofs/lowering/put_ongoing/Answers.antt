use Rattle.std.proofs.Common.{ap, length, arith}
use Rattle.std.proofs.lemmas.Result.{on_ok_weaker}
use Rattle.lx_fsm.proofs.Grown.{there_kept}
use Rattle.lx_fsm.proofs.Whole.{ongoing_put}
use Rattle.lx_fsm.proofs.lowering.put_ongoing.Goals as goal

pub id_at-cond-requires : goal.id_at-cond-requires
id_at-cond-requires c = omega (arith, c.requires.conds.long, ap length c.as_slice-states.ensures, c.number_among-number.ensures.below, c.requires.some)

pub put_assign-requires : goal.put_assign-requires
put_assign-requires c =
    let h = c.requires.conds.each _ _ c.id_at-cond.ensures in
    record {
      target = c.in_ok-target.ensures.has.there;
      value = omega (arith, h.there, c.in_ok-target.ensures.grows.stays.exprs);
      out = there_kept c.args.out.now c.in_ok-target.ensures.grows c.requires.out;
    }

pub returns : goal.returns
returns c =
    let h = rw (c.number_among-number.ensures.is, c.as_slice-states.ensures, c.as_bytes.ensures) at (c.requires.conds.each _ _ c.id_at-cond.ensures) in
    on_ok_weaker c.put_assign.result (λ p. ongoing_put c.args.fsm.now c.args.asked.now _ _ c.requires.out c.in_ok-target.ensures h p) c.put_assign.ensures
