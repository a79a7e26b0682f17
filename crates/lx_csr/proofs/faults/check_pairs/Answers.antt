use Rattle.std.proofs.Common.{arith}
use Rattle.std.proofs.lemmas.Result.{err_from_is_err_and}
use Rattle.lx_alloc.proofs.Judging.{pairs_exit_at, pairs_more_at}
use Rattle.lx_csr.specs.Faults.{field_faults}
use Rattle.lx_csr.proofs.faults.check_pairs.Goals as goal

pub returns-in_err-check_field : goal.returns-in_err-check_field
returns-in_err-check_field c =
    let p = err_from_is_err_and c.from_residual.result c.from_residual.ensures.1 in
    rw (p.1, p.2) (pairs_exit_at field_faults c.args.fields.now c.loop-i.i c.index-fields-i.result _ (omega arith) c.index-fields-i.is c.loop-i.invariant c.in_err-check_field.ensures)

pub loop-i-preserved : goal.loop-i-preserved
loop-i-preserved c =
    pairs_more_at field_faults c.args.fields.now c.loop-i.i c.index-fields-i.result (omega arith) c.index-fields-i.is c.loop-i.invariant c.in_ok-check_field.ensures
