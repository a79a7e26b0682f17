use Rattle.std.proofs.Common.{arith}
use Rattle.std.proofs.lemmas.Result.{err_from_is_err_and}
use Rattle.lx_alloc.proofs.Judging.{flat_exit_at}
use Rattle.lx_csr.specs.Faults.{field_faults}
use Rattle.lx_csr.proofs.faults.check_field.Goals as goal

pub returns-in_err-check_pair : goal.returns-in_err-check_pair
returns-in_err-check_pair c =
    let p = err_from_is_err_and c.from_residual.result c.from_residual.ensures.1 in
    rw (p.1, p.2) (flat_exit_at (field_faults c.args.later.now) c.args.before.now c.loop-earlier.earlier-index c.earlier-item.result _ (omega arith) c.earlier-item.is c.loop-earlier.invariant c.in_err-check_pair.ensures)
