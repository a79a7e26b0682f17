use Rattle.std.proofs.Common.{arith}
use Rattle.std.proofs.lemmas.Result.{err_from_is_err_and}
use Rattle.lx_alloc.proofs.Judging.{flat_exit_at}
use Rattle.lx_csr.specs.Faults.{top_faults}
use Rattle.lx_csr.proofs.faults.check_top.Goals as goal

pub returns-in_err-check_part : goal.returns-in_err-check_part
returns-in_err-check_part c =
    let p = err_from_is_err_and c.from_residual.result c.from_residual.ensures.1 in
    rw (p.1, p.2) (flat_exit_at top_faults c.args.parts.now c.loop-part.part-index c.part-item.result _ (omega arith) c.part-item.is c.loop-part.invariant c.in_err-check_part.ensures)
