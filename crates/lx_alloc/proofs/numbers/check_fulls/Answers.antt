use Rattle.std.proofs.Common.{arith}
use Rattle.std.proofs.lemmas.Result.{err_from_is_err_and}
use Rattle.lx_alloc.specs.Numbers.{full_faults}
use Rattle.lx_alloc.proofs.Judging.{flat_exit_at}
use Rattle.lx_alloc.proofs.numbers.check_fulls.Goals as goal

pub returns-in_err-check_full : goal.returns-in_err-check_full
returns-in_err-check_full c =
    let p = err_from_is_err_and c.from_residual.result c.from_residual.ensures.1 in
    rw (p.1, p.2) (flat_exit_at (full_faults) c.args.banks.now c.loop-bank.bank-index c.bank-item.result _ (omega arith) c.bank-item.is c.loop-bank.invariant c.in_err-check_full.ensures)
