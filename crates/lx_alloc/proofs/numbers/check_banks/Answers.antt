use Rattle.std.proofs.Common.{arith}
use Rattle.std.proofs.lemmas.Result.{err_from_is_err_and}
use Rattle.lx_alloc.specs.Numbers.{bank_faults}
use Rattle.lx_alloc.proofs.Judging.{flat_exit_at}
use Rattle.lx_alloc.proofs.numbers.check_banks.Goals as goal

pub returns-in_err-check_bank : goal.returns-in_err-check_bank
returns-in_err-check_bank c =
    let p = err_from_is_err_and c.from_residual.result c.from_residual.ensures.1 in
    rw (p.1, p.2) (flat_exit_at (bank_faults c.args.banks.now) c.args.fixes.now c.loop-fix.fix-index c.fix-item.result _ (omega arith) c.fix-item.is c.loop-fix.invariant c.in_err-check_bank.ensures)
