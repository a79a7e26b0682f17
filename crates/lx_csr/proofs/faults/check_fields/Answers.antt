use Rattle.std.proofs.Common.{arith, subst}
use Rattle.std.specs.Prelude.{flat_map}
use Rattle.std.proofs.lemmas.Result.{err_from_is_err_and}
use Rattle.lx_alloc.specs.Judged.{Refused}
use Rattle.lx_alloc.proofs.Judging.{flat_exit_at}
use Rattle.lx_csr.specs.Faults.{bank_faults, register_faults}
use Rattle.lx_csr.proofs.faults.check_fields.Goals as goal

pub returns-in_err-check_registers : goal.returns-in_err-check_registers
returns-in_err-check_registers c =
    let p = err_from_is_err_and c.from_residual.result c.from_residual.ensures.1 in
    rw (p.1, p.2) (flat_exit_at bank_faults c.args.banks.now c.loop-bank.bank-index c.bank-item.result _ (omega arith) c.bank-item.is c.loop-bank.invariant
    (subst (λ rs. Refused (flat_map register_faults rs) c.in_err-check_registers.field-0.0) c.as_slice.ensures c.in_err-check_registers.ensures))
