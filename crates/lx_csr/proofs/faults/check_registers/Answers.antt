use Rattle.std.proofs.Common.{[], arith, subst}
use Rattle.std.proofs.lemmas.Result.{err_from_is_err_and}
use Rattle.lx_alloc.specs.Judged.{Refused, each_pair}
use Rattle.lx_alloc.proofs.Judging.{flat_exit_at}
use Rattle.lx_csr.specs.Faults.{field_faults, register_faults}
use Rattle.lx_csr.proofs.faults.check_registers.Goals as goal

pub returns-in_err-check_pairs : goal.returns-in_err-check_pairs
returns-in_err-check_pairs c =
    let p = err_from_is_err_and c.from_residual.result c.from_residual.ensures.1 in
    rw (p.1, p.2) (flat_exit_at register_faults c.args.registers.now c.loop-register.register-index c.register-item.result _ (omega arith) c.register-item.is c.loop-register.invariant
    (subst (λ fs. Refused (each_pair field_faults [] fs) c.in_err-check_pairs.field-0.0) c.as_slice.ensures c.in_err-check_pairs.ensures))
