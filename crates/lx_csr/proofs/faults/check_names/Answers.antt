use Rattle.std.proofs.Common.{◌≡◌, ◌++◌, ◌∷◌, [], ◌∙◌, arith, ap, subst}
use Rattle.std.proofs.lemmas.Result.{err_from_is_err_and}
use Rattle.lx_alloc.specs.Judged.{Refused}
use Rattle.lx_csr.specs.Faults.{name_fault, taken_first}
use Rattle.lx_csr.proofs.Taking.{taken_exit_at, taken_more_at, texts_more}
use Rattle.lx_csr.proofs.faults.check_names.Goals as goal

pub returns-in_err-check_name : goal.returns-in_err-check_name
returns-in_err-check_name c =
    let p = err_from_is_err_and c.from_residual.result c.from_residual.ensures.1 in
    rw (p.1, p.2) (taken_exit_at (taken_first c.args.headers) c.args.names.now c.loop-name.name-index c.name-item.result _ (omega arith) c.name-item.is c.loop-name.invariant.none
    (subst (λ ns. Refused (name_fault (taken_first c.args.headers ++ ns) c.name-item.result) c.in_err-check_name.field-0.0) c.loop-name.invariant.taken c.in_err-check_name.ensures.fault))

pub loop-name-preserved : goal.loop-name-preserved
loop-name-preserved c =
    record {
      none = taken_more_at (taken_first c.args.headers) c.args.names.now c.loop-name.name-index c.name-item.result (omega arith) c.name-item.is c.loop-name.invariant.none
          (subst (λ ns. name_fault (taken_first c.args.headers ++ ns) c.name-item.result ≡ []) c.loop-name.invariant.taken c.in_ok-check_name.ensures.fault);
      taken = c.in_ok-check_name.ensures.taken ∙ (ap (λ ns. ns ++ c.name-item.result.text ∷ []) c.loop-name.invariant.taken
          ∙ texts_more c.args.names.now c.loop-name.name-index c.name-item.result (omega arith) c.name-item.is);
    }
