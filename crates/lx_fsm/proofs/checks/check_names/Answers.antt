use Rattle.std.proofs.lemmas.Result.{err_from_is_err_and}
use Rattle.lx_alloc.proofs.Judging.{refused_left}
use Rattle.lx_fsm.proofs.Naming.{judged_then}
use Rattle.lx_fsm.proofs.checks.check_names.Goals as goal

pub returns : goal.returns
returns c = λ d. judged_then _ _ _ c.in_ok-check_start.ensures (c.check_later.ensures d)

pub returns-in_err-check_start : goal.returns-in_err-check_start
returns-in_err-check_start c = λ d.
    let p = err_from_is_err_and c.from_residual.result c.from_residual.ensures.1 in
    rw (p.1, p.2) (refused_left _ _ _ c.in_err-check_start.ensures)
