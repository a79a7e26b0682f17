use Rattle.std.proofs.lemmas.Result.{err_from_is_err_and}
use Rattle.lx_fsm.proofs.Without.{all_start, can_put_all, is_without, without}
use Rattle.lx_fsm.proofs.flattening.without_fsms.Goals as goal

pub put_fsms-requires-clause-can : goal.put_fsms-requires-clause-can
put_fsms-requires-clause-can c =
    rw (c.of-growing.ensures, c.in_ok-comb.ensures.long, c.in_ok-sync.ensures.long, c.len.ensures, c.len-2.ensures, c.as_slice.ensures) (can_put_all c.args.description c.requires)

pub returns-in_err-put_fsms : goal.returns-in_err-put_fsms
returns-in_err-put_fsms c =
    let p = err_from_is_err_and c.from_residual-in_err-put_fsms.result c.from_residual-in_err-put_fsms.ensures.1 in
    rw (p.1, p.2) (rw (c.of-growing.ensures, c.as_slice.ensures) at c.in_err-put_fsms.ensures)

pub set_starts-requires : goal.set_starts-requires
set_starts-requires c =
    let put = rw (c.of-growing.ensures, c.as_slice.ensures, c.in_ok-comb.ensures.long, c.in_ok-sync.ensures.long, c.len.ensures, c.len-2.ensures) at c.in_ok-put_fsms.ensures in
    rw c.as_slice-2.ensures (all_start c.args.description c.put_fsms.new.growing c.put_fsms.new.comb c.put_fsms.new.sync c.requires put)

pub returns : goal.returns
returns c =
    let put = rw (c.of-growing.ensures, c.as_slice.ensures, c.in_ok-comb.ensures.long, c.in_ok-sync.ensures.long, c.len.ensures, c.len-2.ensures) at c.in_ok-put_fsms.ensures in
    let both = without c.args.description c.put_fsms.new.growing c.set_starts.new.growing c.in_ok-design.design c.put_fsms.new.comb c.put_fsms.new.sync c.requires put (rw c.as_slice-2.ensures at c.set_starts.ensures)
    (rw (c.as_slice-3.ensures, c.as_slice-4.ensures) at c.in_ok-design.ensures.is) c.in_ok-design.ensures.keeps in
    is_without c.args.description c.in_ok-design.design _ _ put.sound both c.new-no_stmts.ensures c.new-no_fsms.ensures
