use Rattle.std.proofs.Common.{rules}
use Rattle.lx_fsm_kept.proofs.Sound.{stand_there}
use Rattle.lx_fsm_kept.proofs.kept.tested.Goals as goal

pub stmt_depths-requires-clause-stand : goal.stmt_depths-requires-clause-stand
stmt_depths-requires-clause-stand c =
    let passes = c.if-not-stmts_stand.false in
    stand_there c.args.description.now c.stmts_stand.result _ _ _ c.len.ensures c.len-2.ensures c.as_slice.ensures c.stmts_stand.ensures (search (rules, passes))
