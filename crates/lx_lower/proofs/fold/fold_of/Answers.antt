use Rattle.std.proofs.Common.{arith, rules}
use Rattle.lx_lower.proofs.Folding.{line_folded, some_done, fold_number}
use Rattle.lx_lower.proofs.fold.fold_of.Goals as goal

pub returns-clause-number : goal.returns-clause-number
returns-clause-number c =
    fold_number _ _ c.lay-pattern.result c.after_block-after.result _ c.signal-own.result.now.shape c.signal-own.result.now.reset _
    (some_done _ _ _ c.is_empty.ensures c.if-is_empty.false) c.if-not-block_reads_none.ensures c.signal-own.ensures.shape c.signal-own.ensures.reset
    (search rules) (search rules) c.lay-pattern.ensures c.after_block-after.ensures (omega arith) c.wrap.ensures

pub returns-clause-line : goal.returns-clause-line
returns-clause-line c = line_folded _ _ _ c.if-not-block_reads_none.ensures c.first_line_in.ensures
