use Rattle.std.proofs.Common.{sym, ap, ◌∙◌}
use Rattle.lx_blocks.proofs.Writing.{one_stmt, stmts_as, stmts_is, write_bounded, write_full}
use Rattle.lx_blocks.proofs.writes.put_write.Goals as goal

pub returns-then-is_full : goal.returns-then-is_full
returns-then-is_full c =
    let full = write_full c.args.write _ _ c.memory.ensures.item (ap (λ a. a.bits) c.shape.ensures.is) (sym c.is_full.ensures ∙ c.if-is_full.true) in
    stmts_as c.put_parts.result _ _ _ _ _ full c.put_parts.ensures

pub returns : goal.returns
returns c =
    let bounded = write_bounded c.args.write _ _ c.memory.ensures.item (ap (λ a. a.bits) c.shape.ensures.is) (sym c.is_full.ensures ∙ c.if-is_full.false) in
    rw c.in_ok-push.ensures.ok (stmts_is _ _ _ _ _ _ bounded (one_stmt _ _ _ _ _ c.requires c.in_ok-bounded.ensures))
