use Rattle.std.proofs.Common.{◌∙◌, ◌<◌, Some, length, sym, ap, arith}
use Rattle.lx_fhdl.specs.Below.{StmtId}
use Rattle.lx_sheet.proofs.Inside.{plain_assign, no_case}
use Rattle.lx_sheet.proofs.Owners.{there_at, plain_at}
use Rattle.lx_blocks.proofs.Parted.{stmt_stands, lone_if}
use Rattle.lx_blocks.proofs.Statements.{text_is, first_is, if_is}
use Rattle.std.proofs.lemmas.Result.{IfOk-weaker}
use Rattle.lx_blocks.proofs.Grown.{put_stmt_ok, parts_below, when_put, stmts_more, texts_more, block_put}
use Rattle.lx_blocks.proofs.stmts.+put.Goals as goal

pub put_block-returns : goal.put_block-returns
put_block-returns t c = IfOk-weaker c.put_stmts.result _ _ (λ list p. block_put _ _ _ _ _ _ c.new-list.ensures p) c.put_stmts.ensures

pub put_stmt-put_assign-requires : goal.put_stmt-put_assign-requires
put_stmt-put_assign-requires t c =
    let there = stmt_stands _ _ _ _ c.sheet.invariant.fit.keeps c.get.ensures.item c.in-Assign.is in
    rw (← c.sheet.view_is)
    (record {
      target = there.0;
      plain = plain_assign _ _ _ _ _ c.sheet.invariant.fit.keeps (c.get.ensures.item ∙ ap Some c.in-Assign.is) (rw (← c.sheet.view_is) at c.requires.plain);
      value = there.1;
    })

pub put_stmt-at-branch-requires : goal.put_stmt-at-branch-requires
put_stmt-at-branch-requires t c =
    let parts = lone_if _ _ _ _ _ _ c.sheet.invariant.fit.keeps (rw (← c.sheet.view_is) at c.requires.plain) c.get.ensures.item c.get.ensures.lower c.in-If.is in
    omega (arith, ap length parts.lone)

pub put_stmt-put_when-requires : goal.put_stmt-put_when-requires
put_stmt-put_when-requires t c =
    let parts = lone_if _ _ _ _ _ _ c.sheet.invariant.fit.keeps (rw (← c.sheet.view_is) at c.requires.plain) c.get.ensures.item c.get.ensures.lower c.in-If.is in
    let one = first_is _ _ _ parts.lone c.at-branch.ensures in
    let within = rw (← c.sheet.view_is) at c.requires.place in
    rw (← c.sheet.view_is) (
      omega arith,
      record {
        under = rw one parts.cond;
        then = record { within = omega (arith, within); below = rw one parts.body; plain = rw one parts.plain_body };
        otherwise = record { within = omega (arith, within); below = rw c.as_slice-rest.ensures parts.below; plain = rw c.as_slice-rest.ensures parts.plain_rest };
      },
    )

pub put_stmt-unreachable-requires : goal.put_stmt-unreachable-requires
put_stmt-unreachable-requires t c = no_case _ _ _ _ _ _ c.sheet.invariant.fit.keeps (c.get.ensures.item ∙ ap Some c.in-Case.is) (rw (← c.sheet.view_is) at c.requires.plain)

pub put_stmt-returns-in-Assign : goal.put_stmt-returns-in-Assign
put_stmt-returns-in-Assign t c =
    rw (← c.sheet.view_is)
    (put_stmt_ok _ _ _ _ _ (sym (text_is _ _ _ _ _ c.sheet.invariant.fit.keeps.arenas.stmts_lower (c.get.ensures.item ∙ ap Some c.in-Assign.is))) (rw (← c.sheet.view_is) at c.put_assign.ensures))

pub put_stmt-returns-in-If : goal.put_stmt-returns-in-If
put_stmt-returns-in-If t c =
    let parts = lone_if _ _ _ _ _ _ c.sheet.invariant.fit.keeps (rw (← c.sheet.view_is) at c.requires.plain) c.get.ensures.item c.get.ensures.lower c.in-If.is in
    let one = first_is _ _ _ parts.lone c.at-branch.ensures in
    rw (← c.sheet.view_is)
    (put_stmt_ok _ _ _ _ _ (if_is _ _ _ _ _ _ _ _ _ _ _ c.sheet.invariant.fit.keeps.arenas.stmts_lower c.get.ensures.item c.in-If.is parts.lone one c.as_slice-rest.ensures) (rw (← c.sheet.view_is) at c.put_when.ensures))

pub put_stmts-put_stmt-requires : goal.put_stmts-put_stmt-requires
put_stmts-put_stmt-requires t c =
    let z : StmtId = record { place = 0; of = record {} } in
    let h : c.loop-id.id-index < length c.args.ids.now = omega arith in
    let l = there_at c.args.bound c.args.ids.now c.loop-id.id-index z c.requires.body.below h in
    let p = plain_at c.args.sheet.now.design c.args.ids.now c.loop-id.id-index z c.requires.body.plain h in
    (omega (arith, l), (omega (arith, l, c.requires.body.within), p))

pub put_stmts-loop-id-preserved : goal.put_stmts-loop-id-preserved
put_stmts-loop-id-preserved t c =
    let z : StmtId = record { place = 0; of = record {} } in
    let h : c.loop-id.id-index < length c.args.ids.now = omega arith in
    let more = stmts_more _ _ _ _ _ _ _ _ c.loop-id.invariant c.in_ok-stmt.ensures in
    rw (c.in_ok-push.ensures.ok, texts_more _ c.args.ids.now c.loop-id.id-index z h) more

pub put_when-add_stmt-requires-clause-below : goal.put_when-add_stmt-requires-clause-below
put_when-add_stmt-requires-clause-below t c = parts_below _ _ _ _ _ _ _ _ c.in_ok-so.ensures c.in_ok-other.ensures c.in_ok-cond.ensures.grows

pub put_when-returns : goal.put_when-returns
put_when-returns t c =
    IfOk-weaker c.add_stmt.result _ _ (λ i p. when_put _ _ _ _ _ _ _ _ _ _ _ _ (rw c.as_slice.ensures at c.in_ok-so.ensures) c.in_ok-other.ensures c.in_ok-cond.ensures p) c.add_stmt.ensures.ok

pub put_when-put_block-requires : goal.put_when-put_block-requires
put_when-put_block-requires t c = (omega arith, rw c.as_slice.ensures c.requires.then)

pub put_when-put_else-requires : goal.put_when-put_else-requires
put_when-put_else-requires t c = (omega arith, c.requires.otherwise)

pub put_when-put_operand-requires : goal.put_when-put_operand-requires
put_when-put_operand-requires t c = c.requires.under
