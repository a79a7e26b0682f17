use Rattle.std.proofs.Common.{◌<◌, ◌∙◌, length, refl, ap, arith}
use Rattle.std.specs.Prelude.{Some}
use Rattle.std.proofs.lemmas.Result.{on_ok_weaker}
use Rattle.lx_fhdl.specs.Below.{StmtId}
use Rattle.lx_reads.proofs.Going.{above_kept, around_kept, goes_start}
use Rattle.lx_reads.proofs.Items.{arm_body_at, body_at, cond_at, stmt_below_at}
use Rattle.lx_reads.proofs.Statements.{arms_done, arms_more, assign_is, block_done, block_more, case_is, case_lower, chain_done, chain_more, if_is, if_lower}
use Rattle.lx_reads.proofs.walk.+walk.Goals as goal

pub put_block-put_stmt-requires : goal.put_block-put_stmt-requires
put_block-put_stmt-requires t c =
    let z : StmtId = record { place = 0; of = record {} } in
    let h : c.loop-id.id-index < length c.args.ids.now = omega arith in
    let l = stmt_below_at c.args.bound c.args.ids.now c.loop-id.id-index z c.requires.below h in
    (omega (arith, l), (record { stands = c.loop-id.invariant.net; within = around_kept c.args.under.around c.loop-id.invariant.grows c.requires.ready.within }, omega (arith, l, c.requires.bound)))

pub put_block-loop-id-preserved : goal.put_block-loop-id-preserved
put_block-loop-id-preserved t c =
    block_more _ _ _ _ c.args.ids.now c.loop-id.id-index _ (omega arith) (above_kept c.args.under.around c.loop-id.invariant.grows c.requires.ready.within) c.loop-id.invariant c.in_ok-put_stmt.ensures

pub put_if-loop-branch-init : goal.put_if-loop-branch-init
put_if-loop-branch-init t c = (goes_start _ c.requires.ready.stands, (c.requires.ready.within, refl))

pub put_if-put_cond-requires-clause-ready : goal.put_if-put_cond-requires-clause-ready
put_if-put_cond-requires-clause-ready t c = record { stands = c.loop-branch.invariant.0.net; within = c.loop-branch.invariant.1.0 }

pub put_if-put_cond-requires-clause-place : goal.put_if-put_cond-requires-clause-place
put_if-put_cond-requires-clause-place t c = rw c.branch-item.is (cond_at _ c.args.branches.now c.loop-branch.branch-index c.branch-item.result c.requires.conds c.loop-branch-test.true)

pub put_if-put_block-requires : goal.put_if-put_block-requires
put_if-put_block-requires t c =
    let body = body_at c.args.bound c.args.branches.now c.loop-branch.branch-index c.branch-item.result c.requires.below c.loop-branch-test.true in
    (omega arith, (record { stands = c.in_ok-inside.ensures.goes.net; within = c.in_ok-inside.ensures.around }, (rw (c.as_slice.ensures, c.branch-item.is) body, c.requires.bound)))

pub put_if-loop-branch-preserved : goal.put_if-loop-branch-preserved
put_if-loop-branch-preserved t c =
    let inside = c.in_ok-inside.ensures in
    let body = rw (c.as_slice.ensures, inside.driver, c.loop-branch.invariant.1.1) at c.in_ok-put_block.ensures in
    (chain_more _ _ c.args.branches.now c.args.rest.now c.loop-branch.branch-index c.branch-item.result _ _ (omega arith) c.branch-item.is c.loop-branch.invariant.0 inside body, (around_kept c.in_ok-inside.inside.around body.grows inside.around, inside.driver ∙ c.loop-branch.invariant.1.1))

pub put_arms-put_block-requires : goal.put_arms-put_block-requires
put_arms-put_block-requires t c =
    let body = arm_body_at c.args.bound c.args.arms.now c.loop-arm.arm-index c.arm-item.result c.requires.below c.loop-arm-test.true in
    (omega arith, (record { stands = c.loop-arm.invariant.net; within = around_kept c.args.under.around c.loop-arm.invariant.grows c.requires.ready.within }, (rw (c.as_slice.ensures, c.arm-item.is) body, c.requires.bound)))

pub put_arms-loop-arm-preserved : goal.put_arms-loop-arm-preserved
put_arms-loop-arm-preserved t c =
    arms_more _ _ _ _ c.args.arms.now c.args.rest.now c.loop-arm.arm-index c.arm-item.result (omega arith) c.arm-item.is (above_kept c.args.under.around c.loop-arm.invariant.grows c.requires.ready.within) c.loop-arm.invariant
    (rw c.as_slice.ensures at c.in_ok-put_block.ensures)

pub put_stmt-put_assign-requires-clause-target : goal.put_stmt-put_assign-requires-clause-target
put_stmt-put_assign-requires-clause-target t c = (c.requires.ready.stands.keeps.arenas.stmts c.args.id.place _ (c.get.ensures.item ∙ ap Some c.in-Assign.is)).0

pub put_stmt-put_assign-requires-clause-value : goal.put_stmt-put_assign-requires-clause-value
put_stmt-put_assign-requires-clause-value t c = (c.requires.ready.stands.keeps.arenas.stmts c.args.id.place _ (c.get.ensures.item ∙ ap Some c.in-Assign.is)).1

pub put_stmt-put_if-requires : goal.put_stmt-put_if-requires
put_stmt-put_if-requires t c =
    let item = c.get.ensures.item ∙ ap Some c.in-If.is in
    let arenas = c.requires.ready.stands.keeps.arenas in
    let lower = if_lower c.args.design.now _ _ _ _ arenas.stmts_lower item in
    (omega arith, (c.requires.ready, (rw c.as_slice-branches.ensures (arenas.stmts c.args.id.place _ item), (rw c.as_slice-branches.ensures lower.0, (rw c.as_slice-rest.ensures lower.1, omega (arith, c.requires.place))))))

pub put_stmt-put_cond-requires-clause-place : goal.put_stmt-put_cond-requires-clause-place
put_stmt-put_cond-requires-clause-place t c = c.requires.ready.stands.keeps.arenas.stmts c.args.id.place _ (c.get.ensures.item ∙ ap Some c.in-Case.is)

pub put_stmt-returns-in-Assign : goal.put_stmt-returns-in-Assign
put_stmt-returns-in-Assign t c =
    on_ok_weaker c.put_assign.result (λ p. assign_is _ _ _ _ _ _ _ c.requires.ready.stands.keeps.arenas.stmts_lower (c.get.ensures.item ∙ ap Some c.in-Assign.is) p) c.put_assign.ensures

pub put_stmt-returns-in-If : goal.put_stmt-returns-in-If
put_stmt-returns-in-If t c =
    on_ok_weaker c.put_if.result (λ p. if_is _ _ _ _ _ _ _ c.requires.ready.stands.keeps.arenas.stmts_lower (c.get.ensures.item ∙ ap Some c.in-If.is) p)
    (rw (c.as_slice-branches.ensures, c.as_slice-rest.ensures) at c.put_if.ensures)

pub put_stmt-returns-in_ok-inside-in-Case : goal.put_stmt-returns-in_ok-inside-in-Case
put_stmt-returns-in_ok-inside-in-Case t c =
    on_ok_weaker c.put_arms.result
    (λ p. case_is _ _ _ _ _ _ _ c.args.under _ c.requires.ready.stands c.requires.ready.stands.keeps.arenas.stmts_lower (c.get.ensures.item ∙ ap Some c.in-Case.is) c.in_ok-inside-in-Case.ensures p)
    (rw (c.as_slice-arms.ensures, c.as_slice-rest-in-Case.ensures, c.in_ok-inside-in-Case.ensures.driver) at c.put_arms.ensures)

pub put_block-returns : goal.put_block-returns
put_block-returns t c = block_done _ _ _ c.args.ids.now c.loop-id.id-index (omega arith) c.loop-id.invariant

pub put_if-put_block-requires-2 : goal.put_if-put_block-requires-2
put_if-put_block-requires-2 t c = (omega arith, (record { stands = c.loop-branch.invariant.0.net; within = c.loop-branch.invariant.1.0 }, (c.requires.rest, c.requires.bound)))

pub put_if-returns : goal.put_if-returns
put_if-returns t c =
    on_ok_weaker c.put_block-2.result (λ p. chain_done _ _ _ c.args.branches.now c.args.rest.now c.loop-branch.branch-index (omega arith) c.loop-branch.invariant.0 p) (rw c.loop-branch.invariant.1.1 at c.put_block-2.ensures)

pub put_arms-put_block-requires-2 : goal.put_arms-put_block-requires-2
put_arms-put_block-requires-2 t c =
    (omega arith, (record { stands = c.loop-arm.invariant.net; within = around_kept c.args.under.around c.loop-arm.invariant.grows c.requires.ready.within }, (c.requires.rest, c.requires.bound)))

pub put_arms-returns : goal.put_arms-returns
put_arms-returns t c =
    on_ok_weaker c.put_block-2.result
    (λ p. arms_done _ _ _ _ c.args.arms.now c.args.rest.now c.loop-arm.arm-index (omega arith) (above_kept c.args.under.around c.loop-arm.invariant.grows c.requires.ready.within) c.loop-arm.invariant p) c.put_block-2.ensures

pub put_stmt-put_arms-requires : goal.put_stmt-put_arms-requires
put_stmt-put_arms-requires t c =
    let item = c.get.ensures.item ∙ ap Some c.in-Case.is in
    let inside = c.in_ok-inside-in-Case.ensures in
    let lower = case_lower c.args.design.now _ _ _ _ _ c.requires.ready.stands.keeps.arenas.stmts_lower item in
    (omega arith, (record { stands = inside.goes.net; within = inside.around }, (rw c.as_slice-arms.ensures lower.0, (rw c.as_slice-rest-in-Case.ensures lower.1, omega (arith, c.requires.place)))))
