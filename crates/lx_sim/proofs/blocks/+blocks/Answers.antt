use Rattle.std.proofs.Common.{◌≡◌, ◌<◌, ◌≤◌, ◌+◌, drop, length, get_or, List, rules, sym, ap, subst, ◌∙◌, arith}
use Rattle.std.specs.Prelude.{ℤ, Some}
use Rattle.std.proofs.lemmas.Int.{to_z-of_z}
use mir.Syntax.{w128}
use mir.Val.{SFits, of_z, to_z}
use Rattle.lx_sheet.proofs.Owners.{there_at}
use Rattle.lx_fhdl.specs.Below.{StmtId}
use Rattle.lx_sim.specs.Blocks.{IsBlockRun, IsPattern, IsStmtRun, IsTargetRun}
use Rattle.lx_sim.proofs.Runs.{RunsTo, assign_run, body_below, cond_within, lone_branch, no_case, own_body, own_rest, own_target, passed_run, rest_below, runs_at, runs_end, runs_first, runs_more, runs_out, some_branch, taken_run, value_within}
use Rattle.lx_sim.proofs.blocks.+blocks.Goals as goal

pub after_block-after_stmt-now-requires : goal.after_block-after_stmt-now-requires
after_block-after_stmt-now-requires t c =
    let i = get_or c.args.ids.now c.loop-id.id-index (record { place = 0; of = record {} }) in
    let low : i.place < c.args.bound = there_at c.args.bound c.args.ids.now c.loop-id.id-index _ c.requires.below c.loop-id-test.true in
    (search (rules, low), (runs_first _ _ _ _ _ _ _ _ (runs_at _ _ _ _ _ _ _ _ c.loop-id.invariant c.loop-id-test.true) (omega (arith, low, c.requires.bound)), c.loop-id.invariant.pattern))

pub after_block-loop-id-preserved : goal.after_block-loop-id-preserved
after_block-loop-id-preserved t c =
    let fits : SFits w128 c.after_stmt-now.result = search rules in
    let same : to_z w128 (of_z w128 c.after_stmt-now.result) ≡ c.after_stmt-now.result = to_z-of_z w128 c.after_stmt-now.result fits in
    subst (λ (z : ℤ). RunsTo c.args.design.now c.args.x c.args.known.now c.args.ids.now (drop (c.loop-id.id-index + 1) c.args.ids.now) (to_z w128 (of_z w128 c.args.pattern)) z) (sym same)
    (runs_more _ _ _ _ _ _ _ _ _ (runs_at _ _ _ _ _ _ _ _ c.loop-id.invariant c.loop-id-test.true) c.after_stmt-now.ensures)

pub after_block-returns : goal.after_block-returns
after_block-returns t c =
    let same : to_z w128 (of_z w128 c.args.pattern) ≡ c.args.pattern = to_z-of_z w128 c.args.pattern c.ranges.pattern in
    subst (λ (p : ℤ). IsBlockRun c.args.design.now c.args.x c.args.known.now c.args.ids.now p (to_z w128 c.loop-id.now-bits)) same
    (runs_end _ _ _ _ _ _ (runs_out _ _ _ _ _ _ _ c.loop-id.invariant c.loop-id-test.false))

pub after_stmt-known_at-requires : goal.after_stmt-known_at-requires
after_stmt-known_at-requires t c = value_within _ _ _ _ _ _ _ c.requires.stmt (c.get.ensures.item ∙ ap Some c.in-Assign.is)

pub after_stmt-after_target-requires-clause-target : goal.after_stmt-after_target-requires-clause-target
after_stmt-after_target-requires-clause-target t c = own_target _ _ _ _ _ _ _ c.requires.stmt (c.get.ensures.item ∙ ap Some c.in-Assign.is)

pub after_stmt-at-branch-requires : goal.after_stmt-at-branch-requires
after_stmt-at-branch-requires t c = some_branch _ _ _ _ _ _ _ c.requires.stmt (c.get.ensures.item ∙ ap Some c.in-If.is)

pub after_stmt-holds-requires : goal.after_stmt-holds-requires
after_stmt-holds-requires t c =
    let found = lone_branch _ _ _ _ _ _ _ _ c.requires.stmt (c.get.ensures.item ∙ ap Some c.in-If.is) c.at-branch.ensures in
    cond_within _ _ _ _ _ _ _ c.requires.stmt found

pub after_stmt-after_block-requires : goal.after_stmt-after_block-requires
after_stmt-after_block-requires t c =
    let found = lone_branch _ _ _ _ _ _ _ _ c.requires.stmt (c.get.ensures.item ∙ ap Some c.in-If.is) c.at-branch.ensures in
    let pattern = subst IsPattern (sym (to_z-of_z w128 c.args.pattern c.ranges.pattern)) c.requires.pattern in
    let bound : c.args.id.place ≤ length c.args.design.now.stmts = (let l = c.requires.stmt.within in omega arith) in
    (search rules, (rw c.as_slice.ensures (own_body _ _ _ _ _ _ _ c.requires.stmt found), (rw c.as_slice.ensures (body_below _ _ _ _ _ _ _ c.requires.stmt found), (bound, pattern))))

pub after_stmt-after_block-requires-else-holds : goal.after_stmt-after_block-requires-else-holds
after_stmt-after_block-requires-else-holds t c =
    let found = lone_branch _ _ _ _ _ _ _ _ c.requires.stmt (c.get.ensures.item ∙ ap Some c.in-If.is) c.at-branch.ensures in
    let pattern = subst IsPattern (sym (to_z-of_z w128 c.args.pattern c.ranges.pattern)) c.requires.pattern in
    let bound : c.args.id.place ≤ length c.args.design.now.stmts = (let l = c.requires.stmt.within in omega arith) in
    (search rules, (rw c.as_slice-else-holds.ensures (own_rest _ _ _ _ _ _ _ c.requires.stmt found), (rw c.as_slice-else-holds.ensures (rest_below _ _ _ _ _ _ _ c.requires.stmt found), (bound, pattern))))

pub after_stmt-unreachable-requires : goal.after_stmt-unreachable-requires
after_stmt-unreachable-requires t c = no_case _ _ _ _ _ _ _ _ c.requires.stmt (c.get.ensures.item ∙ ap Some c.in-Case.is)

pub after_stmt-returns-in-Assign : goal.after_stmt-returns-in-Assign
after_stmt-returns-in-Assign t c =
    let d = c.args.design.now in
    let p = c.args.pattern in
    let k = c.known_at.result in
    let r = c.after_target.result in
    let k_fits : SFits w128 k = search rules in
    let r_fits : SFits w128 r = search rules in
    let from = subst (λ (q : ℤ). IsTargetRun d c.args.x c.in-Assign.target (to_z w128 (of_z w128 k)) q r) (to_z-of_z w128 p c.ranges.pattern) c.after_target.ensures in
    let run = subst (λ (z : ℤ). IsTargetRun d c.args.x c.in-Assign.target z p r) (to_z-of_z w128 k k_fits ∙ c.known_at.ensures) from in
    subst (IsStmtRun d c.args.x c.args.known.now c.args.id p) (sym (to_z-of_z w128 r r_fits)) (assign_run d c.args.x c.args.known.now c.args.id c.in-Assign.target c.in-Assign.value c.in-Assign.line p r c.requires.stmt (c.get.ensures.item ∙ ap Some c.in-Assign.is) run)

pub after_stmt-returns-then-holds : goal.after_stmt-returns-then-holds
after_stmt-returns-then-holds t c =
    let d = c.args.design.now in
    let p = c.args.pattern in
    let b = c.at-branch.result.now in
    let r = c.after_block.result in
    let r_fits : SFits w128 r = search rules in
    let found = lone_branch _ _ _ _ _ _ _ _ c.requires.stmt (c.get.ensures.item ∙ ap Some c.in-If.is) c.at-branch.ensures in
    let from = subst (λ (q : ℤ). IsBlockRun d c.args.x c.args.known.now c.as_slice.result.now q r) (to_z-of_z w128 p c.ranges.pattern) c.after_block.ensures in
    let run = subst (λ (ids : List StmtId). IsBlockRun d c.args.x c.args.known.now ids p r) c.as_slice.ensures from in
    subst (IsStmtRun d c.args.x c.args.known.now c.args.id p) (sym (to_z-of_z w128 r r_fits)) (taken_run d c.args.x c.args.known.now c.args.id b c.in-If.rest c.in-If.line p r c.requires.stmt found (sym c.holds.ensures ∙ c.if-holds.true) run)

pub after_stmt-returns-else-holds : goal.after_stmt-returns-else-holds
after_stmt-returns-else-holds t c =
    let d = c.args.design.now in
    let p = c.args.pattern in
    let b = c.at-branch.result.now in
    let r = c.after_block-else-holds.result in
    let r_fits : SFits w128 r = search rules in
    let found = lone_branch _ _ _ _ _ _ _ _ c.requires.stmt (c.get.ensures.item ∙ ap Some c.in-If.is) c.at-branch.ensures in
    let from = subst (λ (q : ℤ). IsBlockRun d c.args.x c.args.known.now c.as_slice-else-holds.result.now q r) (to_z-of_z w128 p c.ranges.pattern) c.after_block-else-holds.ensures in
    let run = subst (λ (ids : List StmtId). IsBlockRun d c.args.x c.args.known.now ids p r) c.as_slice-else-holds.ensures from in
    subst (IsStmtRun d c.args.x c.args.known.now c.args.id p) (sym (to_z-of_z w128 r r_fits)) (passed_run d c.args.x c.args.known.now c.args.id b c.in-If.rest c.in-If.line p r c.requires.stmt found (sym c.holds.ensures ∙ c.if-holds.false) run)
