use Rattle.std.proofs.Common.{◌<◌, length, refl, ap, ◌∙◌, arith}
use Rattle.std.proofs.lemmas.Result.{err_from_is_err_and}
use Rattle.lx_alloc.proofs.Judging.{flat_exit, flat_exit_at, flat_more_at, refused_left}
use Rattle.lx_description.specs.Below.{FsmStmtId}
use Rattle.lx_description.specs.declared.fsms.FsmArm.{FsmArm}
use Rattle.lx_description.specs.declared.fsms.FsmBranch.{FsmBranch}
use Rattle.lx_fsm.specs.Actions.{named}
use Rattle.lx_fsm.specs.Decls.{act}
use Rattle.lx_fsm.specs.Lowers.{unknown_in, unknown_in_acts}
use Rattle.lx_fsm.proofs.Naming.{all_seen, case_unknown, if_unknown, judged_is, judged_then, more_seen, named_is, one_unknown}
use Rattle.lx_fsm.proofs.Ready.{arm_body_at, body_at, case_below, id_below_at, if_below}
use Rattle.lx_fsm.proofs.checks.+check.Goals as goal

pub check_act-check_if-requires : goal.check_act-check_if-requires
check_act-check_if-requires t c =
    let below = if_below _ _ _ _ _ c.get.ensures.lower c.in-If.is in
    (omega arith, (omega (arith, c.requires), (rw c.as_slice-branches.ensures below.0, rw c.as_slice-rest.ensures below.1)))

pub check_act-check_case-requires : goal.check_act-check_case-requires
check_act-check_case-requires t c =
    let below = case_below _ _ _ _ _ _ c.get.ensures.lower c.in-Case.is in
    (omega arith, (omega (arith, c.requires), (rw c.as_slice-arms.ensures below.0, rw c.as_slice-rest-in-Case.ensures below.1)))

pub check_act-returns-in-Assign : goal.check_act-returns-in-Assign
check_act-returns-in-Assign t c = λ d. ap (unknown_in c.args.fsm.now) (named_is d c.args.stmts.now _ _ _ c.get.ensures.all c.get.ensures.item c.in-Assign.is)

pub check_act-returns-in-NextValue : goal.check_act-returns-in-NextValue
check_act-returns-in-NextValue t c = λ d. ap (unknown_in c.args.fsm.now) (named_is d c.args.stmts.now _ _ _ c.get.ensures.all c.get.ensures.item c.in-NextValue.is)

pub check_act-returns-in-NextState : goal.check_act-returns-in-NextState
check_act-returns-in-NextState t c = λ d.
    judged_is _ _ _
    (ap (unknown_in c.args.fsm.now) (named_is d c.args.stmts.now _ _ _ c.get.ensures.all c.get.ensures.item c.in-NextState.is) ∙ one_unknown c.args.fsm.now c.in-NextState.name)
    c.check_name.ensures

pub check_act-returns-in-If : goal.check_act-returns-in-If
check_act-returns-in-If t c = λ d.
    judged_is _ _ _
    (ap (unknown_in c.args.fsm.now) (named_is d c.args.stmts.now _ _ _ c.get.ensures.all c.get.ensures.item c.in-If.is) ∙ if_unknown d c.args.fsm.now c.args.stmts.now c.in-If.branches c.in-If.rest)
    (rw (c.as_slice-branches.ensures, c.as_slice-rest.ensures) at (c.check_if.ensures d))

pub check_act-returns-in-Case : goal.check_act-returns-in-Case
check_act-returns-in-Case t c = λ d.
    judged_is _ _ _
    (ap (unknown_in c.args.fsm.now) (named_is d c.args.stmts.now _ _ _ c.get.ensures.all c.get.ensures.item c.in-Case.is) ∙ case_unknown d c.args.fsm.now c.args.stmts.now c.in-Case.arms c.in-Case.rest)
    (rw (c.as_slice-arms.ensures, c.as_slice-rest-in-Case.ensures) at (c.check_case.ensures d))

pub check_if-returns : goal.check_if-returns
check_if-returns t c = λ d. judged_then _ _ _ (c.in_ok-check_branches.ensures d) (c.check_acts.ensures d)

pub check_if-returns-in_err-check_branches : goal.check_if-returns-in_err-check_branches
check_if-returns-in_err-check_branches t c = λ d.
    let p = err_from_is_err_and c.from_residual.result c.from_residual.ensures.1 in
    rw (p.1, p.2) (refused_left _ _ _ (c.in_err-check_branches.ensures d))

pub check_case-returns : goal.check_case-returns
check_case-returns t c = λ d. judged_then _ _ _ (c.in_ok-check_arms.ensures d) (c.check_acts.ensures d)

pub check_case-returns-in_err-check_arms : goal.check_case-returns-in_err-check_arms
check_case-returns-in_err-check_arms t c = λ d.
    let p = err_from_is_err_and c.from_residual.result c.from_residual.ensures.1 in
    rw (p.1, p.2) (refused_left _ _ _ (c.in_err-check_arms.ensures d))

pub check_acts-loop-id-init : goal.check_acts-loop-id-init
check_acts-loop-id-init t c = λ d. refl

pub check_acts-check_act-requires : goal.check_acts-check_act-requires
check_acts-check_act-requires t c =
    let z : FsmStmtId = record { place = 0; of = record {} } in
    let h : c.loop-id.id-index < length c.args.ids.now = omega arith in
    let l = id_below_at c.args.bound c.args.ids.now c.loop-id.id-index z c.requires.below h in
    (omega (arith, l), omega (arith, l, c.requires.within))

pub check_acts-loop-id-preserved : goal.check_acts-loop-id-preserved
check_acts-loop-id-preserved t c = λ d.
    more_seen (λ (i : FsmStmtId). unknown_in c.args.fsm.now (named (act d c.args.stmts.now i.place))) c.args.ids.now c.loop-id.id-index _ (omega arith) (c.loop-id.invariant d) (c.in_ok-check_act.ensures d)

pub check_acts-returns : goal.check_acts-returns
check_acts-returns t c = λ d.
    all_seen (λ (i : FsmStmtId). unknown_in c.args.fsm.now (named (act d c.args.stmts.now i.place))) c.args.ids.now c.loop-id.id-index (omega arith) (c.loop-id.invariant d)

pub check_acts-returns-in_err-check_act : goal.check_acts-returns-in_err-check_act
check_acts-returns-in_err-check_act t c = λ d.
    let p = err_from_is_err_and c.from_residual.result c.from_residual.ensures.1 in
    rw (p.1, p.2) (flat_exit (λ (i : FsmStmtId). unknown_in c.args.fsm.now (named (act d c.args.stmts.now i.place))) c.args.ids.now c.loop-id.id-index _ _ (omega arith) (c.loop-id.invariant d) (c.in_err-check_act.ensures d))

pub check_branches-loop-branch-init : goal.check_branches-loop-branch-init
check_branches-loop-branch-init t c = λ d. refl

pub check_branches-check_acts-requires : goal.check_branches-check_acts-requires
check_branches-check_acts-requires t c =
    let h : c.loop-branch.branch-index < length c.args.branches.now = omega arith in
    (omega arith, (c.requires.within, rw (c.as_slice-body.ensures, c.branch-item.is) (body_at c.args.bound c.args.branches.now c.loop-branch.branch-index c.branch-item.result c.requires.below h)))

pub check_branches-loop-branch-preserved : goal.check_branches-loop-branch-preserved
check_branches-loop-branch-preserved t c = λ d.
    flat_more_at (λ (b : FsmBranch). unknown_in_acts d c.args.fsm.now c.args.stmts.now b.body) c.args.branches.now c.loop-branch.branch-index c.branch-item.result (omega arith) c.branch-item.is (c.loop-branch.invariant d)
    (rw c.as_slice-body.ensures at (c.in_ok-check_acts.ensures d))

pub check_branches-returns : goal.check_branches-returns
check_branches-returns t c = λ d.
    all_seen (λ (b : FsmBranch). unknown_in_acts d c.args.fsm.now c.args.stmts.now b.body) c.args.branches.now c.loop-branch.branch-index (omega arith) (c.loop-branch.invariant d)

pub check_branches-returns-in_err-check_acts : goal.check_branches-returns-in_err-check_acts
check_branches-returns-in_err-check_acts t c = λ d.
    let p = err_from_is_err_and c.from_residual.result c.from_residual.ensures.1 in
    rw (p.1, p.2) (flat_exit_at (λ (b : FsmBranch). unknown_in_acts d c.args.fsm.now c.args.stmts.now b.body) c.args.branches.now c.loop-branch.branch-index c.branch-item.result _ (omega arith) c.branch-item.is (c.loop-branch.invariant d)
    (rw c.as_slice-body.ensures at (c.in_err-check_acts.ensures d)))

pub check_arms-loop-arm-init : goal.check_arms-loop-arm-init
check_arms-loop-arm-init t c = λ d. refl

pub check_arms-check_acts-requires : goal.check_arms-check_acts-requires
check_arms-check_acts-requires t c =
    let h : c.loop-arm.arm-index < length c.args.arms.now = omega arith in
    (omega arith, (c.requires.within, rw (c.as_slice-body.ensures, c.arm-item.is) (arm_body_at c.args.bound c.args.arms.now c.loop-arm.arm-index c.arm-item.result c.requires.below h)))

pub check_arms-loop-arm-preserved : goal.check_arms-loop-arm-preserved
check_arms-loop-arm-preserved t c = λ d.
    flat_more_at (λ (a : FsmArm). unknown_in_acts d c.args.fsm.now c.args.stmts.now a.body) c.args.arms.now c.loop-arm.arm-index c.arm-item.result (omega arith) c.arm-item.is (c.loop-arm.invariant d)
    (rw c.as_slice-body.ensures at (c.in_ok-check_acts.ensures d))

pub check_arms-returns : goal.check_arms-returns
check_arms-returns t c = λ d.
    all_seen (λ (a : FsmArm). unknown_in_acts d c.args.fsm.now c.args.stmts.now a.body) c.args.arms.now c.loop-arm.arm-index (omega arith) (c.loop-arm.invariant d)

pub check_arms-returns-in_err-check_acts : goal.check_arms-returns-in_err-check_acts
check_arms-returns-in_err-check_acts t c = λ d.
    let p = err_from_is_err_and c.from_residual.result c.from_residual.ensures.1 in
    rw (p.1, p.2) (flat_exit_at (λ (a : FsmArm). unknown_in_acts d c.args.fsm.now c.args.stmts.now a.body) c.args.arms.now c.loop-arm.arm-index c.arm-item.result _ (omega arith) c.arm-item.is (c.loop-arm.invariant d)
    (rw c.as_slice-body.ensures at (c.in_err-check_acts.ensures d)))
