use Rattle.std.proofs.Common.{◌<◌, List, [], length, refl, ap, arith, rules, FitsSigned}
use Rattle.std.specs.Int.{w128}
use Rattle.std.proofs.lemmas.Int.{to_z-of_z}
use Rattle.std.proofs.lemmas.Result.{on_ok_weaker}
use Rattle.lx_description.specs.Below.{FsmStmtId}
use Rattle.lx_description.specs.declared.fsms.FsmArm.{FsmArm}
use Rattle.lx_description.specs.declared.fsms.FsmBranch.{FsmBranch}
use Rattle.lx_fsm.proofs.Grown.{there_kept}
use Rattle.lx_fsm.proofs.Lowered.{acts_drive, acts_next, acts_of, arms_drive, arms_next_at, arms_of, becomes_later, becomes_now, branches_drive, branches_next_at, branches_of, case_can, case_empty, case_parts, case_there, if_can, if_empty, if_parts, if_there, node_put}
use Rattle.lx_fsm.proofs.Puts.{arms_done, arms_start, branches_done, branches_start, no_more, put_all, put_is, some_done, some_start}
use Rattle.lx_fsm.proofs.Ready.{arm_body_at, body_at, case_below, id_below_at, if_below, node_stands, ready_kept}
use Rattle.lx_fsm.proofs.states.+put.Goals as goal

-- ---- a node

pub put_act-put_if-requires : goal.put_act-put_if-requires
put_act-put_if-requires t c =
    let below = if_below _ _ _ _ _ c.stmt.ensures.below c.in-If.is in (
      omega arith,
      (
        c.requires.ready,
        (
          c.requires.out,
          (
            omega (arith, c.requires.place),
            (rw c.as_slice-branches.ensures (node_stands _ _ _ _ _ c.requires.ready c.stmt.ensures.item c.in-If.is), (rw c.as_slice-branches.ensures below.0, rw c.as_slice-rest.ensures below.1)),
          ),
        ),
      ),
    )

pub put_act-put_case-requires : goal.put_act-put_case-requires
put_act-put_case-requires t c =
    let below = case_below _ _ _ _ _ _ c.stmt.ensures.below c.in-Case.is in (
      omega arith,
      (
        c.requires.ready,
        (
          c.requires.out,
          (
            omega (arith, c.requires.place),
            (node_stands _ _ _ _ _ c.requires.ready c.stmt.ensures.item c.in-Case.is, (rw c.as_slice-arms.ensures below.0, rw c.as_slice-rest-in-Case.ensures below.1)),
          ),
        ),
      ),
    )

pub put_act-returns-in-If : goal.put_act-returns-in-If
put_act-returns-in-If t c =
    on_ok_weaker c.put_if.result (λ p. node_put c.args.part _ _ _ c.requires.ready c.stmt.ensures.item c.in-If.is p) (rw (c.as_slice-branches.ensures, c.as_slice-rest.ensures) at c.put_if.ensures)

pub put_act-returns-in-Case : goal.put_act-returns-in-Case
put_act-returns-in-Case t c =
    on_ok_weaker c.put_case.result (λ p. node_put c.args.part _ _ _ c.requires.ready c.stmt.ensures.item c.in-Case.is p) (rw (c.as_slice-arms.ensures, c.as_slice-rest-in-Case.ensures) at c.put_case.ensures)

pub put_act-put_now-requires : goal.put_act-put_now-requires
put_act-put_now-requires t c =
    let h = node_stands _ _ _ _ _ c.requires.ready c.stmt.ensures.item c.in-Assign.is in
    record { target = h.0; value = h.1; out = c.requires.out }

pub put_act-put_later-requires : goal.put_act-put_later-requires
put_act-put_later-requires t c =
    let h = node_stands _ _ _ _ _ c.requires.ready c.stmt.ensures.item c.in-NextValue.is in
    record { target = h.0; value = h.1; out = c.requires.out }

pub put_act-returns-in-Assign : goal.put_act-returns-in-Assign
put_act-returns-in-Assign t c =
    on_ok_weaker c.put_now.result (λ p. node_put c.args.part _ _ _ c.requires.ready c.stmt.ensures.item c.in-Assign.is (put_is (becomes_now _ c.args.part _ _) p)) c.put_now.ensures

pub put_act-returns-in-NextValue : goal.put_act-returns-in-NextValue
put_act-returns-in-NextValue t c =
    on_ok_weaker c.put_later.result (λ p. node_put c.args.part _ _ _ c.requires.ready c.stmt.ensures.item c.in-NextValue.is (put_is (becomes_later _ c.args.part _ _) p)) c.put_later.ensures

pub put_act-returns-in-NextState : goal.put_act-returns-in-NextState
put_act-returns-in-NextState t c =
    on_ok_weaker c.put_next.result (λ p. node_put c.args.part _ _ _ c.requires.ready c.stmt.ensures.item c.in-NextState.is p) c.put_next.ensures

-- ---- an If

pub put_if-lower_branches-requires : goal.put_if-lower_branches-requires
put_if-lower_branches-requires t c = (omega arith, (c.requires.ready, (c.requires.within, (c.requires.conds, c.requires.branches))))

pub put_if-lower_acts-requires : goal.put_if-lower_acts-requires
put_if-lower_acts-requires t c = (omega arith, (ready_kept c.in_ok-branches.ensures.grows c.requires.ready, (c.requires.within, c.requires.rest)))

pub put_if-returns-then-is_empty_if : goal.put_if-returns-then-is_empty_if
put_if-returns-then-is_empty_if t c =
    if_empty c.args.out.now c.is_empty_if.result c.requires.out (if_parts c.args.part c.args.branches.now c.args.rest.now c.requires.ready c.in_ok-branches.ensures c.in_ok-rest.ensures)
    (rw (c.as_slice.ensures, c.as_slice-2.ensures) at c.is_empty_if.ensures) c.if-is_empty_if.true

pub put_if-put_stmt-requires : goal.put_if-put_stmt-requires
put_if-put_stmt-requires t c =
    let parts = if_parts c.args.part c.args.branches.now c.args.rest.now c.requires.ready c.in_ok-branches.ensures c.in_ok-rest.ensures in
    record { node = if_can c.args.line parts; out = there_kept c.args.out.now parts.grows c.requires.out }

pub put_if-returns : goal.put_if-returns
put_if-returns t c =
    on_ok_weaker c.put_stmt.result
    (λ p. if_there c.args.line c.is_empty_if.result c.requires.out (if_parts c.args.part c.args.branches.now c.args.rest.now c.requires.ready c.in_ok-branches.ensures c.in_ok-rest.ensures)
    (rw (c.as_slice.ensures, c.as_slice-2.ensures) at c.is_empty_if.ensures) c.if-is_empty_if.false p)
    c.put_stmt.ensures

-- ---- a Case

pub put_case-lower_arms-requires : goal.put_case-lower_arms-requires
put_case-lower_arms-requires t c = (omega arith, (c.requires.ready, (c.requires.within, c.requires.arms)))

pub put_case-lower_acts-requires : goal.put_case-lower_acts-requires
put_case-lower_acts-requires t c = (omega arith, (ready_kept c.in_ok-arms.ensures.grows c.requires.ready, (c.requires.within, c.requires.rest)))

pub put_case-returns-then-is_empty_case : goal.put_case-returns-then-is_empty_case
put_case-returns-then-is_empty_case t c =
    case_empty _ c.args.out.now c.is_empty_case.result c.requires.out (case_parts c.args.part c.args.arms.now c.args.rest.now c.requires.ready c.in_ok-arms.ensures c.in_ok-rest.ensures)
    (rw (c.as_slice.ensures, c.as_slice-2.ensures) at c.is_empty_case.ensures) c.if-is_empty_case.true

pub put_case-put_stmt-requires : goal.put_case-put_stmt-requires
put_case-put_stmt-requires t c =
    let parts = case_parts c.args.part c.args.arms.now c.args.rest.now c.requires.ready c.in_ok-arms.ensures c.in_ok-rest.ensures in
    record { node = case_can c.args.on c.args.line c.requires.on parts; out = there_kept c.args.out.now parts.grows c.requires.out }

pub put_case-returns : goal.put_case-returns
put_case-returns t c =
    on_ok_weaker c.put_stmt.result
    (λ p. case_there c.args.on c.args.line c.is_empty_case.result c.requires.on c.requires.out (case_parts c.args.part c.args.arms.now c.args.rest.now c.requires.ready c.in_ok-arms.ensures c.in_ok-rest.ensures)
    (rw (c.as_slice.ensures, c.as_slice-2.ensures) at c.is_empty_case.ensures) c.if-is_empty_case.false p)
    c.put_stmt.ensures

-- ---- lists

pub lower_acts-loop-id-init : goal.lower_acts-loop-id-init
lower_acts-loop-id-init t c = rw c.new-list.ensures (some_start c.args.draft.now [] _ _ refl)

pub lower_acts-put_act-requires : goal.lower_acts-put_act-requires
lower_acts-put_act-requires t c =
    let z : FsmStmtId = record { place = 0; of = record {} } in
    let h : c.loop-id.id-index < length c.args.ids.now = omega arith in
    let l = id_below_at c.args.bound c.args.ids.now c.loop-id.id-index z c.requires.below h in
    (omega (arith, l), (ready_kept c.loop-id.invariant.grows c.requires.ready, (c.loop-id.invariant.there, omega (arith, l, c.requires.within))))

pub lower_acts-loop-id-preserved : goal.lower_acts-loop-id-preserved
lower_acts-loop-id-preserved t c = acts_next c.args.part c.args.ids.now c.loop-id.id-index _ (omega arith) c.requires.ready c.loop-id.invariant c.in_ok-put_act.ensures

pub lower_acts-returns : goal.lower_acts-returns
lower_acts-returns t c =
    put_all refl (some_done c.loop-id.invariant (ap (acts_of c.args.source.now c.args.part c.args.draft.now) (no_more c.args.ids.now c.loop-id.id-index (omega arith))) (λ driver. ap (λ (q : List FsmStmtId). acts_drive c.args.source.now c.args.part c.args.draft.now q driver) (no_more c.args.ids.now c.loop-id.id-index (omega arith))))

pub lower_branches-loop-branch-init : goal.lower_branches-loop-branch-init
lower_branches-loop-branch-init t c = rw c.new-list.ensures (branches_start c.args.draft.now _ _)

pub lower_branches-lower_acts-requires : goal.lower_branches-lower_acts-requires
lower_branches-lower_acts-requires t c =
    let h : c.loop-branch.branch-index < length c.args.branches.now = omega arith in (
      omega arith,
      (
        ready_kept c.loop-branch.invariant.grows c.requires.ready,
        (
          c.requires.within,
          rw (c.as_slice-body.ensures, c.branch-item.is) (body_at c.args.bound c.args.branches.now c.loop-branch.branch-index c.branch-item.result c.requires.below h),
        ),
      ),
    )

pub lower_branches-loop-branch-preserved : goal.lower_branches-loop-branch-preserved
lower_branches-loop-branch-preserved t c =
    rw c.in_ok-push.ensures.ok
    (branches_next_at c.args.part c.args.branches.now c.loop-branch.branch-index c.branch-item.result (omega arith) c.branch-item.is c.requires.ready c.requires.conds c.loop-branch.invariant
    (rw c.as_slice-body.ensures at c.in_ok-body.ensures))

pub lower_branches-returns : goal.lower_branches-returns
lower_branches-returns t c =
    branches_done c.loop-branch.invariant (ap (branches_of c.args.source.now c.args.part c.args.draft.now) (no_more c.args.branches.now c.loop-branch.branch-index (omega arith)))
    (λ driver. ap (λ (q : List FsmBranch). branches_drive c.args.source.now c.args.part c.args.draft.now q driver) (no_more c.args.branches.now c.loop-branch.branch-index (omega arith)))

pub lower_arms-loop-arm-init : goal.lower_arms-loop-arm-init
lower_arms-loop-arm-init t c = rw c.new-list.ensures (arms_start c.args.draft.now _ _)

pub lower_arms-lower_acts-requires : goal.lower_arms-lower_acts-requires
lower_arms-lower_acts-requires t c =
    let h : c.loop-arm.arm-index < length c.args.arms.now = omega arith in (
      omega arith,
      (
        ready_kept c.loop-arm.invariant.grows c.requires.ready,
        (
          c.requires.within,
          rw (c.as_slice-body.ensures, c.arm-item.is) (arm_body_at c.args.bound c.args.arms.now c.loop-arm.arm-index c.arm-item.result c.requires.below h),
        ),
      ),
    )

pub lower_arms-loop-arm-preserved : goal.lower_arms-loop-arm-preserved
lower_arms-loop-arm-preserved t c =
    let fits : FitsSigned w128 c.arm-item.result.key = search rules in
    rw (c.in_ok-push.ensures.ok, to_z-of_z w128 c.arm-item.result.key fits)
    (arms_next_at c.args.part c.args.arms.now c.loop-arm.arm-index c.arm-item.result (omega arith) c.arm-item.is c.requires.ready c.loop-arm.invariant (rw c.as_slice-body.ensures at c.in_ok-body.ensures))

pub lower_arms-returns : goal.lower_arms-returns
lower_arms-returns t c =
    arms_done c.loop-arm.invariant (ap (arms_of c.args.source.now c.args.part c.args.draft.now) (no_more c.args.arms.now c.loop-arm.arm-index (omega arith)))
    (λ driver. ap (λ (q : List FsmArm). arms_drive c.args.source.now c.args.part c.args.draft.now q driver) (no_more c.args.arms.now c.loop-arm.arm-index (omega arith)))
