use Rattle.std.proofs.Common.{◌≡◌, ◌+◌, ◌*◌, [], take}
use Rattle.std.specs.Prelude.{flat_map}
use Rattle.lx_fhdl.specs.declared.design.Design.{Design}
use Rattle.lx_description.specs.Below.{FsmStmtId}
use Rattle.lx_description.specs.declared.fsms.FsmArm.{FsmArm}
use Rattle.lx_description.specs.declared.fsms.FsmBranch.{FsmBranch}
use Rattle.lx_fsm.specs.Actions.{named}
use Rattle.lx_fsm.specs.Decls.{act}
use Rattle.lx_fsm.specs.Lowers.{unknown_in, unknown_in_acts}
use Rattle.lx_fsm.proofs.checks.+check.Given as goal

abbrev pub decreases-check_act : goal.decreases-check_act
decreases-check_act l = 4 * l.id.place + 3

abbrev pub decreases-check_if : goal.decreases-check_if
decreases-check_if l = 4 * l.bound + 2

abbrev pub decreases-check_case : goal.decreases-check_case
decreases-check_case l = 4 * l.bound + 2

abbrev pub decreases-check_acts : goal.decreases-check_acts
decreases-check_acts l = 4 * l.bound

abbrev pub decreases-check_branches : goal.decreases-check_branches
decreases-check_branches l = 4 * l.bound + 1

abbrev pub decreases-check_arms : goal.decreases-check_arms
decreases-check_arms l = 4 * l.bound + 1

abbrev pub invariant-check_acts-loop-id : goal.invariant-check_acts-loop-id
invariant-check_acts-loop-id l = (d : Design) → flat_map (λ (i : FsmStmtId). unknown_in l.fsm (named (act d l.stmts i.place))) (take l.id-index l.ids) ≡ []

abbrev pub invariant-check_branches-loop-branch : goal.invariant-check_branches-loop-branch
invariant-check_branches-loop-branch l = (d : Design) → flat_map (λ (b : FsmBranch). unknown_in_acts d l.fsm l.stmts b.body) (take l.branch-index l.branches) ≡ []

abbrev pub invariant-check_arms-loop-arm : goal.invariant-check_arms-loop-arm
invariant-check_arms-loop-arm l = (d : Design) → flat_map (λ (a : FsmArm). unknown_in_acts d l.fsm l.stmts a.body) (take l.arm-index l.arms) ≡ []
