use Rattle.std.proofs.Common.{◌+◌, ◌*◌, [], drop}
use Rattle.lx_fsm.proofs.Lowered.{acts_drive, acts_of, arms_drive, arms_of, branches_drive, branches_of}
use Rattle.lx_fsm.proofs.Puts.{ArmsSome, BranchesSome, PutSome}
use Rattle.lx_fsm.proofs.states.+put.Given as goal

abbrev pub decreases-put_act : goal.decreases-put_act
decreases-put_act l = 4 * l.id.place + 3

abbrev pub decreases-put_if : goal.decreases-put_if
decreases-put_if l = 4 * l.bound + 2

abbrev pub decreases-put_case : goal.decreases-put_case
decreases-put_case l = 4 * l.bound + 2

abbrev pub decreases-lower_acts : goal.decreases-lower_acts
decreases-lower_acts l = 4 * l.bound

abbrev pub decreases-lower_branches : goal.decreases-lower_branches
decreases-lower_branches l = 4 * l.bound + 1

abbrev pub decreases-lower_arms : goal.decreases-lower_arms
decreases-lower_arms l = 4 * l.bound + 1

abbrev pub invariant-lower_acts-loop-id : goal.invariant-lower_acts-loop-id
invariant-lower_acts-loop-id l =
    PutSome l.initial.draft l.draft [] l.list (acts_of l.source l.part l.initial.draft l.ids) (acts_of l.source l.part l.initial.draft (drop l.id-index l.ids))
    (acts_drive l.source l.part l.initial.draft l.ids) (acts_drive l.source l.part l.initial.draft (drop l.id-index l.ids))

abbrev pub invariant-lower_branches-loop-branch : goal.invariant-lower_branches-loop-branch
invariant-lower_branches-loop-branch l =
    BranchesSome l.initial.draft l.draft l.list (branches_of l.source l.part l.initial.draft l.branches) (branches_of l.source l.part l.initial.draft (drop l.branch-index l.branches))
    (branches_drive l.source l.part l.initial.draft l.branches) (branches_drive l.source l.part l.initial.draft (drop l.branch-index l.branches))

abbrev pub invariant-lower_arms-loop-arm : goal.invariant-lower_arms-loop-arm
invariant-lower_arms-loop-arm l =
    ArmsSome l.initial.draft l.draft l.list (arms_of l.source l.part l.initial.draft l.arms) (arms_of l.source l.part l.initial.draft (drop l.arm-index l.arms))
    (arms_drive l.source l.part l.initial.draft l.arms) (arms_drive l.source l.part l.initial.draft (drop l.arm-index l.arms))
