use Rattle.std.proofs.Common.{◌≡◌, drop}
use Rattle.lx_description.specs.Below.{all_fsm_branches_below}
use Rattle.lx_description.proofs.fsms.branches_lower.Given as goal

abbrev pub invariant-loop-branch : goal.invariant-loop-branch
invariant-loop-branch l = all_fsm_branches_below l.n l.branches ≡ all_fsm_branches_below l.n (drop l.branch-index l.branches)
