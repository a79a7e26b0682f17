use Rattle.std.proofs.Common.{◌≡◌, drop, nat_lt}
use Rattle.std.specs.List.{list_all}
use Rattle.lx_description.specs.declared.fsms.FsmBranch.{FsmBranch}
use Rattle.lx_fsm_kept.proofs.kept.branches_stand.Given as goal

abbrev pub invariant-loop-branch : goal.invariant-loop-branch
invariant-loop-branch l = list_all (λ (b : FsmBranch). nat_lt b.cond.place l.exprs) (drop l.branch-index l.branches) ≡ list_all (λ (b : FsmBranch). nat_lt b.cond.place l.exprs) l.branches
