use Rattle.std.proofs.Common.{◌≡◌, drop, nat_lt}
use Rattle.std.specs.List.{list_all}
use Rattle.lx_fhdl.specs.declared.stmts.Branch.{Branch}
use Rattle.lx_shaped.proofs.standing.conds_stand.Given as goal

abbrev pub invariant-loop-branch : goal.invariant-loop-branch
invariant-loop-branch l = list_all (λ (b : Branch). nat_lt b.cond.place l.exprs) l.branches ≡ list_all (λ (b : Branch). nat_lt b.cond.place l.exprs) (drop l.branch-index l.branches)
