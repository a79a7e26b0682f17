use Rattle.lx_syntax.proofs.Blocking.{arms_else, arms_end, arms_more, arms_none}
use Rattle.lx_syntax.proofs.stmts.if_.Goals as goal

pub branches-init : goal.branches-init
branches-init c = arms_none _ _ _ _ c.requires.low c.new-branches.ensures

pub branches-preserved : goal.branches-preserved
branches-preserved c = arms_more _ _ _ _ _ _ _ _ _ c.branches.invariant c.in-Branch.ensures c.in_ok-put-in-Branch.ensures

pub returns-in-Else : goal.returns-in-Else
returns-in-Else c = arms_else _ _ _ _ _ _ _ c.branches.invariant c.in-Else.ensures c.in_ok-rest-in-Else.ensures

pub returns-in-End : goal.returns-in-End
returns-in-End c = arms_end _ _ _ _ _ _ c.branches.invariant c.in-End.ensures c.new-rest.ensures
