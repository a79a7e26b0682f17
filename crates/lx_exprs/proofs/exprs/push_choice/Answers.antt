use Rattle.lx_exprs.proofs.Choices.{choice_added, choice_put}
use Rattle.lx_plain.proofs.Conditions.{term_put}
use Rattle.lx_exprs.proofs.exprs.push_choice.Goals as goal

pub push_expr-requires : goal.push_expr-requires
push_expr-requires c = choice_added _ _ _ _ _ _ c.keeps.ensures c.requires.both c.in_ok-cond.ensures

pub returns : goal.returns
returns c = choice_put _ _ _ _ _ _ _ _ c.requires.both c.in_ok-cond.ensures (term_put _ _ _ _ c.in_ok-id.ensures)
