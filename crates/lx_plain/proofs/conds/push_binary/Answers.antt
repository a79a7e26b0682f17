use Rattle.lx_plain.proofs.Conditions.{binary_added, term_put}
use Rattle.lx_plain.proofs.conds.push_binary.Goals as goal

pub push_expr-requires : goal.push_expr-requires
push_expr-requires c = binary_added _ _ _ _ c.keeps.ensures c.requires

pub returns : goal.returns
returns c = term_put _ _ _ _ c.in_ok-id.ensures
