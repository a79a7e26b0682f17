use Rattle.std.proofs.lemmas.Result.{IfOk-weaker}
use Rattle.lx_syntax.proofs.Wording.{group_made, group_token, open_done, open_node, spell_made}
use Rattle.lx_syntax.proofs.exprs.atom_in.Goals as goal

pub returns-in-Done : goal.returns-in-Done
returns-in-Done c = open_done _ _ _ _ _ _ c.in-Done.ensures

pub returns-in-Node : goal.returns-in-Node
returns-in-Node c = open_node _ _ _ _ _ _ _ _ c.in-Node.ensures

pub returns-in-Done-head_of : goal.returns-in-Done-head_of
returns-in-Done-head_of c = IfOk-weaker c.grouped.result _ _ (λ made is. group_made _ _ _ _ _ c.args.inner _ _ made c.in-Token.ensures c.in-Done-head_of.ensures is) c.grouped.ensures

pub returns-in-Token-head_of : goal.returns-in-Token-head_of
returns-in-Token-head_of c = group_token _ _ _ _ _ _ _ _ _ _ c.in-Token.ensures c.in-Token-head_of.ensures

pub returns-in-Node-head_of : goal.returns-in-Node-head_of
returns-in-Node-head_of c = IfOk-weaker c.spelled.result _ _ (λ made is. spell_made _ _ _ _ _ c.args.inner c.in-Node-head_of.second _ _ _ made c.in-Token.ensures c.in-Node-head_of.ensures is) c.spelled.ensures
