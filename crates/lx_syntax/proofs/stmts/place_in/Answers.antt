use Rattle.lx_syntax.proofs.Simply.{place_more}
use Rattle.lx_syntax.proofs.stmts.place_in.Goals as goal

pub returns-in-Token-head_of : goal.returns-in-Token-head_of
returns-in-Token-head_of c = place_more _ _ _ _ _ c.in-Token.ensures c.in-Token-head_of.ensures

pub returns-in-Node-head_of : goal.returns-in-Node-head_of
returns-in-Node-head_of c = place_more _ _ _ _ _ c.in-Token.ensures c.in-Node-head_of.ensures
