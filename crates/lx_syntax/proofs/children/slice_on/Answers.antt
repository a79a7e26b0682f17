use Rattle.lx_syntax.proofs.Hanging.{both_many, low_no_slice}
use Rattle.lx_syntax.proofs.children.slice_on.Goals as goal

pub returns-in-Token : goal.returns-in-Token
returns-in-Token c = low_no_slice _ _ _ _ _ _ c.in-Token.ensures

pub returns-in-Token-head_of : goal.returns-in-Token-head_of
returns-in-Token-head_of c = both_many _ _ _ _ _ _ _ _ c.in-Node.ensures c.in-Token-head_of.ensures

pub returns-in-Node-head_of : goal.returns-in-Node-head_of
returns-in-Node-head_of c = both_many _ _ _ _ _ _ _ _ c.in-Node.ensures c.in-Node-head_of.ensures
