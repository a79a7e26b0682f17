use Rattle.lx_syntax.proofs.Hanging.{high_many, no_slice}
use Rattle.lx_syntax.proofs.children.slice_behind.Goals as goal

pub returns-in-Token : goal.returns-in-Token
returns-in-Token c = no_slice _ _ _ _ _ c.in-Token.ensures

pub returns-in-Token-head_of : goal.returns-in-Token-head_of
returns-in-Token-head_of c = high_many _ _ _ _ _ _ _ c.in-Node.ensures c.in-Token-head_of.ensures

pub returns-in-Node-head_of : goal.returns-in-Node-head_of
returns-in-Node-head_of c = high_many _ _ _ _ _ _ _ c.in-Node.ensures c.in-Node-head_of.ensures
