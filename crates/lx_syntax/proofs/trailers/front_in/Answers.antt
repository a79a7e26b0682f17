use Rattle.lx_syntax.proofs.Trailing.{in_node, in_token}
use Rattle.lx_syntax.proofs.trailers.front_in.Goals as goal

pub returns-in-Node : goal.returns-in-Node
returns-in-Node c = in_node _ _ _ _ _ c.in-Node.ensures

pub returns-in-Token : goal.returns-in-Token
returns-in-Token c = in_token _ _ _ _ c.in-Token.rest c.in-Token.ensures
