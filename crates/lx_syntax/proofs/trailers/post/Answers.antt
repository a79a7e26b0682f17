use Rattle.lx_syntax.proofs.Trailing.{post_done, post_made, post_token}
use Rattle.lx_syntax.proofs.trailers.post.Goals as goal

pub returns-in-Done : goal.returns-in-Done
returns-in-Done c = post_done _ _ _ _ c.in-Done.ensures

pub returns-in-Token : goal.returns-in-Token
returns-in-Token c = post_token _ _ _ _ _ _ c.in-Token.ensures

pub returns-in_ok-trailers_of-in-Node : goal.returns-in_ok-trailers_of-in-Node
returns-in_ok-trailers_of-in-Node c = post_made _ _ _ _ _ _ _ c.in-Node.ensures c.requires.low c.in_ok-trailers_of-in-Node.ensures
