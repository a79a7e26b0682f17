use Rattle.lx_syntax.proofs.Trailing.{behind_token}
use Rattle.lx_syntax.proofs.trailers.front_behind.Goals as goal

pub returns-in-Token : goal.returns-in-Token
returns-in-Token c = behind_token _ _ _ c.in-Token.rest c.in-Token.ensures
