use Rattle.lx_token.proofs.Rising.{tokens-rise}
use Rattle.lx_token.proofs.laws.tokens_rise.Goals as goal

pub returns : goal.returns
returns c = tokens-rise
