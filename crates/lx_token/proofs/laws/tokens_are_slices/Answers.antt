use Rattle.lx_token.proofs.Slicing.{tokens-slices}
use Rattle.lx_token.proofs.laws.tokens_are_slices.Goals as goal

pub returns : goal.returns
returns c = tokens-slices
