use Rattle.lx_tie.proofs.Words.{word_exact}
use Rattle.lx_tie.proofs.word_law.Goals as goal

pub returns : goal.returns
returns c = word_exact
