use Rattle.lx_top.proofs.OneText.{one_text}
use Rattle.lx_top.proofs.laws.one_text_law.Goals as goal

pub returns : goal.returns
returns c = one_text
