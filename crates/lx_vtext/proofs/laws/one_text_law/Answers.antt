use Rattle.lx_vtext.proofs.ModuleAgain.{one_module}
use Rattle.lx_vtext.proofs.laws.one_text_law.Goals as goal

pub returns : goal.returns
returns c = one_module
