use Rattle.lx_vtext.proofs.ModuleAgain.{module_of_again}
use Rattle.lx_vtext.proofs.ModuleTakes.{reading_is_text}
use Rattle.lx_vtext.proofs.laws.one_reading_law.Goals as goal

pub returns-clause-again : goal.returns-clause-again
returns-clause-again c = module_of_again

pub returns-clause-text : goal.returns-clause-text
returns-clause-text c = reading_is_text
