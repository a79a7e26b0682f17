use Rattle.lx_machine.proofs.Numbers.{laid_word, laid_rest_below, laid_rest_above}
use Rattle.lx_machine.proofs.laws.laid_law.Goals as goal

pub returns : goal.returns
returns c = record { word = laid_word; below = laid_rest_below; above = laid_rest_above }
