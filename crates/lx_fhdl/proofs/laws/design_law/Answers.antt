use Rattle.lx_fhdl.proofs.Designs.{all_fit}
use Rattle.lx_fhdl.proofs.laws.design_law.Goals as goal

pub returns : goal.returns
returns c = all_fit
