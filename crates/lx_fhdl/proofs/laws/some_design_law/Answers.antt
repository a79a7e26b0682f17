use Rattle.lx_fhdl.proofs.Instance.{keeps}
use Rattle.lx_fhdl.proofs.laws.some_design_law.Goals as goal

pub returns : goal.returns
returns c = keeps
