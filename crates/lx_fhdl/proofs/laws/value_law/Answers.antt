use Rattle.lx_fhdl.proofs.Meanings.{values_stand}
use Rattle.lx_fhdl.proofs.laws.value_law.Goals as goal

pub returns : goal.returns
returns c = values_stand
