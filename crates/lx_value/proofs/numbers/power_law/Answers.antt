use Rattle.lx_value.proofs.NumberLawsShown.{powers_multiply}
use Rattle.lx_value.proofs.numbers.power_law.Goals as goal

pub returns : goal.returns
returns c = powers_multiply
