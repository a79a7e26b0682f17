use Rattle.lx_value.proofs.NumberLawsShown.{division_rounds_down}
use Rattle.lx_value.proofs.numbers.division_law.Goals as goal

pub returns : goal.returns
returns c = division_rounds_down
