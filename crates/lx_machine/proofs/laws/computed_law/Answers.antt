use Rattle.lx_machine.proofs.Settle.{computed}
use Rattle.lx_machine.proofs.laws.computed_law.Goals as goal

pub returns : goal.returns
returns c = computed
