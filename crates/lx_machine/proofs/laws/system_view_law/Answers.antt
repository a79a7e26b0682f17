use Rattle.lx_machine.proofs.Views.{viewed_once}
use Rattle.lx_machine.proofs.laws.system_view_law.Goals as goal

pub returns : goal.returns
returns c = viewed_once
