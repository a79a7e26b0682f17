use Rattle.lx_top.proofs.Systems.{surveyed}
use Rattle.lx_top.proofs.making.refuse_system.Goals as goal

pub returns-in-Ok : goal.returns-in-Ok
returns-in-Ok c = surveyed c.args.description c.in-Ok.field-0 c.whole.result c.in-Ok.ensures c.whole.ensures
