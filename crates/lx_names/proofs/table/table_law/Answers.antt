use Rattle.lx_names.proofs.Changes.{table_holds}
use Rattle.lx_names.proofs.table.table_law.Goals as goal

pub returns : goal.returns
returns g c = table_holds _
