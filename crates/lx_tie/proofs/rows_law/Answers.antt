use Rattle.lx_tie.proofs.AllRows.{all_rows}
use Rattle.lx_tie.proofs.rows_law.Goals as goal

pub returns : goal.returns
returns c = all_rows
