use Rattle.lx_parts_kept.proofs.Rows.{tested}
use Rattle.lx_parts_kept.proofs.laws.parts_are_tested.Goals as goal

pub returns : goal.returns
returns c = tested
