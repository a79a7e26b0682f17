use Rattle.lx_description.proofs.Rows.{refused}
use Rattle.lx_description.proofs.laws.others_are_refused.Goals as goal

pub returns : goal.returns
returns c = refused
