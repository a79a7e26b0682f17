use Rattle.lx_description.proofs.PlainModule.{plain_rows}
use Rattle.lx_description.proofs.laws.plain_modules_are_worked.Goals as goal

pub returns : goal.returns
returns c = plain_rows
