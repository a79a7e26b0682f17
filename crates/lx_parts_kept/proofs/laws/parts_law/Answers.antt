use Rattle.lx_parts_kept.proofs.Sound.{parts_law}
use Rattle.lx_parts_kept.proofs.laws.parts_law.Goals as goal

pub returns : goal.returns
returns c = parts_law
