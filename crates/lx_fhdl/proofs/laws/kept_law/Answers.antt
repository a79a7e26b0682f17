use Rattle.lx_fhdl.proofs.Kept.{is_kept-is}
use Rattle.lx_fhdl.proofs.laws.kept_law.Goals as goal

pub returns : goal.returns
returns c = is_kept-is
