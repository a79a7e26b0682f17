use Rattle.lx_fhdl.proofs.Resets.{resets_differ}
use Rattle.lx_fhdl.proofs.laws.resets_law.Goals as goal

pub returns : goal.returns
returns c = resets_differ
