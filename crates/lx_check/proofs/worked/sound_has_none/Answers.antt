use Rattle.lx_check.proofs.Sound.{sound_has_none}
use Rattle.lx_check.proofs.worked.sound_has_none.Goals as goal

pub returns : goal.returns
returns c = λ d f s h. sound_has_none d f s h
