use Rattle.lx_formed.proofs.Leading.{formed}
use Rattle.lx_formed.proofs.laws.forms_law.Goals as goal

pub returns : goal.returns
returns c = λ src tokens t h. formed src tokens t h
