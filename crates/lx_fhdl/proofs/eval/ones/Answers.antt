use Rattle.lx_fhdl.proofs.Machine.{ones_fit, ones_is}
use Rattle.lx_fhdl.proofs.eval.ones.Goals as goal

pub overflow_cast-result-2 : goal.overflow_cast-result-2
overflow_cast-result-2 c = ones_fit c.args.n c.requires

pub returns : goal.returns
returns c = ones_is c.args.n c.requires
