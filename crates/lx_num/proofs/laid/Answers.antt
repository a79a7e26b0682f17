use Rattle.lx_num.proofs.Machine.{laid_bound}
use Rattle.lx_num.proofs.laid.Goals as goal

pub returns-clause-bound : goal.returns-clause-bound
returns-clause-bound c = rw (c.power-above.ensures, c.power-unit.ensures) (laid_bound c.args.v c.args.low c.args.len c.args.x c.requires.within c.requires.end c.requires.part)
