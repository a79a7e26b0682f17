use Rattle.lx_num.proofs.Machine.{length_is}
use Rattle.lx_num.proofs.length.Goals as goal

pub returns-clause-enough : goal.returns-clause-enough
returns-clause-enough c = (length_is c.args.v c.requires).0

pub returns-clause-fewest : goal.returns-clause-fewest
returns-clause-fewest c = (length_is c.args.v c.requires).1

pub returns-clause-most : goal.returns-clause-most
returns-clause-most c = (length_is c.args.v c.requires).2
