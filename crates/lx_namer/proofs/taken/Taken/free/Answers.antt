use Rattle.lx_namer.proofs.Free.{free_is}
use Rattle.lx_namer.proofs.taken.Taken.free.Goals as goal

pub returns-clause-is : goal.returns-clause-is
returns-clause-is c = free_is _ _ _ _ c.in_ok-found.ensures.first
