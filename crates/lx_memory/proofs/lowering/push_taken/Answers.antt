use Rattle.lx_memory.proofs.Shown.{taken_put}
use Rattle.lx_memory.proofs.lowering.push_taken.Goals as goal

pub returns-in_ok-id-in-Some : goal.returns-in_ok-id-in-Some
returns-in_ok-id-in-Some c = taken_put {stmt = c.in_ok-taken.taken} c.in-Some.is c.in_ok-taken.ensures c.in_ok-id-in-Some.ensures
