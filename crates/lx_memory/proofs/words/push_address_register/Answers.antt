use Rattle.lx_memory.proofs.Fetching.{signal_narrow}
use Rattle.lx_memory.proofs.words.push_address_register.Goals as goal

pub push_register-requires-clause-some : goal.push_register-requires-clause-some
push_register-requires-clause-some c = rw c.shape_of-shape.ensures (signal_narrow _ _ c.keeps.ensures c.requires).0

pub push_register-requires-clause-most : goal.push_register-requires-clause-most
push_register-requires-clause-most c = rw c.shape_of-shape.ensures (signal_narrow _ _ c.keeps.ensures c.requires).1
