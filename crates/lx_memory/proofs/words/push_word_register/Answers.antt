use Rattle.lx_memory.proofs.Fetching.{word_narrow}
use Rattle.lx_memory.proofs.words.push_word_register.Goals as goal

pub push_register-requires-clause-some : goal.push_register-requires-clause-some
push_register-requires-clause-some c = rw c.word_shape-shape.ensures (word_narrow _ _ c.keeps.ensures c.requires).0

pub push_register-requires-clause-most : goal.push_register-requires-clause-most
push_register-requires-clause-most c = rw c.word_shape-shape.ensures (word_narrow _ _ c.keeps.ensures c.requires).1
