use Rattle.std.proofs.Common.{sym, ap}
use Rattle.lx_num.specs.Ints.{unsigned}
use Rattle.lx_circuit.specs.Memories.{Memory}
use Rattle.lx_memory.proofs.Fetching.{memory_is}
use Rattle.lx_memory.proofs.words.word_shape.Goals as goal

pub returns : goal.returns
returns c = sym (ap (λ (y : Memory). unsigned y.width) (memory_is _ _ _ (rw c.design.ensures.is at c.at.ensures)))
