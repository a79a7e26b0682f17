use Rattle.lx_fhdl.specs.Designs.{memory_of}
use Rattle.lx_sim.specs.Writing.{AreFirstOf}
use Rattle.lx_sim.proofs.words.first_words.Given as goal

abbrev pub invariant-loop-k : goal.invariant-loop-k
invariant-loop-k l = AreFirstOf (memory_of l.memory) l.k l.words
