use Rattle.lx_sim.specs.Words.{AreWithoutWords}
use Rattle.lx_sim.proofs.masks.exprs_without_words.Given as goal

abbrev pub invariant-loop-place : goal.invariant-loop-place
invariant-loop-place l = AreWithoutWords l.exprs l.place l.list
