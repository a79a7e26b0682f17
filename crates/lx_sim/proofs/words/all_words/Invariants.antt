use Rattle.lx_sim.specs.Writing.{AreFirstWords}
use Rattle.lx_sim.proofs.words.all_words.Given as goal

abbrev pub invariant-loop-m : goal.invariant-loop-m
invariant-loop-m l = AreFirstWords l.plan.design l.m l.words.items
