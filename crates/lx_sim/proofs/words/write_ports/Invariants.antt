use Rattle.lx_fhdl.specs.Designs.{circuit_of}
use Rattle.lx_sim.specs.Writing.{WritesFrom}
use Rattle.lx_sim.proofs.words.write_ports.Given as goal

abbrev pub invariant-loop-place : goal.invariant-loop-place
invariant-loop-place l = WritesFrom l.plan.design (circuit_of l.plan.design).ports l.place l.rises l.vals l.initial.words l.words
