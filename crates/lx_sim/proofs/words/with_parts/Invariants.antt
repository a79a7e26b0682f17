use Rattle.std.proofs.Common.{◌≡◌, ℕ}
use Rattle.std.specs.Prelude.{pos}
use Rattle.lx_circuit.specs.Memories.{laid_parts}
use Rattle.lx_sim.specs.Blocks.{IsPattern}
use Rattle.lx_sim.proofs.words.with_parts.Given as goal

abbrev pub invariant-loop-i : goal.invariant-loop-i
invariant-loop-i l = IsPattern l.now × ((p : ℕ) → l.pattern ≡ pos p → l.now ≡ pos (laid_parts l.put.part l.put.we l.put.from p l.i))
