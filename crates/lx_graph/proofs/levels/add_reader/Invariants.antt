use Rattle.lx_graph.specs.Levels.{ArePartly}
use Rattle.lx_graph.proofs.levels.add_reader.Given as goal

abbrev pub invariant-loop-read : goal.invariant-loop-read
invariant-loop-read l = ArePartly l.graph l.node l.read-index l.readers.items
