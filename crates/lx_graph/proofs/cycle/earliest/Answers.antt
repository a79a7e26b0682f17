use Rattle.std.proofs.Common.{sym, arith}
use Rattle.std.proofs.lemmas.List.{take_more}
use Rattle.lx_graph.specs.Levels.{first_at}
use Rattle.lx_graph.proofs.Ahead.{found_none, found_more}
use Rattle.lx_graph.proofs.cycle.earliest.Goals as goal

pub loop-node-init : goal.loop-node-init
loop-node-init c = found_none (first_at c.args.levels.now c.args.firsts.now c.args.level)

pub first_at-requires-clause-level : goal.first_at-requires-clause-level
first_at-requires-clause-level c = c.requires.levels c.loop-node.node-index 0 (omega arith)

pub first_at-requires-clause-first : goal.first_at-requires-clause-first
first_at-requires-clause-first c = c.requires.firsts c.loop-node.node-index 0 (omega arith)

pub loop-node-preserved : goal.loop-node-preserved
loop-node-preserved c =
    rw (take_more c.args.nodes.now c.loop-node.node-index 0 (omega arith), c.lower-found.ensures)
    (found_more (first_at c.args.levels.now c.args.firsts.now c.args.level) _ _ _ _ c.loop-node.invariant (sym c.first_at.ensures))
