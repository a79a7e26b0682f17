use Rattle.std.proofs.Common.{sym, arith}
use Rattle.std.proofs.lemmas.List.{take_more}
use Rattle.lx_graph.specs.Levels.{level_of}
use Rattle.lx_graph.proofs.Ahead.{found_none, found_more}
use Rattle.lx_graph.proofs.cycle.least_level.Goals as goal

pub loop-node-init : goal.loop-node-init
loop-node-init c = found_none (level_of c.args.levels.now)

pub level_at-requires : goal.level_at-requires
level_at-requires c = c.requires c.loop-node.node-index 0 (omega arith)

pub loop-node-preserved : goal.loop-node-preserved
loop-node-preserved c =
    rw (take_more c.args.nodes.now c.loop-node.node-index 0 (omega arith), c.lower-least.ensures)
    (found_more (level_of c.args.levels.now) _ _ _ _ c.loop-node.invariant (sym c.level_at.ensures))
