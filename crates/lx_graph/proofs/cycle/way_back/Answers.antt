use Rattle.std.proofs.Common.{◌≡◌, suc, ◌-◌, arith}
use Rattle.lx_graph.proofs.Back.{back_begun, back_on, back_done}
use Rattle.lx_graph.proofs.cycle.way_back.Goals as goal

pub loop-level-init : goal.loop-level-init
loop-level-init c =
    back_begun c.args.graph.now c.args.levels.now.target c.args.levels.now.values.items c.args.least _ c.requires.levels.0 c.requires.least c.in_ok-cycle.ensures

pub next_node-next-requires-clause-plain : goal.next_node-next-requires-clause-plain
next_node-next-requires-clause-plain c = c.loop-level.invariant.plain

pub next_node-next-requires-clause-least : goal.next_node-next-requires-clause-least
next_node-next-requires-clause-least c = c.loop-level.invariant.least

pub loop-level-preserved : goal.loop-level-preserved
loop-level-preserved c =
    let e : c.loop-level.level ≡ suc (c.loop-level.level - 1) = omega arith in
    rw c.in_ok-push.ensures.ok
    (back_on c.args.graph.now c.args.levels.now.target c.args.levels.now.values.items c.args.least c.loop-level.cycle c.loop-level.node c.loop-level.level c.next_node-next.result (c.loop-level.level - 1)
    c.requires.levels.1 c.loop-level.invariant e c.next_node-next.ensures.link c.next_node-next.ensures.at)

pub returns : goal.returns
returns c =
    back_done c.args.graph.now c.args.levels.now.target c.args.levels.now.values.items c.args.least c.loop-level.cycle c.loop-level.node c.loop-level.level
    c.requires.levels.1 c.requires.levels.0 c.requires.least c.requires.first c.loop-level.invariant (omega arith)
