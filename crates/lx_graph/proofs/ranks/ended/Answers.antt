use Rattle.lx_graph.proofs.Ranking.{wander_begun}
use Rattle.lx_graph.proofs.ranks.ended.Goals as goal

pub loop-root-init : goal.loop-root-init
loop-root-init c = rw (c.in_ok-marks.ensures, c.new.ensures.items, c.new-2.ensures) (wander_begun c.args.graph.now _ c.len.ensures)
