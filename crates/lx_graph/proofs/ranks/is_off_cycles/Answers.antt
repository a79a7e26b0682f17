use Rattle.std.proofs.lemmas.Bool.{OnTrue_at}
use Rattle.lx_graph.proofs.Ranking.{told_off}
use Rattle.lx_graph.proofs.ranks.is_off_cycles.Goals as goal

pub returns-then-ranks : goal.returns-then-ranks
returns-then-ranks c =
    told_off c.args.graph.now c.args.ranks.now.values.items c.args.node c.all_rise.result (OnTrue_at c.if-ranks.true c.requires.ranks.hold)
    (rw c.as_slice.ensures.value at c.all_rise.ensures)
