use Rattle.lx_graph.proofs.Waves.{begun}
use Rattle.lx_graph.proofs.levels.begin.Goals as goal

pub returns-clause-spreads : goal.returns-clause-spreads
returns-clause-spreads c =
    rw (c.in_ok-levels.ensures, c.in_ok-of_one.ensures, c.new.ensures) (begun c.args.graph.now c.args.target _ c.holds.ensures c.requires c.len.ensures)
