use Rattle.std.proofs.Common.{ℕ, subst}
use Rattle.lx_graph.specs.Levels.{AreLevels}
use Rattle.lx_graph.proofs.Readers.{row_nodes}
use Rattle.lx_graph.proofs.Ahead.{no_way}
use Rattle.lx_graph.proofs.cycle.cycle_from.Goals as goal

pub least_level-requires : goal.least_level-requires
least_level-requires c =
    rw (c.row-reads.ensures, c.as_slice-values.ensures.value) (row_nodes c.args.graph.now c.args.target _ c.holds.ensures c.in_ok-levels.ensures.levels.1.size)

pub returns-in-None : goal.returns-in-None
returns-in-None c =
    no_way c.args.graph.now c.args.target c.in_ok-levels.levels.values.items
    (subst (λ (v : ℕ). AreLevels c.args.graph.now v c.in_ok-levels.levels.values.items) c.in_ok-levels.ensures.target c.in_ok-levels.ensures.levels.1)
    (rw (c.row-reads.ensures, c.as_slice-values.ensures.value) at c.in-None.ensures)

pub way_back-requires-clause-first : goal.way_back-requires-clause-first
way_back-requires-clause-first c = rw c.in_ok-levels.ensures.target c.requires.first
