use Rattle.lx_graph.proofs.Readers.{row_below, row_nodes}
use Rattle.lx_graph.proofs.Ahead.{first_inner, first_or}
use Rattle.lx_graph.proofs.cycle.first_of.Goals as goal

pub earliest-requires-clause-levels : goal.earliest-requires-clause-levels
earliest-requires-clause-levels c =
    rw (c.row-reads.ensures, c.as_slice-values.ensures.value) (row_nodes c.args.graph.now c.args.node _ c.holds.ensures c.requires.levels.1.size)

pub earliest-requires-clause-firsts : goal.earliest-requires-clause-firsts
earliest-requires-clause-firsts c =
    rw (c.row-reads.ensures, c.requires.size) (row_below c.args.graph.now c.args.node c.holds.ensures c.requires.inner)

pub returns-in-Some : goal.returns-in-Some
returns-in-Some c =
    first_inner c.args.graph.now c.args.levels.now.target c.args.levels.now.values.items c.args.firsts.now c.args.node c.args.level c.in-Some.first
    c.holds.ensures c.requires.levels.1 c.requires.inner c.requires.level c.requires.firsts
    (rw (c.row-reads.ensures, c.as_slice-values.ensures.value) at c.in-Some.ensures)

pub returns-in-None : goal.returns-in-None
returns-in-None c =
    first_or c.args.graph.now c.args.levels.now.target c.args.levels.now.values.items c.args.firsts.now c.args.node c.args.level c.args.node
    c.requires.levels.1 c.requires.inner c.requires.level
    (rw (c.row-reads.ensures, c.as_slice-values.ensures.value) at c.in-None.ensures)
