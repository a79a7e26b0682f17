use Rattle.lx_graph.proofs.Readers.{row_nodes}
use Rattle.lx_graph.proofs.Ahead.{next_is, next_or}
use Rattle.lx_graph.proofs.cycle.next_node.Goals as goal

pub earliest-requires-clause-levels : goal.earliest-requires-clause-levels
earliest-requires-clause-levels c =
    rw (c.row-reads.ensures, c.as_slice-values.ensures.value) (row_nodes c.args.graph.now c.args.node _ c.holds.ensures c.requires.levels.1.size)

pub earliest-requires-clause-firsts : goal.earliest-requires-clause-firsts
earliest-requires-clause-firsts c =
    rw c.row-reads.ensures (row_nodes c.args.graph.now c.args.node _ c.holds.ensures c.requires.firsts.size)

pub returns-in-Some : goal.returns-in-Some
returns-in-Some c =
    next_is c.args.graph.now c.args.levels.now c.args.firsts.now c.args.node c.args.level c.in-Some.next c.holds.ensures c.requires.levels c.requires.plain c.requires.firsts
    c.requires.least (rw (c.row-reads.ensures, c.as_slice-values.ensures.value) at c.in-Some.ensures)

pub returns-in-None : goal.returns-in-None
returns-in-None c =
    next_or c.args.graph.now c.args.levels.now c.args.firsts.now c.args.node c.args.level _ c.requires.least
    (rw (c.row-reads.ensures, c.as_slice-values.ensures.value) at c.in-None.ensures)
