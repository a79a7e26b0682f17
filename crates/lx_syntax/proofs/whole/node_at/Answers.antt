use Rattle.lx_syntax.proofs.Programming.{have_lines}
use Rattle.lx_syntax.proofs.whole.node_at.Goals as goal

pub line_of-line-requires-clause-lines : goal.line_of-line-requires-clause-lines
line_of-line-requires-clause-lines c = have_lines _ _ _ c.requires.nodes

pub expr-requires-clause-lines : goal.expr-requires-clause-lines
expr-requires-clause-lines c = have_lines _ _ _ c.requires.nodes
