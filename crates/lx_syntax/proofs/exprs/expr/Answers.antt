use Rattle.std.proofs.Common.{◌∙◌, sym}
use Rattle.lx_syntax.proofs.Flats.{line_is}
use Rattle.lx_syntax.proofs.exprs.expr.Goals as goal

pub choice-requires-clause-begin : goal.choice-requires-clause-begin
choice-requires-clause-begin c = rw c.as_slice-parts.ensures (c.requires.begin ∙ sym (line_is _ _ _ c.node-node.ensures.tree))
