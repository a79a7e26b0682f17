use Rattle.lx_syntax.proofs.Programming.{have_lines, is_program}
use Rattle.lx_syntax.proofs.whole.syntax_of.Goals as goal

pub classes_of-requires-clause-lines : goal.classes_of-requires-clause-lines
classes_of-requires-clause-lines c = have_lines _ _ _ c.in_ok-nodes.ensures.nodes

pub invariant_of-result : goal.invariant_of-result
invariant_of-result c = is_program _ _ _ _ _ _ c.in_ok-nodes.ensures.nodes c.in_ok-classes.ensures
