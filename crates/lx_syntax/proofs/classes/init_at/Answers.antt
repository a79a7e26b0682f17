use Rattle.lx_syntax.proofs.Classing.{init_made, init_other}
use Rattle.lx_syntax.proofs.classes.init_at.Goals as goal

pub returns-in_ok-body-in-Init : goal.returns-in_ok-body-in-Init
returns-in_ok-body-in-Init c = init_made _ _ _ _ _ _ _ c.node-node.ensures.tree c.node-node.ensures.below c.requires.line c.in-Init.is (rw c.as_slice-parts.ensures at c.in_ok-params-in-Init.ensures) (rw c.as_slice-parts.ensures at c.in_ok-body-in-Init.ensures)

pub returns-in_default : goal.returns-in_default
returns-in_default c = init_other _ _ _ _ _ _ _ c.node-node.ensures.tree c.requires.line c.in_default.not-Init c.new-params.ensures c.new-body.ensures
