use Rattle.lx_pytree.proofs.Moves.{started}
use Rattle.lx_pytree.proofs.reading.run.Goals as goal

pub steps-init : goal.steps-init
steps-init c = started _ _ c.in-Ok.ensures
