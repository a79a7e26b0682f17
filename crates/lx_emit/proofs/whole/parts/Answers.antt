use Rattle.lx_emit.proofs.Emitted.{parts_are}
use Rattle.lx_emit.proofs.whole.parts.Goals as goal

pub returns : goal.returns
returns c = parts_are _ _ _ _ _ _ _ _ _ _ c.in_ok-ports.ensures c.in_ok-decls.ensures c.in_ok-inits.ensures c.in_ok-assigns.ensures c.in_ok-always.ensures
