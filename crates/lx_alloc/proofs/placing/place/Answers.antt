use Rattle.lx_alloc.proofs.Tells.{tells}
use Rattle.lx_alloc.proofs.placing.place.Goals as goal

pub returns-clause-exhausted : goal.returns-clause-exhausted
returns-clause-exhausted c fixed short = tells c.args.w.now _ c.placed.ensures fixed short
