use Rattle.std.proofs.Common.{arith, ◌∙◌}
use Rattle.lx_alloc.proofs.Legal.{wishes_of, legal_of}
use Rattle.lx_alloc.proofs.origins.place_regions.Goals as goal

pub fill-requires-clause-wishes : goal.fill-requires-clause-wishes
fill-requires-clause-wishes c = rw (c.deref_mut.ensures.value, c.in_ok-spots.ensures) (wishes_of c.args.wishes.now)

pub fill-requires-clause-legal : goal.fill-requires-clause-legal
fill-requires-clause-legal c = rw (c.deref_mut.ensures.value, c.in_ok-spots.ensures) (legal_of c.args.wishes.now c.requires.legal)
