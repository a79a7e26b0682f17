use Rattle.lx_vtree.proofs.Placed.{exact_test}
use Rattle.lx_vtree.proofs.places.are_placed.Goals as goal

pub returns : goal.returns
returns c = exact_test c.args.parts.now c.places_hold.result c.places_hold.ensures
