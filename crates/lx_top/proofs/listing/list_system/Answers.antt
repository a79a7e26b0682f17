use Rattle.lx_top.proofs.Listings.{system_listed}
use Rattle.lx_top.proofs.listing.list_system.Goals as goal

pub returns : goal.returns
returns c = system_listed c.args.description c.in_ok-system.system c.list_places.result c.in_ok-system.ensures.1 c.list_places.ensures
