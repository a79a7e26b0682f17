use Rattle.std.proofs.Common.{refl}
use Rattle.lx_graph.proofs.Searching.{went_up}
use Rattle.lx_graph.proofs.search.place.Goals as goal

pub returns : goal.returns
returns c =
    went_up c.args.graph.now c.args.search.now _ c.args.frame c.requires.searches c.requires.whole refl refl c.in_ok-push.ensures.ok
