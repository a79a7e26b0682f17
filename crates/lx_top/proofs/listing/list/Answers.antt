use Rattle.lx_top.proofs.Listings.{makes_from}
use Rattle.lx_top.proofs.listing.list.Goals as goal

pub returns-in-Ok : goal.returns-in-Ok
returns-in-Ok g c =
    makes_from (g.S.Source.files c.args.src.now) c.args.source.now c.in-Ok.bytes c.as_slice.result.now (g.S.Source.faults c.args.src.now) (g.S.Source.faults c.fetch.new.src) c.list_file.result
    c.in-Ok.ensures.fetched.0 c.in-Ok.ensures.fetched.1 c.as_slice.ensures c.list_file.ensures
