use Rattle.std.proofs.Common.{arith, refl}
use Rattle.std.proofs.lemmas.Option.{slice_get_read}
use Rattle.lx_alloc.proofs.Stated.{exhausted_told, short_within}
use Rattle.lx_alloc.proofs.origins.exhausted.Goals as goal

pub returns : goal.returns
returns c =
    exhausted_told c.args.wishes.now c.args.spots.now c.args.at c.index-wishes-at.result _ _ _ c.requires.spots c.requires.short
    (slice_get_read c.args.wishes.now _ c.args.at c.index-wishes-at.result refl (short_within c.args.wishes.now c.args.at c.requires.short) c.index-wishes-at.is)
    c.wanted.ensures c.wanted-2.ensures
