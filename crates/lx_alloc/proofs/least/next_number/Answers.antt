use Rattle.std.proofs.Common.{Some, None, length, ap, ◌∙◌}
use Rattle.std.proofs.lemmas.Option.{slice_get-get_or}
use Rattle.lx_alloc.proofs.Lowest.{room, part_stated, part_lowest}
use Rattle.lx_alloc.proofs.least.next_number.Goals as goal

pub returns-in-Some : goal.returns-in-Some
returns-in-Some c =
    part_stated c.args.wished.now c.args.numbers.now c.in-Some.number c.requires.stand c.requires.part
    (slice_get-get_or c.args.wished.now (length c.args.numbers.now) None c.requires.more ∙ ap Some c.in-Some.is)

pub lowest_free-requires : goal.lowest_free-requires
lowest_free-requires c =
    room c.args.wished.now c.args.numbers.now c.requires.stand c.requires.part
    (slice_get-get_or c.args.wished.now (length c.args.numbers.now) None c.requires.more ∙ ap Some c.in-None.is)

pub returns-in-None : goal.returns-in-None
returns-in-None c =
    part_lowest c.args.wished.now c.args.numbers.now _ c.requires.part
    (slice_get-get_or c.args.wished.now (length c.args.numbers.now) None c.requires.more ∙ ap Some c.in-None.is) c.lowest_free.ensures
