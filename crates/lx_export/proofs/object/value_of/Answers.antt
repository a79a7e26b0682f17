use Rattle.std.proofs.Common.{◌≡◌, true, subst, sym}
use Rattle.lx_export.specs.Ascii.{are_ascii}
use Rattle.lx_export.proofs.Joined.{number_within, text_within}
use Rattle.lx_export.proofs.object.value_of.Goals as goal

pub number_of-requires-clause-low : goal.number_of-requires-clause-low
number_of-requires-clause-low c = (number_within c.args.value.now c.in-Number.number c.requires c.in-Number.is).0

pub number_of-requires-clause-high : goal.number_of-requires-clause-high
number_of-requires-clause-high c = (number_within c.args.value.now c.in-Number.number c.requires c.in-Number.is).1

pub text_of-requires : goal.text_of-requires
text_of-requires c = subst (λ text. are_ascii text ≡ true) (sym c.as_bytes.ensures) (text_within c.args.value.now _ c.requires c.in-Text.is)
