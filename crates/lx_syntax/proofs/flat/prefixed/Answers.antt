use Rattle.std.proofs.Common.{◌≡◌, ◌∙◌, None, Some, sym}
use Rattle.lx_syntax.specs.Forming.{signs_in}
use Rattle.lx_syntax.proofs.Flats.{prefixed_form, prefixed_none}
use Rattle.lx_syntax.proofs.flat.prefixed.Goals as goal

pub returns-in-None : goal.returns-in-None
returns-in-None c =
    let e : None ≡ signs_in c.args.src.now c.args.tokens.now = sym c.in-None.is ∙ c.in_ok-signs_in.ensures in
    prefixed_none _ _ _ e

pub returns-in-Some : goal.returns-in-Some
returns-in-Some c =
    let e : Some c.in-Some.signs ≡ signs_in c.args.src.now c.args.tokens.now = sym c.in-Some.is ∙ c.in_ok-signs_in.ensures in
    prefixed_form _ _ _ _ _ e (c.prefixed_by.ensures _)
