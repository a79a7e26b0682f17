use Rattle.std.proofs.Common.{sym, ◌∙◌}
use Rattle.lx_alloc.proofs.Tells.{sized_from, sized_to}
use Rattle.lx_alloc.proofs.origins.are_sized.Goals as goal

pub returns : goal.returns
returns c = ((λ e. sized_from c.args.wishes.now (sym c.fit.ensures ∙ e)), (λ h. c.fit.ensures ∙ sized_to c.args.wishes.now h))
