use Rattle.lx_syntax.proofs.Bracketing.{comprehension_made}
use Rattle.lx_syntax.proofs.exprs.comprehension.Goals as goal

pub returns : goal.returns
returns c =
    λ line. comprehension_made _ _ _ line c.args.item.place c.args.names.place _ _ _ _ c.in_ok-names.ensures c.in_ok-ids.ensures c.requires.item c.requires.low (rw c.as_slice.ensures at c.sourced.ensures)
