use Rattle.lx_syntax.proofs.Bracketing.{pairs_made}
use Rattle.lx_syntax.proofs.exprs.dictionary.Goals as goal

pub returns : goal.returns
returns c =
    λ src t line. pairs_made src t _ line _ _ _ _ _ c.in_ok-ids.ensures (rw c.as_slice.ensures at c.in_ok-pairs.ensures) c.requires.key c.requires.value c.requires.low
