use Rattle.std.proofs.Common.{◌≡◌, ◌∙◌, None, sym}
use Rattle.lx_syntax.specs.Forming.{links_in}
use Rattle.lx_syntax.proofs.Counting.{chain_odd}
use Rattle.lx_syntax.proofs.flat.chain.Goals as goal

pub returns-in-None : goal.returns-in-None
returns-in-None c =
    let e : None ≡ links_in c.args.src.now c.args.tokens.now c.in-Next.rest.now = sym c.in-None.is ∙ c.in_ok-links_in-in-Next.ensures in
    chain_odd _ _ _ _ _ c.in-Next.ensures.0 e
