use Rattle.std.proofs.Common.{refl}
use Rattle.lx_bench.proofs.Fans.{made}
use Rattle.lx_bench.proofs.designs.design.Goals as goal

pub returns : goal.returns
returns c =
    rw c.finish.ensures.is
    (made _ _ _ _ _ _ _ _ _ _ _ _ _ c.in_ok-signals.ensures c.requires c.new.ensures c.start-draft.ensures c.in_ok-input.ensures.ok c.in_ok-comb.ensures c.finish.ensures.keeps
    c.new-sync.ensures c.new-domains.ensures c.new-ports.ensures c.in_ok-ios.ensures refl)
