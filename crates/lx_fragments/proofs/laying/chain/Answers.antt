use Rattle.std.proofs.Common.{arith}
use Rattle.lx_fragments.proofs.Chains.{chain_ended, chain_more, chain_over}
use Rattle.lx_fragments.proofs.laying.chain.Goals as goal

pub loop-left-preserved : goal.loop-left-preserved
loop-left-preserved c = rw (c.in_ok-push-in-Some.ensures.items, c.before-next.ensures) (chain_more _ _ _ _ _ _ c.loop-left.invariant c.in-Some.is (omega (arith, c.loop-left-test.true)))

pub returns-in-None : goal.returns-in-None
returns-in-None c = chain_ended _ _ _ _ _ c.loop-left.invariant c.in-None.is

pub returns : goal.returns
returns c = chain_over _ _ _ _ _ c.loop-left.invariant (omega (arith, c.loop-left-test.false))
