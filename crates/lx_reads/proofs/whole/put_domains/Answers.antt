use Rattle.std.proofs.Common.{arith}
use Rattle.lx_reads.proofs.Wholes.{domains_done, domains_more}
use Rattle.lx_reads.proofs.whole.put_domains.Goals as goal

pub put_domain-requires-clause-domain : goal.put_domain-requires-clause-domain
put_domain-requires-clause-domain c = omega (arith, c.loop-k-test.true, c.len-k-end.ensures, c.requires.keeps.domains_most)

pub loop-k-preserved : goal.loop-k-preserved
loop-k-preserved c = domains_more _ _ c.args.design.now.domains _ _ _ _ (omega (arith, c.loop-k-test.true, c.len-k-end.ensures)) c.loop-k.invariant c.in_ok-put_domain.ensures

pub returns : goal.returns
returns c = domains_done _ _ c.args.design.now.domains _ _ _ (omega (arith, c.len-k-end.ensures)) c.loop-k.invariant
