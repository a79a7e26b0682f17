use Rattle.std.proofs.Common.{drop}
use Rattle.lx_reads.specs.Drivings.{domains_drivings}
use Rattle.lx_reads.proofs.Wholes.{DrivesTo}
use Rattle.lx_reads.proofs.whole.put_domains.Given as goal

abbrev pub invariant-loop-k : goal.invariant-loop-k
invariant-loop-k l = DrivesTo l.design l.initial.net l.net (domains_drivings l.design 0 l.design.domains) (domains_drivings l.design l.k (drop l.k l.design.domains))
