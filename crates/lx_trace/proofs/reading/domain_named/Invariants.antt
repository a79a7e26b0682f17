use Rattle.std.proofs.Common.{◌≡◌, drop}
use Rattle.lx_trace.specs.Traces.{domain_among}
use Rattle.lx_trace.proofs.reading.domain_named.Given as goal

abbrev pub invariant-loop-domain : goal.invariant-loop-domain
invariant-loop-domain l = record {
  place : l.place ≡ l.domain-index;
  same : domain_among 0 l.domains l.name ≡ domain_among l.place (drop l.domain-index l.domains) l.name;
}
