use Rattle.std.proofs.Common.{◌≡◌, take}
use Rattle.lx_memory.proofs.copies.copied_domains.Given as goal

abbrev pub invariant-loop-domain : goal.invariant-loop-domain
invariant-loop-domain l = l.list ≡ take l.domain-index l.domains
