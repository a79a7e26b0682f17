use Rattle.lx_lower.specs.Lists.{PartsPut}
use Rattle.lx_lower.proofs.parts.lower_sync.Given as goal

abbrev pub invariant-loop-domain : goal.invariant-loop-domain
invariant-loop-domain l = PartsPut l.source.design l.initial.draft l.draft l.domain l.parts
