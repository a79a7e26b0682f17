use Rattle.std.proofs.Common.{◌≡◌, drop}
use Rattle.std.specs.List.{list_all}
use Rattle.lx_fhdl.specs.declared.design.Domain.{Domain}
use Rattle.lx_fsm_kept.specs.Stand.{some_left}
use Rattle.lx_fsm_kept.proofs.resets.resets_left.Given as goal

abbrev pub invariant-loop-domain : goal.invariant-loop-domain
invariant-loop-domain l = list_all (λ (x : Domain). some_left l.description x.reset) (drop l.domain-index l.description.design.domains) ≡ list_all (λ (x : Domain). some_left l.description x.reset) l.description.design.domains
