use Rattle.std.proofs.Common.{◌≡◌, ◌++◌, drop, flat_map}
use Rattle.lx_description.specs.Wires.{some_number}
use Rattle.lx_fhdl.specs.declared.design.Domain.{Domain}
use Rattle.lx_parts_kept.proofs.places.add_resets.Given as goal

abbrev pub invariant-loop-domain : goal.invariant-loop-domain
invariant-loop-domain l = l.all ++ flat_map (λ (x : Domain). some_number x.reset) (drop l.domain-index l.domains) ≡ l.initial.all ++ flat_map (λ (x : Domain). some_number x.reset) l.domains
