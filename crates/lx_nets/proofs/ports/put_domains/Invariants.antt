use Rattle.std.proofs.Common.{◌≡◌, ◌++◌, drop, map}
use Rattle.lx_vtree.specs.Modules.{port_of}
use Rattle.lx_emission.specs.Emission.{domain_ports}
use Rattle.lx_nets.proofs.ports.put_domains.Given as goal

abbrev pub invariant-loop-domain : goal.invariant-loop-domain
invariant-loop-domain l =
    (l.domain-items ≡ l.sheet.design.domains)
    × (map port_of l.ports ++ domain_ports l.sheet.design l.sheet.names l.domain-index (drop l.domain-index l.domain-items) ≡ map port_of l.initial.ports ++ domain_ports l.sheet.design l.sheet.names 0 l.domain-items)
