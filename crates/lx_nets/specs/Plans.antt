-- The nets, ports and assigns of a plan.
use Rattle.std.specs.Prelude.{ℕ, true, false, List, ◌∷◌, flat_map, map}
use Rattle.lx_vtext.specs.Tree.{VExpr, VNet, VPort, VDecl, VAssign}
use Rattle.lx_fhdl.specs.declared.exprs.SigId.{SigId}
use Rattle.lx_fhdl.specs.declared.design.Domain.{Domain}
use Rattle.lx_emission.specs.Emission.{inner_decl, node_assign, node_decl, places_from, reset_port, signal_port, wire}
use Rattle.lx_emission.specs.Naming.{clock_name, node_net}
use Rattle.lx_emission.specs.Nodes.{node_shape, node_text}
use Rattle.lx_emission.specs.Signals.{signal_assign}
use Rattle.lx_sheet.specs.Plans.{Plan}

abbrev pub node_in : Plan → ℕ → VExpr
node_in p k = node_text p.design p.names k

-- the assigns of all nodes, and those of all signals
abbrev pub nodes_in : Plan → List VAssign
nodes_in p = flat_map (node_assign p.design p.names) (places_from 0 p.design.exprs)

abbrev pub assigns_in : Plan → List VAssign
assigns_in p = flat_map (signal_assign p.design p.names) (places_from 0 p.design.signals)

-- the declarations of the signals that are no ports, and those of all nodes
abbrev pub inner_decls_in : Plan → List VDecl
inner_decls_in p = flat_map (inner_decl p.design p.names) (places_from 0 p.design.signals)

abbrev pub node_decls_in : Plan → List VDecl
node_decls_in p = flat_map (node_decl p.design p.names) (places_from 0 p.design.exprs)

-- the wire of a node
abbrev pub node_wire_in : Plan → ℕ → VNet
node_wire_in p k = wire (node_shape p.design k).signed (node_shape p.design k).bits (node_net p.design.exprs k)

-- the clock and the reset of a domain, and the ports that the design names
abbrev pub domain_ports_in : Plan → Domain → List VPort
domain_ports_in p x = record { is_input = true; net = wire false 1 (clock_name x.name) } ∷ reset_port p.design p.names x.reset

abbrev pub ios_in : Plan → List VPort
ios_in p = map (λ (x : SigId). signal_port p.design p.names x.0) p.design.ios
