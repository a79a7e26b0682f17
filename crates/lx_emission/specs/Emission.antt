-- The module of a lowered design.
use Rattle.std.specs.Prelude.{ℕ, Bool, true, false, ◌||◌, List, [], ◌∷◌, ◌++◌, ◌+◌, Option, Some, None, map, flat_map, slice_get, if◌then◌else◌}
use Rattle.lx_circuit.specs.Circuit as circuit
use Rattle.lx_vtext.specs.Tree.{Name, VNet, VPort, VDecl, NetDecl, MemoryDecl, VAssign, VModule}
use Rattle.lx_fhdl.specs.Designs.{circuit_of, memory_at}
use Rattle.lx_fhdl.specs.declared.exprs.SigId.{SigId}
use Rattle.lx_fhdl.specs.declared.exprs.Expr.{Expr}
use Rattle.lx_fhdl.specs.declared.design.Domain.{Domain}
use Rattle.lx_fhdl.specs.declared.design.Design.{Design}
use Rattle.lx_emission.specs.Naming.{has_net, node_net, clock, memory_name}
use Rattle.lx_emission.specs.Memories.{memory_decl, first_words, memory_always}
use Rattle.lx_emission.specs.Nodes.{node_shape, node_text}
use Rattle.lx_emission.specs.Signals.{Drive, Input, drive, signal_net, signal_assign, signal_always}

-- the places of a list, from k on
abbrev pub places_from : {T : Type 0} → ℕ → List T → List ℕ
places_from k [] = []
places_from k (x ∷ xs) = k ∷ places_from (k + 1) xs

-- ---- ports

abbrev pub wire : Bool → ℕ → Name → VNet
wire signed bits name = record { signed = signed; bits = bits; name = name; init = None }

abbrev pub is_input_drive : Drive → Bool
is_input_drive Input = true
is_input_drive _ = false

abbrev pub signal_port : Design → List Name → ℕ → VPort
signal_port d names x = record { is_input = is_input_drive (drive d x); net = signal_net d names x }

abbrev pub reset_port : Design → List Name → Option SigId → List VPort
reset_port d names None = []
reset_port d names (Some r) = signal_port d names r.0 ∷ []

-- a domain's clock and reset
abbrev pub domain_port : Design → List Name → ℕ → Domain → List VPort
domain_port d names k x = record { is_input = true; net = wire false 1 (clock d k) } ∷ reset_port d names x.reset

abbrev pub domain_ports : Design → List Name → ℕ → List Domain → List VPort
domain_ports d names k [] = []
domain_ports d names k (x ∷ xs) = domain_port d names k x ++ domain_ports d names (k + 1) xs

unfoldable pub ports_of : Design → List Name → List VPort
ports_of d names = domain_ports d names 0 d.domains ++ map (λ (x : SigId). signal_port d names x.0) d.ios

-- ---- the other nets, and memories

-- a signal that is a port, or a domain's reset
unfoldable pub is_port : Design → ℕ → Bool
is_port d x = circuit.is_among x (circuit_of d).ios || circuit.is_some_reset x (circuit_of d).domains

unfoldable pub inner_decl : Design → List Name → ℕ → List VDecl
inner_decl d names x = if is_port d x then [] else NetDecl (signal_net d names x) ∷ []

abbrev pub is_net_node : Option Expr → Bool
is_net_node None = false
is_net_node (Some x) = has_net x

unfoldable pub memory_decls : Design → List Name → List VDecl
memory_decls d names = map (λ k. MemoryDecl (memory_decl (memory_name d names k) (memory_at d k))) (places_from 0 d.memories)

-- the net of a node has its shape
unfoldable pub node_decl : Design → List Name → ℕ → List VDecl
node_decl d names k = if is_net_node (slice_get d.exprs k) then NetDecl (wire (node_shape d k).signed (node_shape d k).bits (node_net d.exprs k)) ∷ [] else []

unfoldable pub node_assign : Design → List Name → ℕ → List VAssign
node_assign d names k = if is_net_node (slice_get d.exprs k) then record { name = node_net d.exprs k; value = node_text d names k } ∷ [] else []

-- the signals that are no ports in order of creation, then the memories and the nodes in order
unfoldable pub decls_of : Design → List Name → List VDecl
decls_of d names =
    flat_map (inner_decl d names) (places_from 0 d.signals)
    ++ (memory_decls d names ++ flat_map (node_decl d names) (places_from 0 d.exprs))

-- The module: signals, memories and node nets in order, each net driven by its assign or block, each memory with its first
-- words and the block of its writers.
unfoldable pub emitted : Design → List Name → VModule
emitted d names = record {
  ports = ports_of d names;
  decls = decls_of d names;
  inits = map (λ k. first_words (memory_name d names k) (memory_at d k)) (places_from 0 d.memories);
  assigns = flat_map (node_assign d names) (places_from 0 d.exprs) ++ flat_map (signal_assign d names) (places_from 0 d.signals);
  always = flat_map (signal_always d names) (places_from 0 d.signals) ++ flat_map (memory_always d names) (places_from 0 d.memories);
}
