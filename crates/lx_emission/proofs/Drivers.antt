-- What drives each net of the module of a design.
use Rattle.std.proofs.Common.{◌≡◌, ℕ, ◌<◌, ◌+◌, Bool, true, false, ◌&&◌, cond, List, [], ◌∷◌, ◌++◌, length, flat_map, refl, ap, ◌∙◌, arith}
use Rattle.std.specs.Prelude.{Option, Some, None, slice_get}
use Rattle.std.proofs.lemmas.List.{append-nil}
use Rattle.std.proofs.lemmas.Slice.Eq.{bytes_eq-Decides}
use Rattle.lx_circuit.specs.Statements.{drives_block}
use Rattle.lx_circuit.specs.Circuit as circuit
use Rattle.lx_vtext.specs.Tree.{Name}
use Rattle.lx_vmeaning.specs.Runs.{outside_drivers, assign_drivers, block_drivers, drivers}
use Rattle.lx_vmeaning.specs.Runs as runs
use Rattle.lx_fhdl.specs.Below.{ExprId}
use Rattle.lx_fhdl.specs.Designs.{circuit_of}
use Rattle.lx_fhdl.specs.Keeping.{Keeps}
use Rattle.lx_fhdl.specs.declared.design.Design.{Design}
use Rattle.lx_emission.specs.Naming.{net, node_net, clock, memory_name, NamesFit}
use Rattle.lx_emission.specs.Nodes.{operand, node_text}
use Rattle.lx_emission.specs.Signals.{Drive, Input, Undriven, CombAssign, CombBlock, Sync, own, single, comb_drive, drive_by, drive, reset_text, signal_net, assign_by, signal_assign, comb_body, sync_body, always_by, signal_always}
use Rattle.lx_emission.specs.Emission.{places_from, signal_port, is_input_drive, is_port, is_net_node, node_assign, emitted}
use Rattle.lx_emission.specs.Memories.{memory_body, writing_domain, clocked, memory_always}
use Rattle.lx_emission.specs.Emits.{PortsFit}
use Rattle.lx_emission.proofs.Lists.{name_other, none_of_two, first_of_two, second_of_two, none_at_places, one_at_places, collects_outside, collects_assigns, collects_blocks}
use Rattle.lx_emission.proofs.Names.{node_net_once, net_once, memory_once}
use Rattle.lx_emission.proofs.Roles.{read_other, idle_input}
use Rattle.lx_emission.proofs.Setting.{IsNetNode, SetsAlone, WritesAlone, BlocksSetAlone, driver_by, clocked_drivers, memory_drivers}
use Rattle.lx_emission.proofs.Structure.{IsNoSignal, IsNoNode, IsNoClock, IsNoMemory, net_no_clock, net_no_node, net_no_memory, node_no_signal, node_no_clock, node_no_memory, clock_no_signal, clock_no_node, clock_no_memory, memory_no_signal, memory_no_node, memory_no_clock, net_node_at, net_node_is, net_node_within, ports_signal, ports_none, outside_at_clock, outside_at_signal, outside_clock}
use Rattle.lx_emission.proofs.Parts.{node_assignment}

-- ---- an input is a port

drive_is_input : (d : Design) (x : ℕ) (r : circuit.Role) → drive_by d x r ≡ Input → r ≡ circuit.Input
drive_is_input d x circuit.Input e = refl
drive_is_input d x circuit.Undriven e = absurd cc
drive_is_input d x circuit.Comb e = absurd (by (single d (own d x d.comb)) e)
  where
    by : (o : Option ExprId) → comb_drive (own d x d.comb) o ≡ Input → ⊥
    by None t = cc
    by (Some value) t = cc
drive_is_input d x (circuit.Sync k) e = absurd cc
drive_is_input d x (circuit.Read j) e = absurd cc

sync_input : (x k : ℕ) (ds : List circuit.Domain) (other : circuit.Role) → circuit.sync_role x k ds other ≡ circuit.Input → other ≡ circuit.Input
sync_input x k [] other e = e
sync_input x k (y ∷ ys) other e = by (drives_block x y.stmts) e (λ t. sync_input x (k + 1) ys other t)
  where
    by : (b : Bool) → cond b (circuit.Sync k) (circuit.sync_role x (k + 1) ys other) ≡ circuit.Input → (circuit.sync_role x (k + 1) ys other ≡ circuit.Input → other ≡ circuit.Input) → other ≡ circuit.Input
    by true t rest = absurd cc
    by false t rest = rest t

-- an input is a port, and so is the reset of a domain that is one
pub input_is_port : (d : Design) (x : ℕ) → circuit.role (circuit_of d) x ≡ circuit.Input → is_port d x ≡ true
unfolding is_port
input_is_port d x e = idle_input (circuit_of d) x (read_other x 0 (circuit_of d).ports (circuit.idle_role (circuit_of d) x) circuit.Input refl (by (drives_block x (circuit_of d).comb) e))
  where
    idle : circuit.Role
    idle = circuit.read_role x 0 (circuit_of d).ports (circuit.idle_role (circuit_of d) x)

    by : (b : Bool) → cond b circuit.Comb (circuit.sync_role x 0 (circuit_of d).domains idle) ≡ circuit.Input → idle ≡ circuit.Input
    by true t = absurd cc
    by false t = sync_input x 0 (circuit_of d).domains idle t

pub input_drive_is_port : (d : Design) (x : ℕ) → drive d x ≡ Input → is_port d x ≡ true
unfolding drive
input_drive_is_port d x e = input_is_port d x (drive_is_input d x (circuit.role (circuit_of d) x) e)

-- ---- the parts of the module

assigns_parts : (d : Design) (names : List Name) (n : Name)
    → assign_drivers n (emitted d names).assigns ≡ assign_drivers n (flat_map (node_assign d names) (places_from 0 d.exprs)) ++ assign_drivers n (flat_map (signal_assign d names) (places_from 0 d.signals))
unfolding emitted
assigns_parts d names n = (collects_assigns n).joined (flat_map (node_assign d names) (places_from 0 d.exprs)) (flat_map (signal_assign d names) (places_from 0 d.signals))

node_assign_other : (d : Design) (names : List Name) (n : Name) (k : ℕ) → (IsNetNode d k → node_net d.exprs k ≡ n → ⊥) → assign_drivers n (node_assign d names k) ≡ []
unfolding node_assign
node_assign_other d names n k ne = by (is_net_node (slice_get d.exprs k)) refl
  where
    by : (b : Bool) → is_net_node (slice_get d.exprs k) ≡ b → assign_drivers n (cond b (node_assignment d names k ∷ []) []) ≡ []
    by true t = rw (name_other (node_net d.exprs k) n (ne (net_node_at d k t))) refl
    by false t = refl

node_assign_own : (d : Design) (names : List Name) (k : ℕ) → IsNetNode d k → assign_drivers (node_net d.exprs k) (node_assign d names k) ≡ runs.ByAssign (node_text d names k) ∷ []
unfolding node_assign
node_assign_own d names k is = rw (net_node_is d k is, (bytes_eq-Decides (node_net d.exprs k) (node_net d.exprs k)).1 refl) refl

signal_assign_other : (d : Design) (names : List Name) (n : Name) (x : ℕ) → (net names x ≡ n → ⊥) → assign_drivers n (signal_assign d names x) ≡ []
unfolding signal_assign
signal_assign_other d names n x ne = by (drive d x)
  where
    by : (r : Drive) → assign_drivers n (assign_by d names x r) ≡ []
    by Input = refl
    by Undriven = rw (name_other (net names x) n ne) refl
    by (CombAssign value) = rw (name_other (net names x) n ne) refl
    by (CombBlock body) = refl
    by (Sync k body) = refl

block_other : (d : Design) (names : List Name) (n : Name) (x : ℕ) → SetsAlone d names x (drive d x) → (net names x ≡ n → ⊥) → block_drivers n (signal_always d names x) ≡ []
unfolding signal_always
block_other d names n x alone ne = by (drive d x) alone
  where
    by : (r : Drive) → SetsAlone d names x r → block_drivers n (always_by d names x r) ≡ []
    by Input h = refl
    by Undriven h = refl
    by (CombAssign value) h = refl
    by (CombBlock body) h = rw (h n, name_other (net names x) n ne) refl
    by (Sync k body) h = rw (h n, name_other (net names x) n ne) refl

memory_other : (d : Design) (names : List Name) (n : Name) (k : ℕ) → WritesAlone d names k (writing_domain k (circuit_of d).ports) → (memory_name d names k ≡ n → ⊥) → block_drivers n (memory_always d names k) ≡ []
unfolding memory_always
memory_other d names n k alone ne = by (writing_domain k (circuit_of d).ports) alone
  where
    by : (o : Option ℕ) → WritesAlone d names k o → block_drivers n (clocked d (memory_body d names k) o) ≡ []
    by None h = refl
    by (Some x) h = rw (h n, name_other (memory_name d names k) n ne) refl

memory_own : (d : Design) (names : List Name) (k : ℕ) → WritesAlone d names k (writing_domain k (circuit_of d).ports) → block_drivers (memory_name d names k) (memory_always d names k) ≡ memory_drivers d names k
unfolding memory_always
memory_own d names k alone = by (writing_domain k (circuit_of d).ports) alone
  where
    by : (o : Option ℕ) → WritesAlone d names k o → block_drivers (memory_name d names k) (clocked d (memory_body d names k) o) ≡ clocked_drivers d (memory_body d names k) o
    by None h = refl
    by (Some x) h = rw (h (memory_name d names k), (bytes_eq-Decides (memory_name d names k) (memory_name d names k)).1 refl) refl

blocks_parts : (d : Design) (names : List Name) (n : Name)
    → block_drivers n (emitted d names).always ≡ block_drivers n (flat_map (signal_always d names) (places_from 0 d.signals)) ++ block_drivers n (flat_map (memory_always d names) (places_from 0 d.memories))
unfolding emitted
blocks_parts d names n = (collects_blocks n).joined (flat_map (signal_always d names) (places_from 0 d.signals)) (flat_map (memory_always d names) (places_from 0 d.memories))

signal_blocks_gone : (d : Design) (names : List Name) → BlocksSetAlone d names → (n : Name) → IsNoSignal d names n → block_drivers n (flat_map (signal_always d names) (places_from 0 d.signals)) ≡ []
signal_blocks_gone d names alone n h =
    none_at_places (block_drivers n) (collects_blocks n) (signal_always d names) 0 d.signals (λ j p q. block_other d names n j (alone.each j (omega arith)) (h.each j (omega arith)))

memory_blocks_gone : (d : Design) (names : List Name) → BlocksSetAlone d names → (n : Name) → IsNoMemory d names n → block_drivers n (flat_map (memory_always d names) (places_from 0 d.memories)) ≡ []
memory_blocks_gone d names alone n h =
    none_at_places (block_drivers n) (collects_blocks n) (memory_always d names) 0 d.memories (λ j p q. memory_other d names n j (alone.memories j (omega arith)) (h.each j (omega arith)))

-- nothing comes of the nodes, of the signals, or of the blocks
node_assigns_gone : (d : Design) (names : List Name) (n : Name) → IsNoNode d n → assign_drivers n (flat_map (node_assign d names) (places_from 0 d.exprs)) ≡ []
node_assigns_gone d names n h = none_at_places (assign_drivers n) (collects_assigns n) (node_assign d names) 0 d.exprs (λ j p q. node_assign_other d names n j (h.each j))

signal_assigns_gone : (d : Design) (names : List Name) (n : Name) → IsNoSignal d names n → assign_drivers n (flat_map (signal_assign d names) (places_from 0 d.signals)) ≡ []
signal_assigns_gone d names n h = none_at_places (assign_drivers n) (collects_assigns n) (signal_assign d names) 0 d.signals (λ j p q. signal_assign_other d names n j (h.each j (omega arith)))

blocks_gone : (d : Design) (names : List Name) → BlocksSetAlone d names → (n : Name) → IsNoSignal d names n → IsNoMemory d names n → block_drivers n (emitted d names).always ≡ []
blocks_gone d names alone n signals memories =
    blocks_parts d names n
    ∙ none_of_two (block_drivers n (flat_map (signal_always d names) (places_from 0 d.signals))) (block_drivers n (flat_map (memory_always d names) (places_from 0 d.memories)))
    (signal_blocks_gone d names alone n signals) (memory_blocks_gone d names alone n memories)

outside_gone : (d : Design) (names : List Name) → Keeps d → (n : Name) → IsNoSignal d names n → IsNoClock d n → outside_drivers n (emitted d names).ports ≡ []
unfolding emitted
outside_gone d names keeps n signals clocks =
    ports_none (outside_drivers n) (collects_outside n) d names keeps (λ x lt u. outside_at_signal d names n x (signals.each x lt)) (λ k lt u. outside_at_clock d n k (clocks.each k lt))

-- ---- the net of a signal

-- what each way of driving a net gives in the ports, the assigns and the blocks
abbrev outside_part : Drive → List runs.Driver
outside_part Input = runs.Outside ∷ []
outside_part Undriven = []
outside_part (CombAssign value) = []
outside_part (CombBlock body) = []
outside_part (Sync k body) = []

abbrev assign_part : Design → List Name → ℕ → Drive → List runs.Driver
assign_part d names x Input = []
assign_part d names x Undriven = runs.ByAssign (reset_text d x) ∷ []
assign_part d names x (CombAssign value) = runs.ByAssign (operand d names value.place) ∷ []
assign_part d names x (CombBlock body) = []
assign_part d names x (Sync k body) = []

abbrev block_part : Design → List Name → ℕ → Drive → List runs.Driver
block_part d names x Input = []
block_part d names x Undriven = []
block_part d names x (CombAssign value) = []
block_part d names x (CombBlock body) = runs.ByBlock (comb_body d names x body) ∷ []
block_part d names x (Sync k body) = runs.Clocked (clock d k) (sync_body d names x k body) ∷ []

parts_join : (d : Design) (names : List Name) (x : ℕ) (r : Drive) → outside_part r ++ (assign_part d names x r ++ block_part d names x r) ≡ driver_by d names x r ∷ []
parts_join d names x Input = refl
parts_join d names x Undriven = refl
parts_join d names x (CombAssign value) = refl
parts_join d names x (CombBlock body) = refl
parts_join d names x (Sync k body) = refl

outside_own : (d : Design) (names : List Name) (x : ℕ) → outside_drivers (net names x) (signal_port d names x ∷ []) ≡ outside_part (drive d x)
unfolding signal_net
outside_own d names x = rw ((bytes_eq-Decides (net names x) (net names x)).1 refl) (by (drive d x))
  where
    by : (r : Drive) → cond (is_input_drive r && true) (runs.Outside ∷ []) [] ≡ outside_part r
    by Input = refl
    by Undriven = refl
    by (CombAssign value) = refl
    by (CombBlock body) = refl
    by (Sync k body) = refl

outside_if_port : (b : Bool) (r : Drive) → (r ≡ Input → b ≡ true) → cond b (outside_part r) [] ≡ outside_part r
outside_if_port true r h = refl
outside_if_port false Input h = let t = h refl in absurd cc
outside_if_port false Undriven h = refl
outside_if_port false (CombAssign value) h = refl
outside_if_port false (CombBlock body) h = refl
outside_if_port false (Sync k body) h = refl

assign_own : (d : Design) (names : List Name) (x : ℕ) → assign_drivers (net names x) (signal_assign d names x) ≡ assign_part d names x (drive d x)
unfolding signal_assign
assign_own d names x = by (drive d x)
  where
    by : (r : Drive) → assign_drivers (net names x) (assign_by d names x r) ≡ assign_part d names x r
    by Input = refl
    by Undriven = rw ((bytes_eq-Decides (net names x) (net names x)).1 refl) refl
    by (CombAssign value) = rw ((bytes_eq-Decides (net names x) (net names x)).1 refl) refl
    by (CombBlock body) = refl
    by (Sync k body) = refl

block_own : (d : Design) (names : List Name) (x : ℕ) → SetsAlone d names x (drive d x) → block_drivers (net names x) (signal_always d names x) ≡ block_part d names x (drive d x)
unfolding signal_always
block_own d names x alone = by (drive d x) alone
  where
    by : (r : Drive) → SetsAlone d names x r → block_drivers (net names x) (always_by d names x r) ≡ block_part d names x r
    by Input h = refl
    by Undriven h = refl
    by (CombAssign value) h = refl
    by (CombBlock body) h = rw (h (net names x), (bytes_eq-Decides (net names x) (net names x)).1 refl) refl
    by (Sync k body) h = rw (h (net names x), (bytes_eq-Decides (net names x) (net names x)).1 refl) refl

outside_signal : (d : Design) (names : List Name) → Keeps d → NamesFit d names → PortsFit d → (x : ℕ) → x < length d.signals → outside_drivers (net names x) (emitted d names).ports ≡ outside_part (drive d x)
unfolding emitted
outside_signal d names keeps fit ports x lt =
    let n = net names x in
    ports_signal (outside_drivers n) (collects_outside n) d names keeps ports x
    (λ y p other. outside_at_signal d names n y (λ e. other (net_once d names fit y x p lt e)))
    (λ k p u. outside_at_clock d n k ((net_no_clock d names fit x lt).each k p))
    ∙ ap (λ t. cond (is_port d x) t []) (outside_own d names x)
    ∙ outside_if_port (is_port d x) (drive d x) (λ e. input_drive_is_port d x e)

assigns_signal : (d : Design) (names : List Name) → NamesFit d names → (x : ℕ) → x < length d.signals → assign_drivers (net names x) (emitted d names).assigns ≡ assign_part d names x (drive d x)
assigns_signal d names fit x lt =
    let n = net names x in
    let nodes = flat_map (node_assign d names) (places_from 0 d.exprs) in
    let signals = flat_map (signal_assign d names) (places_from 0 d.signals) in
    assigns_parts d names n
    ∙ second_of_two (assign_drivers n nodes) (assign_drivers n signals) (node_assigns_gone d names n (net_no_node d names fit x lt))
    ∙ one_at_places (assign_drivers n) (collects_assigns n) (signal_assign d names) x 0 d.signals (omega arith) (omega arith) (λ j p q other. signal_assign_other d names n j (λ e. other (net_once d names fit j x (omega arith) lt e)))
    ∙ assign_own d names x

blocks_signal : (d : Design) (names : List Name) → NamesFit d names → BlocksSetAlone d names → (x : ℕ) → x < length d.signals → block_drivers (net names x) (emitted d names).always ≡ block_part d names x (drive d x)
blocks_signal d names fit alone x lt =
    let n = net names x in
    blocks_parts d names n
    ∙ first_of_two (block_drivers n (flat_map (signal_always d names) (places_from 0 d.signals))) (block_drivers n (flat_map (memory_always d names) (places_from 0 d.memories))) (memory_blocks_gone d names alone n (net_no_memory d names fit x lt))
    ∙ one_at_places (block_drivers n) (collects_blocks n) (signal_always d names) x 0 d.signals (omega arith) (omega arith)
    (λ j p q other. block_other d names n j (alone.each j (omega arith)) (λ e. other (net_once d names fit j x (omega arith) lt e)))
    ∙ block_own d names x (alone.each x lt)

blocks_memory : (d : Design) (names : List Name) → NamesFit d names → BlocksSetAlone d names → (k : ℕ) → k < length d.memories → block_drivers (memory_name d names k) (emitted d names).always ≡ memory_drivers d names k
blocks_memory d names fit alone k lt =
    let n = memory_name d names k in
    blocks_parts d names n
    ∙ second_of_two (block_drivers n (flat_map (signal_always d names) (places_from 0 d.signals))) (block_drivers n (flat_map (memory_always d names) (places_from 0 d.memories))) (signal_blocks_gone d names alone n (memory_no_signal d names fit k lt))
    ∙ one_at_places (block_drivers n) (collects_blocks n) (memory_always d names) k 0 d.memories (omega arith) (omega arith)
    (λ j p q other. memory_other d names n j (alone.memories j (omega arith)) (λ e. other (memory_once d names fit j k (omega arith) lt e)))
    ∙ memory_own d names k (alone.memories k lt)

pub drivers_signal : (d : Design) (names : List Name) → Keeps d → NamesFit d names → PortsFit d → BlocksSetAlone d names → (x : ℕ) → x < length d.signals
    → drivers (emitted d names) (net names x) ≡ driver_by d names x (drive d x) ∷ []
drivers_signal d names keeps fit ports alone x lt =
    rw (outside_signal d names keeps fit ports x lt, assigns_signal d names fit x lt, blocks_signal d names fit alone x lt) (parts_join d names x (drive d x))

-- ---- the other nets

pub drivers_node : (d : Design) (names : List Name) → Keeps d → NamesFit d names → BlocksSetAlone d names → (k : ℕ) → IsNetNode d k
    → drivers (emitted d names) (node_net d.exprs k) ≡ runs.ByAssign (node_text d names k) ∷ []
drivers_node d names keeps fit alone k is =
    let n = node_net d.exprs k in
    let no_signal = node_no_signal d names fit k in
    let from_nodes = one_at_places (assign_drivers n) (collects_assigns n) (node_assign d names) k 0 d.exprs (omega arith) (omega (arith, net_node_within d k is))
    (λ j p q other. node_assign_other d names n j (λ t e. other (node_net_once d j k t is e))) in
    rw (outside_gone d names keeps n no_signal (node_no_clock d keeps k), assigns_parts d names n, signal_assigns_gone d names n no_signal, blocks_gone d names alone n no_signal (node_no_memory d names fit k))
    (append-nil (assign_drivers n (flat_map (node_assign d names) (places_from 0 d.exprs)) ++ []) ∙ append-nil (assign_drivers n (flat_map (node_assign d names) (places_from 0 d.exprs))) ∙ from_nodes ∙ node_assign_own d names k is)

-- neither an assign nor a block drives a name that is no signal's and no node's
undriven : (d : Design) (names : List Name) → BlocksSetAlone d names → (n : Name) → IsNoSignal d names n → IsNoNode d n → IsNoMemory d names n → assign_drivers n (emitted d names).assigns ++ block_drivers n (emitted d names).always ≡ []
undriven d names alone n signals nodes memories =
    rw (assigns_parts d names n, node_assigns_gone d names n nodes, signal_assigns_gone d names n signals) (blocks_gone d names alone n signals memories)

pub drivers_clock : (d : Design) (names : List Name) → Keeps d → NamesFit d names → BlocksSetAlone d names → (k : ℕ) → k < length d.domains
    → drivers (emitted d names) (clock d k) ≡ runs.Outside ∷ []
drivers_clock d names keeps fit alone k lt =
    rw (outside_clock d names keeps fit k lt, undriven d names alone (clock d k) (clock_no_signal d names fit k lt) (clock_no_node d keeps k lt) (clock_no_memory d names fit k lt)) refl

pub drivers_none : (d : Design) (names : List Name) → Keeps d → BlocksSetAlone d names → (n : Name) → IsNoSignal d names n → IsNoNode d n → IsNoClock d n → IsNoMemory d names n
    → drivers (emitted d names) n ≡ []
drivers_none d names keeps alone n signals nodes clocks memories =
    rw (outside_gone d names keeps n signals clocks) (undriven d names alone n signals nodes memories)

-- a memory is written by the block of its writers alone
pub drivers_memory : (d : Design) (names : List Name) → Keeps d → NamesFit d names → BlocksSetAlone d names → (k : ℕ) → k < length d.memories
    → drivers (emitted d names) (memory_name d names k) ≡ memory_drivers d names k
drivers_memory d names keeps fit alone k lt =
    let n = memory_name d names k in
    let signals = memory_no_signal d names fit k lt in
    rw (outside_gone d names keeps n signals (memory_no_clock d names fit k lt), assigns_parts d names n, node_assigns_gone d names n (memory_no_node d names fit k lt), signal_assigns_gone d names n signals)
    (blocks_memory d names fit alone k lt)
