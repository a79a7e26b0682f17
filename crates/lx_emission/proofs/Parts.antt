-- What holds of each part of the module of a design, and what its expressions may read.
use Rattle.std.proofs.Common.{◌≡◌, ℕ, suc, ◌<◌, ◌≤◌, ◌+◌, Bool, true, false, ◌&&◌, cond, List, [], ◌∷◌, ◌++◌, length, map, flat_map, refl, sym, ap, ◌∙◌, subst, arith}
use Rattle.std.specs.Prelude.{Option, Some, None, slice_get, IsTrue}
use Rattle.std.specs.List.{list_all, AllByRecursion}
use Rattle.lx_circuit.specs.Statements.{drives_block}
use Rattle.lx_circuit.specs.Circuit as circuit
use Rattle.lx_vtext.specs.Tree.{Name, VExpr, VPort, VDecl, NetDecl, MemoryDecl, VMemory, VSet, VAssign, VAlways}
use Rattle.lx_vmeaning.specs.Runs.{decl_memories, sizes}
use Rattle.lx_vmeaning.specs.Naming.{is_input, is_clock, names_clock}
use Rattle.lx_fhdl.specs.Below.{ExprId, StmtId}
use Rattle.lx_fhdl.specs.Designs.{circuit_of, domains_from, port_of, memory_at}
use Rattle.lx_fhdl.specs.declared.design.Port.{Port}
use Rattle.lx_fhdl.specs.Keeping.{Keeps, IsDomain, IsPort, HasDomain, is_clocked, EachOf}
use Rattle.lx_fhdl.specs.declared.exprs.SigId.{SigId}
use Rattle.lx_fhdl.specs.declared.design.Domain.{Domain}
use Rattle.lx_fhdl.specs.declared.design.Design.{Design}
use Rattle.lx_emission.specs.Naming.{net, node_net, clock, memory_name, NamesFit}
use Rattle.lx_emission.specs.Nodes.{operand, node_text}
use Rattle.lx_emission.specs.Signals.{Drive, Input, Undriven, CombAssign, CombBlock, Sync, own, single, comb_drive, drive_by, drive, reset_text, signal_net, assign_by, signal_assign, comb_body, sync_body, always_by, signal_always}
use Rattle.lx_emission.specs.Emission.{signal_port, reset_port, domain_port, domain_ports, ports_of, is_port, is_net_node, inner_decl, memory_decls, node_decl, node_assign, decls_of, places_from, emitted}
use Rattle.lx_emission.specs.Memories.{first_words, memory_body, writes_memory, writing_domain, clocked, memory_always}
use Rattle.lx_emission.specs.Emits.{PortsFit}
use Rattle.lx_emission.proofs.Lists.{name_other, each_of_two, each_at_places, all_from_each, none_from_each}
use Rattle.lx_emission.proofs.Setting.{IsNetNode, DeclaresNets, LetsRead}
use Rattle.lx_emission.proofs.Lists.{each_mapped_places}
use Rattle.lx_emission.proofs.Roles.{read_other, idle_not_sync}
use Rattle.lx_emission.proofs.Structure.{IsNoClock, clock_port, node_wire, net_node_at, net_of_signal, net_of_node, reset_within, net_no_clock, node_no_clock, io_ports}
use Rattle.lx_emission.proofs.Classes.{the_memory, memories_are, memory_of_name, no_net_of_memory}

-- ---- what holds of each part of the module

resets_hold : (P : VPort → Type 0) (d : Design) (names : List Name) (y : Domain) → IsDomain d y → ((x : ℕ) → x < length d.signals → P (signal_port d names x)) → AllByRecursion P (reset_port d names y.reset)
resets_hold P d names y h signals = by y.reset refl
  where
    by : (o : Option SigId) → y.reset ≡ o → AllByRecursion P (reset_port d names o)
    by None e = tt
    by (Some r) e = (signals r.0 (reset_within d y r h e), tt)

domains_hold : (P : VPort → Type 0) (d : Design) (names : List Name) (k : ℕ) (ys : List Domain) → EachOf (IsDomain d) ys → ((x : ℕ) → x < length d.signals → P (signal_port d names x)) → ((j : ℕ) → k ≤ j → j < k + length ys → P (clock_port d j))
    → AllByRecursion P (domain_ports d names k ys)
domains_hold P d names k [] h signals clocks = tt
domains_hold P d names k (y ∷ ys) h signals clocks =
    each_of_two P (domain_port d names k y) (domain_ports d names (k + 1) ys)
    (clocks k (omega arith) (omega arith), resets_hold P d names y h.0 signals)
    (domains_hold P d names (k + 1) ys h.1 signals (λ j p q. clocks j (omega arith) (omega arith)))

ios_hold : (P : VPort → Type 0) (d : Design) (names : List Name) (is : List SigId) → EachOf (λ (r : SigId). r.0 < length d.signals) is → ((x : ℕ) → x < length d.signals → P (signal_port d names x)) → AllByRecursion P (io_ports d names is)
ios_hold P d names [] h signals = tt
ios_hold P d names (r ∷ rs) h signals = (signals r.0 h.0, ios_hold P d names rs h.1 signals)

pub ports_hold : (P : VPort → Type 0) (d : Design) (names : List Name) → Keeps d → ((x : ℕ) → x < length d.signals → P (signal_port d names x)) → ((k : ℕ) → k < length d.domains → P (clock_port d k))
    → AllByRecursion P (emitted d names).ports
unfolding emitted ports_of
ports_hold P d names keeps signals clocks =
    each_of_two P (domain_ports d names 0 d.domains) (io_ports d names d.ios)
    (domains_hold P d names 0 d.domains keeps.domains signals (λ j p q. clocks j (omega arith)))
    (ios_hold P d names d.ios keeps.ios signals)

inner_holds : (P : VDecl → Type 0) (d : Design) (names : List Name) (x : ℕ) → P (NetDecl (signal_net d names x)) → AllByRecursion P (inner_decl d names x)
unfolding inner_decl
inner_holds P d names x h = by (is_port d x)
  where
    by : (b : Bool) → AllByRecursion P (cond b [] (NetDecl (signal_net d names x) ∷ []))
    by true = tt
    by false = (h, tt)

node_decl_holds : (P : VDecl → Type 0) (d : Design) (names : List Name) (k : ℕ) → (IsNetNode d k → P (NetDecl (node_wire d k))) → AllByRecursion P (node_decl d names k)
unfolding node_decl
node_decl_holds P d names k h = by (is_net_node (slice_get d.exprs k)) refl
  where
    by : (b : Bool) → is_net_node (slice_get d.exprs k) ≡ b → AllByRecursion P (cond b (NetDecl (node_wire d k) ∷ []) [])
    by true t = (h (net_node_at d k t), tt)
    by false t = tt

pub decls_hold : (P : VDecl → Type 0) (d : Design) (names : List Name) → ((x : ℕ) → x < length d.signals → P (NetDecl (signal_net d names x))) → ((k : ℕ) → IsNetNode d k → P (NetDecl (node_wire d k)))
    → ((k : ℕ) → k < length d.memories → P (MemoryDecl (the_memory d names k))) → AllByRecursion P (emitted d names).decls
unfolding emitted decls_of memory_decls
decls_hold P d names signals nodes memories =
    let own = map (λ k. MemoryDecl (the_memory d names k)) (places_from 0 d.memories) in
    let last = flat_map (node_decl d names) (places_from 0 d.exprs) in
    each_of_two P (flat_map (inner_decl d names) (places_from 0 d.signals)) (own ++ last)
    (each_at_places P (inner_decl d names) 0 d.signals (λ j p q. inner_holds P d names j (signals j (omega arith))))
    (each_of_two P own last
    (each_mapped_places P (λ k. MemoryDecl (the_memory d names k)) 0 d.memories (λ j p q. memories j (omega arith)))
    (each_at_places P (node_decl d names) 0 d.exprs (λ j p q. node_decl_holds P d names j (nodes j))))

pub each_port : (P : VPort → Bool) (d : Design) (names : List Name) → Keeps d → ((x : ℕ) → x < length d.signals → P (signal_port d names x) ≡ true) → ((k : ℕ) → k < length d.domains → P (clock_port d k) ≡ true)
    → IsTrue (list_all P (emitted d names).ports)
each_port P d names keeps signals clocks = all_from_each P (emitted d names).ports (ports_hold (λ p. P p ≡ true) d names keeps signals clocks)

pub each_decl : (P : VDecl → Bool) (d : Design) (names : List Name) → ((x : ℕ) → x < length d.signals → P (NetDecl (signal_net d names x)) ≡ true) → ((k : ℕ) → IsNetNode d k → P (NetDecl (node_wire d k)) ≡ true)
    → ((k : ℕ) → k < length d.memories → P (MemoryDecl (the_memory d names k)) ≡ true) → IsTrue (list_all P (emitted d names).decls)
each_decl P d names signals nodes memories = all_from_each P (emitted d names).decls (decls_hold (λ x. P x ≡ true) d names signals nodes memories)

-- ---- memories

pub each_memory : (P : VMemory → Bool) (d : Design) (names : List Name) → ((k : ℕ) → k < length d.memories → P (the_memory d names k) ≡ true) → IsTrue (list_all P (decl_memories (emitted d names).decls))
each_memory P d names h =
    subst (λ xs. IsTrue (list_all P xs)) (sym (memories_are d names))
    (all_from_each P (map (the_memory d names) (places_from 0 d.memories)) (each_mapped_places (λ x. P x ≡ true) (the_memory d names) 0 d.memories (λ j p q. h j (omega arith))))

pub inits_hold : (P : List VSet → Type 0) (d : Design) (names : List Name) → ((k : ℕ) → k < length d.memories → P (first_words (memory_name d names k) (memory_at d k))) → AllByRecursion P (emitted d names).inits
unfolding emitted
inits_hold P d names h = each_mapped_places P (λ k. first_words (memory_name d names k) (memory_at d k)) 0 d.memories (λ j p q. h j (omega arith))

pub each_init : (P : List VSet → Bool) (d : Design) (names : List Name) → ((k : ℕ) → k < length d.memories → P (first_words (memory_name d names k) (memory_at d k)) ≡ true) → IsTrue (list_all P (emitted d names).inits)
each_init P d names h = all_from_each P (emitted d names).inits (inits_hold (λ b. P b ≡ true) d names h)

-- ---- assigns

abbrev pub node_assignment : Design → List Name → ℕ → VAssign
node_assignment d names k = record { name = node_net d.exprs k; value = node_text d names k }

abbrev pub signal_assignment : List Name → ℕ → VExpr → VAssign
signal_assignment names x e = record { name = net names x; value = e }

node_assign_holds : (P : VAssign → Type 0) (d : Design) (names : List Name) (k : ℕ) → (IsNetNode d k → P (node_assignment d names k)) → AllByRecursion P (node_assign d names k)
unfolding node_assign
node_assign_holds P d names k h = by (is_net_node (slice_get d.exprs k)) refl
  where
    by : (b : Bool) → is_net_node (slice_get d.exprs k) ≡ b → AllByRecursion P (cond b (node_assignment d names k ∷ []) [])
    by true t = (h (net_node_at d k t), tt)
    by false t = tt

signal_assign_holds : (P : VAssign → Type 0) (d : Design) (names : List Name) (x : ℕ) → (drive d x ≡ Undriven → P (signal_assignment names x (reset_text d x))) → ((value : ExprId) → drive d x ≡ CombAssign value → P (signal_assignment names x (operand d names value.place)))
    → AllByRecursion P (signal_assign d names x)
unfolding signal_assign
signal_assign_holds P d names x held equal = by (drive d x) refl
  where
    by : (r : Drive) → drive d x ≡ r → AllByRecursion P (assign_by d names x r)
    by Input e = tt
    by Undriven e = (held e, tt)
    by (CombAssign value) e = (equal value e, tt)
    by (CombBlock body) e = tt
    by (Sync k body) e = tt

pub assigns_hold : (P : VAssign → Type 0) (d : Design) (names : List Name) → ((k : ℕ) → IsNetNode d k → P (record { name = node_net d.exprs k; value = node_text d names k }))
    → ((x : ℕ) → x < length d.signals → drive d x ≡ Undriven → P (record { name = net names x; value = reset_text d x }))
    → ((x : ℕ) (value : ExprId) → x < length d.signals → drive d x ≡ CombAssign value → P (record { name = net names x; value = operand d names value.place }))
    → AllByRecursion P (emitted d names).assigns
unfolding emitted
assigns_hold P d names nodes held equal =
    each_of_two P (flat_map (node_assign d names) (places_from 0 d.exprs)) (flat_map (signal_assign d names) (places_from 0 d.signals))
    (each_at_places P (node_assign d names) 0 d.exprs (λ j p q. node_assign_holds P d names j (nodes j)))
    (each_at_places P (signal_assign d names) 0 d.signals (λ j p q. signal_assign_holds P d names j (held j (omega arith)) (λ value e. equal j value (omega arith) e)))

pub each_assign : (P : VAssign → Bool) (d : Design) (names : List Name) → ((k : ℕ) → IsNetNode d k → P (record { name = node_net d.exprs k; value = node_text d names k }) ≡ true)
    → ((x : ℕ) → x < length d.signals → drive d x ≡ Undriven → P (record { name = net names x; value = reset_text d x }) ≡ true)
    → ((x : ℕ) (value : ExprId) → x < length d.signals → drive d x ≡ CombAssign value → P (record { name = net names x; value = operand d names value.place }) ≡ true)
    → IsTrue (list_all P (emitted d names).assigns)
each_assign P d names nodes held equal = all_from_each P (emitted d names).assigns (assigns_hold (λ a. P a ≡ true) d names nodes held equal)

-- ---- blocks

signal_always_holds : (P : VAlways → Type 0) (d : Design) (names : List Name) (x : ℕ) → ((body : List StmtId) → drive d x ≡ CombBlock body → P (record { clock = None; body = comb_body d names x body }))
    → ((k : ℕ) (body : List StmtId) → drive d x ≡ Sync k body → P (record { clock = Some (clock d k); body = sync_body d names x k body })) → AllByRecursion P (signal_always d names x)
unfolding signal_always
signal_always_holds P d names x combined clocked = by (drive d x) refl
  where
    by : (r : Drive) → drive d x ≡ r → AllByRecursion P (always_by d names x r)
    by Input e = tt
    by Undriven e = tt
    by (CombAssign value) e = tt
    by (CombBlock body) e = (combined body e, tt)
    by (Sync k body) e = (clocked k body e, tt)

memory_always_holds : (P : VAlways → Type 0) (d : Design) (names : List Name) (k : ℕ) → ((x : ℕ) → writing_domain k (circuit_of d).ports ≡ Some x → P (record { clock = Some (clock d x); body = memory_body d names k }))
    → AllByRecursion P (memory_always d names k)
unfolding memory_always
memory_always_holds P d names k h = by (writing_domain k (circuit_of d).ports) refl
  where
    by : (o : Option ℕ) → writing_domain k (circuit_of d).ports ≡ o → AllByRecursion P (clocked d (memory_body d names k) o)
    by None e = tt
    by (Some x) e = (h x e, tt)

-- what holds of the blocks of signals and of memories
pub record HoldsOfBlocks (P : VAlways → Type 0) (d : Design) (names : List Name) : Type 0 where
  pub comb : (x : ℕ) (body : List StmtId) → x < length d.signals → drive d x ≡ CombBlock body → P (record { clock = None; body = comb_body d names x body })
  pub sync : (x k : ℕ) (body : List StmtId) → x < length d.signals → drive d x ≡ Sync k body → P (record { clock = Some (clock d k); body = sync_body d names x k body })
  pub memories : (k x : ℕ) → k < length d.memories → writing_domain k (circuit_of d).ports ≡ Some x → P (record { clock = Some (clock d x); body = memory_body d names k })

pub blocks_hold : (P : VAlways → Type 0) (d : Design) (names : List Name) → HoldsOfBlocks P d names → AllByRecursion P (emitted d names).always
unfolding emitted
blocks_hold P d names h =
    each_of_two P (flat_map (signal_always d names) (places_from 0 d.signals)) (flat_map (memory_always d names) (places_from 0 d.memories))
    (each_at_places P (signal_always d names) 0 d.signals
    (λ j p q. signal_always_holds P d names j (λ body e. h.comb j body (omega arith) e) (λ k body e. h.sync j k body (omega arith) e)))
    (each_at_places P (memory_always d names) 0 d.memories (λ j p q. memory_always_holds P d names j (λ x e. h.memories j x (omega arith) e)))

pub each_always : (P : VAlways → Bool) (d : Design) (names : List Name) → HoldsOfBlocks (λ a. P a ≡ true) d names → IsTrue (list_all P (emitted d names).always)
each_always P d names h = all_from_each P (emitted d names).always (blocks_hold (λ a. P a ≡ true) d names h)

-- ---- what may be read

sync_within : (x k n : ℕ) (ds : List circuit.Domain) (other : circuit.Role) → (other ≡ circuit.Sync n → ⊥) → circuit.sync_role x k ds other ≡ circuit.Sync n → n < k + length ds
sync_within x k n [] other ne e = absurd (ne e)
sync_within x k n (y ∷ ys) other ne e = by (drives_block x y.stmts) e (λ t. sync_within x (k + 1) n ys other ne t)
  where
    by : (b : Bool) → cond b (circuit.Sync k) (circuit.sync_role x (k + 1) ys other) ≡ circuit.Sync n → (circuit.sync_role x (k + 1) ys other ≡ circuit.Sync n → n < k + 1 + length ys) → n < k + suc (length ys)
    by true t rest =
        let same : k ≡ n = cc in
        omega arith
    by false t rest = let within = rest t in omega arith

pub domains-length : (d : Design) (k : ℕ) (ys : List Domain) → length (domains_from d k ys) ≡ length ys
domains-length d k [] = refl
domains-length d k (y ∷ ys) = ap suc (domains-length d (k + 1) ys)

-- the domain that drives a signal is one of the design
pub role_within : (d : Design) (x n : ℕ) → circuit.role (circuit_of d) x ≡ circuit.Sync n → n < length d.domains
unfolding circuit_of
role_within d x n e = by (drives_block x (circuit_of d).comb) e
  where
    idle : circuit.Role
    idle = circuit.read_role x 0 (circuit_of d).ports (circuit.idle_role (circuit_of d) x)

    by : (b : Bool) → cond b circuit.Comb (circuit.sync_role x 0 (domains_from d 0 d.domains) idle) ≡ circuit.Sync n → n < length d.domains
    by true t = absurd cc
    by false t =
        let within = sync_within x 0 n (domains_from d 0 d.domains) idle (λ e. idle_not_sync (circuit_of d) x n (read_other x 0 (circuit_of d).ports (circuit.idle_role (circuit_of d) x) (circuit.Sync n) refl e)) t in
        omega (arith, within, domains-length d 0 d.domains)

drive_is_sync : (d : Design) (x n : ℕ) (body : List StmtId) (r : circuit.Role) → drive_by d x r ≡ Sync n body → r ≡ circuit.Sync n
drive_is_sync d x n body circuit.Input e = absurd cc
drive_is_sync d x n body circuit.Undriven e = absurd cc
drive_is_sync d x n body circuit.Comb e = absurd (by (single d (own d x d.comb)) e)
  where
    by : (o : Option ExprId) → comb_drive (own d x d.comb) o ≡ Sync n body → ⊥
    by None t = cc
    by (Some value) t = cc
drive_is_sync d x n body (circuit.Read j) e = absurd cc
drive_is_sync d x n body (circuit.Sync k) e = let same : k ≡ n = cc in ap circuit.Sync same

pub drive_within : (d : Design) (x n : ℕ) (body : List StmtId) → drive d x ≡ Sync n body → n < length d.domains
unfolding drive
drive_within d x n body e = role_within d x n (drive_is_sync d x n body (circuit.role (circuit_of d) x) e)

domain_within : (n : ℕ) (b : Bool) (o : Option ℕ) (x : ℕ) → HasDomain n b o → o ≡ Some x → x < n
domain_within n true None x h e = absurd cc
domain_within n true (Some k) x h e = let same : k ≡ x = cc in subst (λ (i : ℕ). i < n) same h
domain_within n false o x h e = absurd (let none : None ≡ Some x = sym h ∙ e in cc)

listed_within : (d : Design) (k x : ℕ) (qs : List Port) → EachOf (IsPort d) qs → writing_domain k (map port_of qs) ≡ Some x → x < length d.domains
listed_within d k x [] h e = absurd cc
listed_within d k x (q ∷ qs) h e =
    by (writes_memory k (port_of q)) e (λ t. domain_within (length d.domains) (is_clocked q.mode q.we) q.domain x h.0.domain t) (λ t. listed_within d k x qs h.1 t)
  where
    by : (b : Bool) → cond b q.domain (writing_domain k (map port_of qs)) ≡ Some x → (q.domain ≡ Some x → x < length d.domains) → (writing_domain k (map port_of qs) ≡ Some x → x < length d.domains) → x < length d.domains
    by true t f g = f t
    by false t f g = g t

-- the domain of a memory's writers is one of the design
pub writing_within : (d : Design) → Keeps d → (k x : ℕ) → writing_domain k (circuit_of d).ports ≡ Some x → x < length d.domains
unfolding circuit_of
writing_within d keeps k x e = listed_within d k x d.ports keeps.ports e

-- a name that is no clock of the design is no clock of the module
pub not_clock : (d : Design) (names : List Name) → Keeps d → (n : Name) → IsNoClock d n → is_clock (emitted d names) n ≡ false
not_clock d names keeps n h =
    ap (λ b. b && is_input n (emitted d names).ports) (none_from_each (λ (a : VAlways). names_clock n a.clock) (emitted d names).always
    (blocks_hold (λ a. names_clock n a.clock ≡ false) d names (record {
      comb = λ x body lt e. refl;
      sync = λ x k body lt e. name_other (clock d k) n (h.each k (drive_within d x k body e));
      memories = λ k x lt e. name_other (clock d x) n (h.each x (writing_within d keeps k x e));
    })))

pub declares : (d : Design) (names : List Name) → Keeps d → NamesFit d names → PortsFit d → DeclaresNets d names (sizes (emitted d names))
unfolding signal_net
declares d names keeps fit ports = record {
  signals = λ x lt. rw (net_of_signal d names keeps fit ports x lt) refl;
  nodes = λ k is. rw (net_of_node d names keeps fit k is) refl;
  memories = λ k lt. rw (no_net_of_memory d names keeps fit k lt, memory_of_name d names fit k lt) refl;
}

pub lets_read : (d : Design) (names : List Name) → Keeps d → NamesFit d names → PortsFit d → LetsRead d names (emitted d names)
lets_read d names keeps fit ports = record {
  declares = declares d names keeps fit ports;
  signals = λ x lt. rw (net_of_signal d names keeps fit ports x lt, not_clock d names keeps (net names x) (net_no_clock d names fit x lt)) refl;
  nodes = λ k is. rw (net_of_node d names keeps fit k is, not_clock d names keeps (node_net d.exprs k) (node_no_clock d keeps k)) refl;
  memories = λ k lt. rw (memory_of_name d names fit k lt) refl;
}
