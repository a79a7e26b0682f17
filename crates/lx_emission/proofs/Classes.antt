-- The classes of names, and that each name is declared once.
use Rattle.std.proofs.Common.{◌≡◌, ℕ, zero, suc, ◌<◌, ◌≤◌, ◌+◌, Bool, true, false, cond, List, [], ◌∷◌, ◌++◌, length, map, flat_map, refl, sym, ap, ◌∙◌, subst, arith, inl, inr, ◌⊎◌}
use Rattle.std.specs.Prelude.{Some, None, slice_get, IsTrue}
use Rattle.std.specs.Str.{bytes_eq}
use Rattle.std.proofs.lemmas.Bool.{cases_eq}
use Rattle.std.proofs.lemmas.Slice.Eq.{bytes_eq-Decides}
use Rattle.std.proofs.lemmas.Bool.Decides.{not_from_Decides}
use Rattle.lx_vtext.specs.Tree.{Name, VNet, VPort, VDecl, NetDecl, MemoryDecl, VMemory}
use Rattle.lx_vmeaning.specs.Runs.{decl_nets, decl_memories, all_nets, net_named, memory_named}
use Rattle.lx_vmeaning.specs.Naming.{are_new, decl_name, declared_names}
use Rattle.lx_fhdl.specs.Designs.{memory_at}
use Rattle.lx_fhdl.specs.Keeping.{Keeps}
use Rattle.lx_fhdl.specs.declared.design.Design.{Design}
use Rattle.lx_emission.specs.Naming.{net, node_net, clock, memory_name, NamesFit}
use Rattle.lx_emission.specs.Signals.{signal_net}
use Rattle.lx_emission.specs.Emission.{ports_of, is_port, is_net_node, inner_decl, memory_decls, node_decl, decls_of, places_from, emitted}
use Rattle.lx_emission.specs.Memories.{memory_decl}
use Rattle.lx_emission.specs.Emits.{PortsFit}
use Rattle.lx_emission.proofs.Lists.{name_other, first_of_two, second_of_two, none_at_places, called, is_once, distinct_from_once, collects_memories}
use Rattle.lx_emission.proofs.Names.{memory_once}
use Rattle.lx_emission.proofs.Setting.{IsNetNode}
use Rattle.lx_emission.proofs.Lists.{matching, collects_matching, matching_called, names_of, names_of_three, none_of_three, once_named, map_append_three, join_parts}
use Rattle.lx_vmeaning.proofs.Declared.{new_from_distinct}
use Rattle.lx_emission.proofs.Structure.{IsNoSignal, IsNoNode, IsNoClock, IsNoMemory, node_wire, net_node_at, net_node_is, net_node_within, port_nets, decl_called, nets_parts, nets_of_signal, nets_of_node, nets_of_clock, nets_of_none, net_of_none, net_no_memory, node_no_memory, clock_no_memory, memory_no_signal, memory_no_node, memory_no_clock}
use Rattle.lx_circuit.proofs.Cases.{by_test}

-- ---- the classes of names

-- a name is a signal's, a node's, a clock's, a memory's, or nothing's
pub data Class (d : Design) (names : List Name) (n : Name) : Type 0 where
  OfSignal : (x : ℕ) → x < length d.signals → n ≡ net names x → Class d names n
  OfNode : (k : ℕ) → IsNetNode d k → n ≡ node_net d.exprs k → Class d names n
  OfClock : (k : ℕ) → k < length d.domains → n ≡ clock d k → Class d names n
  OfMemory : (k : ℕ) → k < length d.memories → n ≡ memory_name d names k → Class d names n
  OfNothing : IsNoSignal d names n → IsNoNode d n → IsNoClock d n → IsNoMemory d names n → Class d names n

-- a number below a bound with a property, or none
search_below : (P : ℕ → Type 0) → ((j : ℕ) → P j ⊎ (P j → ⊥)) → (n : ℕ) → ((j : ℕ) × (j < n) × P j) ⊎ ((j : ℕ) → j < n → P j → ⊥)
search_below P test zero = inr (λ j lt p. absurd (omega arith))
search_below P test (suc n) = elim (test n) [
  | inl here ↦ inl (n, omega arith, here)
  | inr gone ↦ elim (search_below P test n) [
    | inl found ↦ inl (found.0, omega (arith, found.1), found.2)
    | inr none ↦ inr (λ j lt p. elim (cases_eq j n) [
      | inl same ↦ gone (subst P same p)
      | inr other ↦ none j (omega (arith, other)) p
    ])
  ]
]

is_same : (n m : Name) → (n ≡ m) ⊎ (n ≡ m → ⊥)
is_same n m = by_test (bytes_eq n m) (λ t. inl ((bytes_eq-Decides n m).0 t)) (λ t. inr (not_from_Decides (bytes_eq n m) (bytes_eq-Decides n m) t))

node_here : (d : Design) (n : Name) (k : ℕ) → (IsNetNode d k × (n ≡ node_net d.exprs k)) ⊎ (IsNetNode d k × (n ≡ node_net d.exprs k) → ⊥)
node_here d n k =
    by_test (is_net_node (slice_get d.exprs k))
    (λ t. elim (is_same n (node_net d.exprs k)) [ inl same ↦ inl (net_node_at d k t, same) | inr other ↦ inr (λ p. other p.1) ])
    (λ t. inr (λ p. let s = net_node_is d k p.0 in cc))

pub name_classes : (d : Design) (names : List Name) (n : Name) → Class d names n
name_classes d names n =
    elim (search_below (λ x. n ≡ net names x) (λ x. is_same n (net names x)) (length d.signals)) [
      | inl found ↦ OfSignal found.0 found.1 found.2
      | inr no_signal ↦ elim (search_below (λ k. IsNetNode d k × (n ≡ node_net d.exprs k)) (λ k. node_here d n k) (length d.exprs)) [
        | inl found ↦ OfNode found.0 found.2.0 found.2.1
        | inr no_node ↦ elim (search_below (λ k. n ≡ clock d k) (λ k. is_same n (clock d k)) (length d.domains)) [
          | inl found ↦ OfClock found.0 found.1 found.2
          | inr no_clock ↦ elim (search_below (λ k. n ≡ memory_name d names k) (λ k. is_same n (memory_name d names k)) (length d.memories)) [
            | inl found ↦ OfMemory found.0 found.1 found.2
            | inr no_memory ↦
                OfNothing
                (record { each = λ x lt e. no_signal x lt (sym e) })
                (record { each = λ k is e. no_node k (net_node_within d k is) (is, sym e) })
                (record { each = λ k lt e. no_clock k lt (sym e) })
                (record { each = λ k lt e. no_memory k lt (sym e) })
          ]
        ]
      ]
    ]

-- ---- memories by name

no_memory_inner : (d : Design) (names : List Name) (x : ℕ) → decl_memories (inner_decl d names x) ≡ []
unfolding inner_decl
no_memory_inner d names x = by (is_port d x)
  where
    by : (b : Bool) → decl_memories (cond b [] (NetDecl (signal_net d names x) ∷ [])) ≡ []
    by true = refl
    by false = refl

no_memory_node : (d : Design) (names : List Name) (k : ℕ) → decl_memories (node_decl d names k) ≡ []
unfolding node_decl
no_memory_node d names k = by (is_net_node (slice_get d.exprs k))
  where
    by : (b : Bool) → decl_memories (cond b (NetDecl (node_wire d k) ∷ []) []) ≡ []
    by true = refl
    by false = refl

no_memories_inner : (d : Design) (names : List Name) → decl_memories (flat_map (inner_decl d names) (places_from 0 d.signals)) ≡ []
no_memories_inner d names = none_at_places decl_memories collects_memories (inner_decl d names) 0 d.signals (λ j p q. no_memory_inner d names j)

no_memories_nodes : (d : Design) (names : List Name) → decl_memories (flat_map (node_decl d names) (places_from 0 d.exprs)) ≡ []
no_memories_nodes d names = none_at_places decl_memories collects_memories (node_decl d names) 0 d.exprs (λ j p q. no_memory_node d names j)

-- the memory of a place
abbrev pub the_memory : Design → List Name → ℕ → VMemory
the_memory d names k = memory_decl (memory_name d names k) (memory_at d k)

own_memories : (f : ℕ → VMemory) (ks : List ℕ) → decl_memories (map (λ k. MemoryDecl (f k)) ks) ≡ map f ks
own_memories f [] = refl
own_memories f (k ∷ ks) = ap (λ t. f k ∷ t) (own_memories f ks)

-- the module has the memories of the design
pub memories_are : (d : Design) (names : List Name) → decl_memories (emitted d names).decls ≡ map (the_memory d names) (places_from 0 d.memories)
unfolding emitted decls_of memory_decls
memories_are d names =
    let inner = flat_map (inner_decl d names) (places_from 0 d.signals) in
    let own = map (λ k. MemoryDecl (the_memory d names k)) (places_from 0 d.memories) in
    let nodes = flat_map (node_decl d names) (places_from 0 d.exprs) in
    collects_memories.joined inner (own ++ nodes)
    ∙ second_of_two (decl_memories inner) (decl_memories (own ++ nodes)) (no_memories_inner d names)
    ∙ (collects_memories.joined own nodes
    ∙ (first_of_two (decl_memories own) (decl_memories nodes) (no_memories_nodes d names) ∙ own_memories (the_memory d names) (places_from 0 d.memories)))

named_here : {T : Type 0} (f : ℕ → VMemory) (n : Name) (j k : ℕ) (xs : List T) → k ≤ j → j < k + length xs → (f j).name ≡ n → ((i : ℕ) → k ≤ i → i < k + length xs → (f i).name ≡ n → i ≡ j)
    → memory_named n (map f (places_from k xs)) ≡ Some (f j)
named_here f n j k [] low high e once = absurd (omega arith)
named_here f n j k (x ∷ xs) low high e once = by_test (bytes_eq (f k).name n)
    (λ t. let same = once k (omega arith) (omega arith) ((bytes_eq-Decides (f k).name n).0 t) in rw t (ap (λ (i : ℕ). Some (f i)) same))
    (λ t.
    let other : k ≡ j → ⊥ = λ s. not_from_Decides (bytes_eq (f k).name n) (bytes_eq-Decides (f k).name n) t (ap (λ (i : ℕ). (f i).name) s ∙ e) in
    rw t (named_here f n j (k + 1) xs (omega (arith, other)) (omega arith) e (λ i p q. once i (omega arith) (omega arith))))

pub memory_of_name : (d : Design) (names : List Name) → NamesFit d names → (k : ℕ) → k < length d.memories → memory_named (memory_name d names k) (decl_memories (emitted d names).decls) ≡ Some (the_memory d names k)
memory_of_name d names fit k lt =
    ap (memory_named (memory_name d names k)) (memories_are d names)
    ∙ named_here (the_memory d names) (memory_name d names k) k 0 d.memories (omega arith) (omega arith) refl (λ i p q e. memory_once d names fit i k (omega arith) lt e)

-- a memory's name is no net's
pub no_net_of_memory : (d : Design) (names : List Name) → Keeps d → NamesFit d names → (k : ℕ) → k < length d.memories → net_named (memory_name d names k) (all_nets (emitted d names)) ≡ None
no_net_of_memory d names keeps fit k lt =
    net_of_none d names keeps (memory_name d names k) (memory_no_signal d names fit k lt) (memory_no_node d names fit k lt) (memory_no_clock d names fit k lt)

-- ---- each name is declared once

-- declarations of nets alone
nets_alone : (ds : List VDecl) → decl_memories ds ≡ [] → map decl_name ds ≡ map (λ (x : VNet). x.name) (decl_nets ds)
nets_alone [] e = refl
nets_alone (NetDecl x ∷ ds) e = ap (λ t. x.name ∷ t) (nets_alone ds e)
nets_alone (MemoryDecl x ∷ ds) e = absurd cc

memory_names : (f : ℕ → VMemory) (ks : List ℕ) → map decl_name (map (λ k. MemoryDecl (f k)) ks) ≡ map (λ k. (f k).name) ks
memory_names f [] = refl
memory_names f (k ∷ ks) = ap (λ t. (f k).name ∷ t) (memory_names f ks)

port_names : (ps : List VPort) → map (λ (p : VPort). p.net.name) ps ≡ map (λ (x : VNet). x.name) (map (λ (p : VPort). p.net) ps)
port_names [] = refl
port_names (p ∷ ps) = ap (λ t. p.net.name ∷ t) (port_names ps)

-- the memories of a name
abbrev matching_memories : Design → List Name → Name → List Name
matching_memories d names n = matching n (map (λ k. memory_name d names k) (places_from 0 d.memories))

-- the declarations of a name: of ports, of the other signals, of memories, and of nodes
declared_parts : (d : Design) (names : List Name) (n : Name)
    → matching n (declared_names (emitted d names))
    ≡ names_of (port_nets n (ports_of d names)) ++ (names_of (decl_called n (flat_map (inner_decl d names) (places_from 0 d.signals))) ++ (matching_memories d names n ++ names_of (decl_called n (flat_map (node_decl d names) (places_from 0 d.exprs)))))
unfolding emitted decls_of memory_decls
declared_parts d names n =
    let inner = flat_map (inner_decl d names) (places_from 0 d.signals) in
    let own = map (λ k. MemoryDecl (the_memory d names k)) (places_from 0 d.memories) in
    let nodes = flat_map (node_decl d names) (places_from 0 d.exprs) in
    let c = collects_matching n in
    let decls = map_append_three decl_name inner own nodes in
    c.joined (map (λ (p : VPort). p.net.name) (ports_of d names)) (map decl_name (inner ++ (own ++ nodes)))
    ∙ join_parts _ _ _ _
    (ap (matching n) (port_names (ports_of d names)) ∙ matching_called n (map (λ (p : VPort). p.net) (ports_of d names)))
    (ap (matching n) decls ∙ (c.joined (map decl_name inner) (map decl_name own ++ map decl_name nodes)
    ∙ join_parts _ _ _ _
    (ap (matching n) (nets_alone inner (no_memories_inner d names)) ∙ matching_called n (decl_nets inner))
    (c.joined (map decl_name own) (map decl_name nodes)
    ∙ join_parts _ _ _ _
    (ap (matching n) (memory_names (the_memory d names) (places_from 0 d.memories)))
    (ap (matching n) (nets_alone nodes (no_memories_nodes d names)) ∙ matching_called n (decl_nets nodes)))))

none_matches : {T : Type 0} (f : ℕ → Name) (n : Name) (k : ℕ) (xs : List T) → ((i : ℕ) → k ≤ i → i < k + length xs → f i ≡ n → ⊥) → matching n (map f (places_from k xs)) ≡ []
none_matches f n k [] h = refl
none_matches f n k (x ∷ xs) h = rw (name_other (f k) n (h k (omega arith) (omega arith))) (none_matches f n (k + 1) xs (λ i p q. h i (omega arith) (omega arith)))

one_matches : {T : Type 0} (f : ℕ → Name) (j k : ℕ) (xs : List T) → k ≤ j → j < k + length xs → ((i : ℕ) → i < k + length xs → f i ≡ f j → i ≡ j) → matching (f j) (map f (places_from k xs)) ≡ f j ∷ []
one_matches f j k [] low high once = absurd (omega arith)
one_matches f j k (x ∷ xs) low high once = elim (cases_eq k j) [
  | inl same ↦
      let here : f k ≡ f j = ap f same in
      let rest = none_matches f (f j) (k + 1) xs (λ i p q e. let s = once i (omega arith) e in omega (arith, s, same, p)) in
      rw ((bytes_eq-Decides (f k) (f j)).1 here) (ap (λ t. t ∷ matching (f j) (map f (places_from (k + 1) xs))) here ∙ ap (λ t. f j ∷ t) rest)
  | inr other ↦
      rw (name_other (f k) (f j) (λ e. other (once k (omega arith) e))) (one_matches f j (k + 1) xs (omega (arith, other)) (omega arith) (λ i q. once i (omega arith)))
]

-- no memory has the name
no_match : (d : Design) (names : List Name) (n : Name) → IsNoMemory d names n → matching_memories d names n ≡ []
no_match d names n none = none_matches (λ k. memory_name d names k) n 0 d.memories (λ i p q. none.each i (omega arith))

one_match : (d : Design) (names : List Name) → NamesFit d names → (j : ℕ) → j < length d.memories → matching_memories d names (memory_name d names j) ≡ memory_name d names j ∷ []
one_match d names fit j lt = one_matches (λ k. memory_name d names k) j 0 d.memories (omega arith) (omega arith) (λ i q e. memory_once d names fit i j (omega arith) lt e)

-- a name that no memory has is declared as often as it is a net's
once_net : (d : Design) (names : List Name) (n : Name) → IsNoMemory d names n → is_once (called n (all_nets (emitted d names))) ≡ true → is_once (matching n (declared_names (emitted d names))) ≡ true
once_net d names n none once =
    let a = port_nets n (ports_of d names) in
    let b = decl_called n (flat_map (inner_decl d names) (places_from 0 d.signals)) in
    let c = decl_called n (flat_map (node_decl d names) (places_from 0 d.exprs)) in
    ap is_once (declared_parts d names n ∙ ap (λ t. names_of a ++ (names_of b ++ (t ++ names_of c))) (no_match d names n none))
    ∙ (ap is_once (sym (names_of_three a b c)) ∙ (ap is_once (ap names_of (sym (nets_parts d names n))) ∙ once_named (called n (all_nets (emitted d names))) once))

once_memory : (d : Design) (names : List Name) → Keeps d → NamesFit d names → (k : ℕ) → k < length d.memories → is_once (matching (memory_name d names k) (declared_names (emitted d names))) ≡ true
once_memory d names keeps fit k lt =
    let n = memory_name d names k in
    let a = port_nets n (ports_of d names) in
    let b = decl_called n (flat_map (inner_decl d names) (places_from 0 d.signals)) in
    let c = decl_called n (flat_map (node_decl d names) (places_from 0 d.exprs)) in
    let none = none_of_three a b c (sym (nets_parts d names n) ∙ nets_of_none d names keeps n (memory_no_signal d names fit k lt) (memory_no_node d names fit k lt) (memory_no_clock d names fit k lt)) in
    ap is_once (declared_parts d names n) ∙ rw (none.0, none.1, none.2, one_match d names fit k lt) refl

one_declaration : (d : Design) (names : List Name) → Keeps d → NamesFit d names → PortsFit d → (n : Name) → Class d names n → is_once (matching n (declared_names (emitted d names))) ≡ true
one_declaration d names keeps fit ports n (OfSignal x lt e) =
    subst (λ (k : Name). is_once (matching k (declared_names (emitted d names))) ≡ true) (sym e)
    (once_net d names (net names x) (net_no_memory d names fit x lt) (rw (nets_of_signal d names keeps fit ports x lt) refl))
one_declaration d names keeps fit ports n (OfNode k is e) =
    subst (λ (k : Name). is_once (matching k (declared_names (emitted d names))) ≡ true) (sym e)
    (once_net d names (node_net d.exprs k) (node_no_memory d names fit k) (rw (nets_of_node d names keeps fit k is) refl))
one_declaration d names keeps fit ports n (OfClock k lt e) =
    subst (λ (k : Name). is_once (matching k (declared_names (emitted d names))) ≡ true) (sym e)
    (once_net d names (clock d k) (clock_no_memory d names fit k lt) (rw (nets_of_clock d names keeps fit k lt) refl))
one_declaration d names keeps fit ports n (OfMemory k lt e) =
    subst (λ (k : Name). is_once (matching k (declared_names (emitted d names))) ≡ true) (sym e) (once_memory d names keeps fit k lt)
one_declaration d names keeps fit ports n (OfNothing signals nodes clocks memories) =
    once_net d names n memories (rw (nets_of_none d names keeps n signals nodes clocks) refl)

pub declared_once : (d : Design) (names : List Name) → Keeps d → NamesFit d names → PortsFit d → IsTrue (are_new [] (declared_names (emitted d names)))
declared_once d names keeps fit ports =
    new_from_distinct (declared_names (emitted d names)) (distinct_from_once (declared_names (emitted d names)) (λ n. one_declaration d names keeps fit ports n (name_classes d names n)))
