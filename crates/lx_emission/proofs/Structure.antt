-- The structure of the module of a design: its ports and nets, and which names they have.
use Rattle.std.proofs.Common.{◌≡◌, ℕ, ◌<◌, ◌≤◌, ◌+◌, Bool, true, false, not, ◌&&◌, ◌||◌, cond, List, [], ◌∷◌, ◌++◌, length, map, flat_map, refl, sym, ap, ◌∙◌, subst, arith, inl, inr, eqb-true, eq-eqb, ne_eqb, append_assoc}
use Rattle.std.specs.Prelude.{is_some, Option, Some, None, option_map, slice_get, IfSome, nat_eq, codes}
use Rattle.std.specs.List.{list_any}
use Rattle.std.specs.Str.{bytes_eq}
use Rattle.std.proofs.lemmas.Bool.{and_parts, cases_eq, not-true, false_from_ne_true, or_parts}
use Rattle.std.proofs.lemmas.List.{append_cancel_right}
use Rattle.std.proofs.lemmas.Option.{slice_get_within}
use Rattle.std.proofs.lemmas.Slice.Eq.{bytes_eq-Decides}
use Rattle.lx_circuit.specs.Circuit as circuit
use Rattle.lx_vtext.specs.Tree.{Name, VNet, VPort, VDecl, NetDecl, MemoryDecl, VMemory}
use Rattle.lx_vmeaning.specs.Runs.{decl_nets, all_nets, net_named, outside_drivers, Outside}
use Rattle.lx_vmeaning.specs.Naming.{is_register, is_net, is_input}
use Rattle.lx_fhdl.specs.Designs.{circuit_of, signal_number, domains_from, memory_at}
use Rattle.lx_fhdl.specs.Keeping.{Keeps, IsDomain, HasResetPath, IsReset, reset_name, EachOf, is_distinct}
use Rattle.lx_fhdl.specs.declared.exprs.SigId.{SigId}
use Rattle.lx_fhdl.specs.declared.exprs.Expr.{Expr}
use Rattle.lx_fhdl.specs.declared.design.Signal.{Signal}
use Rattle.lx_fhdl.specs.declared.design.Domain.{Domain}
use Rattle.lx_fhdl.specs.declared.design.Design.{Design}
use Rattle.lx_emission.specs.Naming.{net, node_net, nets_before, clock, memory_name, NamesFit}
use Rattle.lx_emission.specs.Nodes.{node_shape}
use Rattle.lx_emission.specs.Signals.{own, drive, init_of, shape_of_signal, reset_of_signal, signal_net}
use Rattle.lx_emission.specs.Emission.{wire, signal_port, reset_port, domain_port, domain_ports, ports_of, is_port, is_input_drive, is_net_node, inner_decl, memory_decls, node_decl, decls_of, places_from, emitted}
use Rattle.lx_emission.specs.Memories.{memory_decl}
use Rattle.lx_emission.specs.Emits.{PortsFit, are_once, none_is_reset}
use Rattle.lx_emission.proofs.Lists.{name_other, Collects, collects_next, collects_after, collects_map, none_of_two, first_of_two, second_of_two, none_at_places, one_at_places, called, first_net, net_named_is, input_is, collects_outside, collects_called, collects_decls}
use Rattle.lx_emission.proofs.Names.{node_net_once, clock_once, clock_not_node, net_once, net_not_clock, net_not_node, net_not_memory, memory_not_clock, memory_not_node}
use Rattle.lx_emission.proofs.Setting.{IsNetNode}

-- ---- the resets of domains

-- a signal has the path of the reset of a domain of this name
pub record IsResetOf (d : Design) (name : List ℕ) (r : ℕ) : Type 0 where
  pub signal : Signal
  pub there : slice_get d.signals r ≡ Some signal
  pub path : signal.path ≡ reset_name name ∷ []

reset_is : (d : Design) (x : Domain) (r : ℕ) (o : Option Signal) → slice_get d.signals r ≡ o → HasResetPath x o → IsResetOf d x.name r
reset_is d x r None e h = absurd h
reset_is d x r (Some s) e h = record { signal = s; there = e; path = h }

reset_of : (d : Design) (x : Domain) (r : SigId) → IsDomain d x → x.reset ≡ Some r → IsResetOf d x.name r.0
reset_of d x r h e =
    let p = subst (λ o. IfSome o (IsReset d x)) e h.reset in
    reset_is d x r.0 (slice_get d.signals r.0) refl p.path

pub reset_within : (d : Design) (x : Domain) (r : SigId) → IsDomain d x → x.reset ≡ Some r → r.0 < length d.signals
reset_within d x r h e = let p = reset_of d x r h e in slice_get_within d.signals r.0 p.signal p.there

-- one signal is the reset of domains of one name
reset_once : (d : Design) (a b : List ℕ) (r : ℕ) → IsResetOf d a r → IsResetOf d b r → a ≡ b
reset_once d a b r p q =
    let first : Some p.signal ≡ Some q.signal = sym p.there ∙ q.there in
    let same : p.signal ≡ q.signal = cc in
    let paths : reset_name a ∷ [] ≡ reset_name b ∷ [] = sym p.path ∙ ap (λ (s : Signal). s.path) same ∙ q.path in
    let names : reset_name a ≡ reset_name b = cc in
    append_cancel_right a b (codes "_rst") names

-- the reset of another domain
other_reset : (d : Design) (name : List ℕ) (r : ℕ) (y : Domain) → IsResetOf d name r → IsDomain d y → bytes_eq name y.name ≡ false → circuit.is_named r (option_map signal_number y.reset) ≡ false
other_reset d name r y p h ne = by y.reset refl
  where
    by : (o : Option SigId) → y.reset ≡ o → circuit.is_named r (option_map signal_number o) ≡ false
    by None e = refl
    by (Some q) e =
        false_from_ne_true (nat_eq q.0 r) (λ t.
        let same = eqb-true q.0 r t in
        let own : IsResetOf d y.name r = subst (λ i. IsResetOf d y.name i) same (reset_of d y q h e) in
        let found = (bytes_eq-Decides name y.name).1 (reset_once d name y.name r p own) in
        cc)

no_reset : (d : Design) (name : List ℕ) (r k : ℕ) (ys : List Domain) → IsResetOf d name r → EachOf (IsDomain d) ys → list_any (bytes_eq name) (map (λ (x : Domain). x.name) ys) ≡ false → circuit.is_some_reset r (domains_from d k ys) ≡ false
no_reset d name r k [] p h ne = refl
no_reset d name r k (y ∷ ys) p h ne =
    let parts = or_parts (bytes_eq name y.name) (list_any (bytes_eq name) (map (λ (x : Domain). x.name) ys)) ne in
    rw (other_reset d name r y p h.0 parts.0) (no_reset d name r (k + 1) ys p h.1 parts.1)

-- ---- what is collected from the ports

abbrev pub clock_port : Design → ℕ → VPort
clock_port d k = record { is_input = true; net = wire false 1 (clock d k) }

-- nothing comes from the clocks from number k on, but those that a test excepts
abbrev pub NoneAtClocks : {B : Type 0} → (List VPort → List B) → Design → (ℕ → Type 0) → Type 0
NoneAtClocks F d Other = (k : ℕ) → k < length d.domains → Other k → F (clock_port d k ∷ []) ≡ []

abbrev pub NoneAtSignals : {B : Type 0} → (List VPort → List B) → Design → List Name → (ℕ → Type 0) → Type 0
NoneAtSignals F d names Other = (x : ℕ) → x < length d.signals → Other x → F (signal_port d names x ∷ []) ≡ []

-- the ports of a domain
domain_part : {B : Type 0} (F : List VPort → List B) → Collects F → (d : Design) (names : List Name) (k : ℕ) (y : Domain) (ys : List Domain)
    → F (domain_ports d names k (y ∷ ys)) ≡ F (clock_port d k ∷ []) ++ (F (reset_port d names y.reset) ++ F (domain_ports d names (k + 1) ys))
domain_part F c d names k y ys =
    c.joined (domain_port d names k y) (domain_ports d names (k + 1) ys)
    ∙ ap (λ t. t ++ F (domain_ports d names (k + 1) ys)) (collects_next F c (clock_port d k) (reset_port d names y.reset))
    ∙ append_assoc (F (clock_port d k ∷ [])) (F (reset_port d names y.reset)) (F (domain_ports d names (k + 1) ys))

-- no clock and no signal gives anything
reset_none : {B : Type 0} (F : List VPort → List B) → Collects F → (d : Design) (names : List Name) (y : Domain) → IsDomain d y → NoneAtSignals F d names (λ x. Unit {0}) → F (reset_port d names y.reset) ≡ []
reset_none F c d names y h none = by y.reset refl
  where
    by : (o : Option SigId) → y.reset ≡ o → F (reset_port d names o) ≡ []
    by None e = c.none
    by (Some r) e = none r.0 (reset_within d y r h e) tt

domains_none : {B : Type 0} (F : List VPort → List B) → Collects F → (d : Design) (names : List Name) (k : ℕ) (ys : List Domain) → EachOf (IsDomain d) ys → NoneAtSignals F d names (λ x. Unit {0})
    → ((j : ℕ) → k ≤ j → j < k + length ys → F (clock_port d j ∷ []) ≡ []) → F (domain_ports d names k ys) ≡ []
domains_none F c d names k [] h signals clocks = c.none
domains_none F c d names k (y ∷ ys) h signals clocks =
    domain_part F c d names k y ys
    ∙ none_of_two (F (clock_port d k ∷ [])) (F (reset_port d names y.reset) ++ F (domain_ports d names (k + 1) ys)) (clocks k (omega arith) (omega arith))
    (none_of_two (F (reset_port d names y.reset)) (F (domain_ports d names (k + 1) ys)) (reset_none F c d names y h.0 signals)
    (domains_none F c d names (k + 1) ys h.1 signals (λ j p q. clocks j (omega arith) (omega arith))))

-- one clock gives something
domains_clock : {B : Type 0} (F : List VPort → List B) → Collects F → (d : Design) (names : List Name) (n k : ℕ) (ys : List Domain) → EachOf (IsDomain d) ys → NoneAtSignals F d names (λ x. Unit {0}) → k ≤ n → n < k + length ys
    → ((j : ℕ) → k ≤ j → j < k + length ys → (j ≡ n → ⊥) → F (clock_port d j ∷ []) ≡ []) → F (domain_ports d names k ys) ≡ F (clock_port d n ∷ [])
domains_clock F c d names n k [] h signals low high clocks = absurd (omega arith)
domains_clock F c d names n k (y ∷ ys) h signals low high clocks = elim (cases_eq k n) [
  | inl same ↦
      domain_part F c d names k y ys
      ∙ first_of_two (F (clock_port d k ∷ [])) (F (reset_port d names y.reset) ++ F (domain_ports d names (k + 1) ys))
      (none_of_two (F (reset_port d names y.reset)) (F (domain_ports d names (k + 1) ys)) (reset_none F c d names y h.0 signals)
      (domains_none F c d names (k + 1) ys h.1 signals (λ j p q. clocks j (omega arith) (omega arith) (λ e. omega (arith, e, same, p)))))
      ∙ ap (λ (i : ℕ). F (clock_port d i ∷ [])) same
  | inr other ↦
      domain_part F c d names k y ys
      ∙ second_of_two (F (clock_port d k ∷ [])) (F (reset_port d names y.reset) ++ F (domain_ports d names (k + 1) ys)) (clocks k (omega arith) (omega arith) other)
      ∙ second_of_two (F (reset_port d names y.reset)) (F (domain_ports d names (k + 1) ys)) (reset_none F c d names y h.0 signals)
      ∙ domains_clock F c d names n (k + 1) ys h.1 signals (omega (arith, other)) (omega arith) (λ j p q. clocks j (omega arith) (omega arith))
]

-- one signal gives something
reset_signal : {B : Type 0} (F : List VPort → List B) → Collects F → (d : Design) (names : List Name) (x : ℕ) (y : Domain) (some : Bool) (rest : List B) → IsDomain d y → NoneAtSignals F d names (λ z. z ≡ x → ⊥)
    → rest ≡ cond some (F (signal_port d names x ∷ [])) [] → (IsResetOf d y.name x → some ≡ false)
    → F (reset_port d names y.reset) ++ rest ≡ cond (circuit.is_named x (option_map signal_number y.reset) || some) (F (signal_port d names x ∷ [])) []
reset_signal F c d names x y some rest h signals e alone = by y.reset refl
  where
    by : (o : Option SigId) → y.reset ≡ o → F (reset_port d names o) ++ rest ≡ cond (circuit.is_named x (option_map signal_number o) || some) (F (signal_port d names x ∷ [])) []
    by None p = second_of_two (F []) rest c.none ∙ e
    by (Some r) p = elim (cases_eq r.0 x) [
      | inl same ↦
          let none = alone (subst (λ (i : ℕ). IsResetOf d y.name i) same (reset_of d y r h p)) in
          let gone : rest ≡ [] = e ∙ rw none refl in
          first_of_two (F (signal_port d names r.0 ∷ [])) rest gone
          ∙ ap (λ (i : ℕ). F (signal_port d names i ∷ [])) same
          ∙ rw (eq-eqb r.0 x same) refl
      | inr other ↦
          second_of_two (F (signal_port d names r.0 ∷ [])) rest (signals r.0 (reset_within d y r h p) other)
          ∙ e ∙ rw (ne_eqb r.0 x other) refl
    ]

domains_signal : {B : Type 0} (F : List VPort → List B) → Collects F → (d : Design) (names : List Name) (x k : ℕ) (ys : List Domain) → EachOf (IsDomain d) ys → is_distinct (map (λ (y : Domain). y.name) ys) ≡ true
    → NoneAtSignals F d names (λ y. y ≡ x → ⊥) → ((j : ℕ) → k ≤ j → j < k + length ys → F (clock_port d j ∷ []) ≡ [])
    → F (domain_ports d names k ys) ≡ cond (circuit.is_some_reset x (domains_from d k ys)) (F (signal_port d names x ∷ [])) []
domains_signal F c d names x k [] h once signals clocks = c.none
domains_signal F c d names x k (y ∷ ys) h once signals clocks =
    let parts = and_parts (not (list_any (bytes_eq y.name) (map (λ (z : Domain). z.name) ys))) (is_distinct (map (λ (z : Domain). z.name) ys)) once in
    let fresh = not-true (list_any (bytes_eq y.name) (map (λ (z : Domain). z.name) ys)) parts.0 in
    domain_part F c d names k y ys
    ∙ second_of_two (F (clock_port d k ∷ [])) (F (reset_port d names y.reset) ++ F (domain_ports d names (k + 1) ys)) (clocks k (omega arith) (omega arith))
    ∙ reset_signal F c d names x y (circuit.is_some_reset x (domains_from d (k + 1) ys)) (F (domain_ports d names (k + 1) ys)) h.0 signals
    (domains_signal F c d names x (k + 1) ys h.1 parts.1 signals (λ j p q. clocks j (omega arith) (omega arith)))
    (λ reset. no_reset d y.name x (k + 1) ys reset h.1 fresh)

abbrev pub io_ports : Design → List Name → List SigId → List VPort
io_ports d names is = map (λ (r : SigId). signal_port d names r.0) is

ios_none : {B : Type 0} (F : List VPort → List B) → Collects F → (d : Design) (names : List Name) (is : List SigId) → EachOf (λ (r : SigId). r.0 < length d.signals) is → NoneAtSignals F d names (λ x. Unit {0}) → F (io_ports d names is) ≡ []
ios_none F c d names [] h signals = c.none
ios_none F c d names (r ∷ rs) h signals =
    collects_next F c (signal_port d names r.0) (io_ports d names rs)
    ∙ none_of_two (F (signal_port d names r.0 ∷ [])) (F (io_ports d names rs)) (signals r.0 h.0 tt) (ios_none F c d names rs h.1 signals)

ios_signal : {B : Type 0} (F : List VPort → List B) → Collects F → (d : Design) (names : List Name) (x : ℕ) (is : List SigId) → EachOf (λ (r : SigId). r.0 < length d.signals) is → are_once (map signal_number is) ≡ true → NoneAtSignals F d names (λ y. y ≡ x → ⊥)
    → F (io_ports d names is) ≡ cond (circuit.is_among x (map signal_number is)) (F (signal_port d names x ∷ [])) []
ios_signal F c d names x [] h once signals = c.none
ios_signal F c d names x (r ∷ rs) h once signals =
    let parts = and_parts (not (circuit.is_among r.0 (map signal_number rs))) (are_once (map signal_number rs)) once in
    let fresh = not-true (circuit.is_among r.0 (map signal_number rs)) parts.0 in
    let rest = ios_signal F c d names x rs h.1 parts.1 signals in
    collects_next F c (signal_port d names r.0) (io_ports d names rs)
    ∙ elim (cases_eq r.0 x) [
      | inl same ↦
          let none : circuit.is_among x (map signal_number rs) ≡ false = ap (λ (i : ℕ). circuit.is_among i (map signal_number rs)) (sym same) ∙ fresh in
          let gone : F (io_ports d names rs) ≡ [] = rest ∙ rw none refl in
          first_of_two (F (signal_port d names r.0 ∷ [])) (F (io_ports d names rs)) gone
          ∙ ap (λ (i : ℕ). F (signal_port d names i ∷ [])) same
          ∙ rw (eq-eqb r.0 x same) refl
      | inr other ↦
          second_of_two (F (signal_port d names r.0 ∷ [])) (F (io_ports d names rs)) (signals r.0 h.0 other)
          ∙ rest ∙ rw (ne_eqb r.0 x other) refl
    ]

-- a port is no reset
no_port : (x : ℕ) (is : List ℕ) (ds : List circuit.Domain) → none_is_reset is ds ≡ true → circuit.is_among x is ≡ true → circuit.is_some_reset x ds ≡ false
no_port x [] ds h e = absurd cc
no_port x (i ∷ is) ds h e =
    let parts = and_parts (not (circuit.is_some_reset i ds)) (none_is_reset is ds) h in
    elim (cases_eq i x) [
      | inl same ↦ ap (λ (j : ℕ). circuit.is_some_reset j ds) (sym same) ∙ not-true (circuit.is_some_reset i ds) parts.0
      | inr other ↦
          let rest : circuit.is_among x is ≡ true = sym (rw (ne_eqb i x other) refl) ∙ e in
          no_port x is ds parts.1 rest
    ]

-- what comes of two parts of which one at most gives something
one_of_parts : {B : Type 0} (a b : Bool) (own xs ys : List B) → xs ≡ cond a own [] → ys ≡ cond b own [] → (b ≡ true → a ≡ false) → xs ++ ys ≡ cond (b || a) own []
one_of_parts a true own xs ys p q alone = second_of_two xs ys (p ∙ rw (alone refl) refl) ∙ q
one_of_parts a false own xs ys p q alone = first_of_two xs ys q ∙ p

pub ports_signal : {B : Type 0} (F : List VPort → List B) → Collects F → (d : Design) (names : List Name) → Keeps d → PortsFit d → (x : ℕ) → NoneAtSignals F d names (λ y. y ≡ x → ⊥) → NoneAtClocks F d (λ k. Unit {0})
    → F (ports_of d names) ≡ cond (is_port d x) (F (signal_port d names x ∷ [])) []
unfolding ports_of is_port circuit_of
ports_signal F c d names keeps ports x signals clocks =
    c.joined (domain_ports d names 0 d.domains) (io_ports d names d.ios)
    ∙ one_of_parts (circuit.is_some_reset x (domains_from d 0 d.domains)) (circuit.is_among x (map signal_number d.ios)) (F (signal_port d names x ∷ []))
    (F (domain_ports d names 0 d.domains)) (F (io_ports d names d.ios))
    (domains_signal F c d names x 0 d.domains keeps.domains keeps.domains_distinct signals (λ j p q. clocks j (omega arith) tt))
    (ios_signal F c d names x d.ios keeps.ios ports.once signals)
    (λ e. no_port x (map signal_number d.ios) (domains_from d 0 d.domains) ports.resets e)

pub ports_clock : {B : Type 0} (F : List VPort → List B) → Collects F → (d : Design) (names : List Name) → Keeps d → (k : ℕ) → k < length d.domains → NoneAtSignals F d names (λ y. Unit {0}) → NoneAtClocks F d (λ j. j ≡ k → ⊥)
    → F (ports_of d names) ≡ F (clock_port d k ∷ [])
unfolding ports_of
ports_clock F c d names keeps k lt signals clocks =
    c.joined (domain_ports d names 0 d.domains) (io_ports d names d.ios)
    ∙ first_of_two (F (domain_ports d names 0 d.domains)) (F (io_ports d names d.ios)) (ios_none F c d names d.ios keeps.ios signals)
    ∙ domains_clock F c d names k 0 d.domains keeps.domains signals (omega arith) (omega arith) (λ j p q other. clocks j (omega arith) other)

pub ports_none : {B : Type 0} (F : List VPort → List B) → Collects F → (d : Design) (names : List Name) → Keeps d → NoneAtSignals F d names (λ y. Unit {0}) → NoneAtClocks F d (λ j. Unit {0})
    → F (ports_of d names) ≡ []
unfolding ports_of
ports_none F c d names keeps signals clocks =
    c.joined (domain_ports d names 0 d.domains) (io_ports d names d.ios)
    ∙ none_of_two (F (domain_ports d names 0 d.domains)) (F (io_ports d names d.ios))
    (domains_none F c d names 0 d.domains keeps.domains signals (λ j p q. clocks j (omega arith) tt))
    (ios_none F c d names d.ios keeps.ios signals)

-- ---- nets by name

pub net_name : (d : Design) (names : List Name) (x : ℕ) → (signal_net d names x).name ≡ net names x
unfolding signal_net
net_name d names x = refl

abbrev pub node_wire : Design → ℕ → VNet
node_wire d k = wire (node_shape d k).signed (node_shape d k).bits (node_net d.exprs k)

abbrev pub clock_wire : Design → ℕ → VNet
clock_wire d k = wire false 1 (clock d k)

pub called_own : (n : Name) (x : VNet) → x.name ≡ n → called n (x ∷ []) ≡ x ∷ []
called_own n x e = rw ((bytes_eq-Decides x.name n).1 e) refl

pub called_other : (n : Name) (x : VNet) → (x.name ≡ n → ⊥) → called n (x ∷ []) ≡ []
called_other n x ne = rw (name_other x.name n ne) refl

-- the nets of ports that have a name
abbrev pub port_nets : Name → List VPort → List VNet
port_nets n ps = called n (map (λ (p : VPort). p.net) ps)

collects_port_nets : (n : Name) → Collects (port_nets n)
collects_port_nets n = collects_after (called n) (λ (ps : List VPort). map (λ (p : VPort). p.net) ps) (collects_called n) (collects_map (λ (p : VPort). p.net))

abbrev pub decl_called : Name → List VDecl → List VNet
decl_called n ds = called n (decl_nets ds)

collects_decl_called : (n : Name) → Collects (decl_called n)
collects_decl_called n = collects_after (called n) decl_nets (collects_called n) collects_decls

-- a place with a net
pub net_node_at : (d : Design) (k : ℕ) → is_net_node (slice_get d.exprs k) ≡ true → IsNetNode d k
net_node_at d k h = by (slice_get d.exprs k) refl h
  where
    by : (o : Option Expr) → slice_get d.exprs k ≡ o → is_net_node o ≡ true → IsNetNode d k
    by None e t = absurd cc
    by (Some x) e t = record { node = x; there = e; net = t }

pub net_node_is : (d : Design) (k : ℕ) → IsNetNode d k → is_net_node (slice_get d.exprs k) ≡ true
net_node_is d k p = rw p.there p.net

pub net_node_within : (d : Design) (k : ℕ) → IsNetNode d k → k < length d.exprs
net_node_within d k p = slice_get_within d.exprs k p.node p.there

pub inner_own : (d : Design) (names : List Name) (x : ℕ) → decl_called (net names x) (inner_decl d names x) ≡ cond (is_port d x) [] (signal_net d names x ∷ [])
unfolding inner_decl
inner_own d names x = by (is_port d x)
  where
    by : (b : Bool) → decl_called (net names x) (cond b [] (NetDecl (signal_net d names x) ∷ [])) ≡ cond b [] (signal_net d names x ∷ [])
    by true = refl
    by false = called_own (net names x) (signal_net d names x) (net_name d names x)

pub inner_other : (d : Design) (names : List Name) (n : Name) (x : ℕ) → (net names x ≡ n → ⊥) → decl_called n (inner_decl d names x) ≡ []
unfolding inner_decl
inner_other d names n x ne = by (is_port d x)
  where
    by : (b : Bool) → decl_called n (cond b [] (NetDecl (signal_net d names x) ∷ [])) ≡ []
    by true = refl
    by false = called_other n (signal_net d names x) (λ e. ne (sym (net_name d names x) ∙ e))

pub node_own : (d : Design) (names : List Name) (k : ℕ) → IsNetNode d k → decl_called (node_net d.exprs k) (node_decl d names k) ≡ node_wire d k ∷ []
unfolding node_decl
node_own d names k p = rw (net_node_is d k p) (called_own (node_net d.exprs k) (node_wire d k) refl)

pub node_other : (d : Design) (names : List Name) (n : Name) (k : ℕ) → (IsNetNode d k → node_net d.exprs k ≡ n → ⊥) → decl_called n (node_decl d names k) ≡ []
unfolding node_decl
node_other d names n k ne = by (is_net_node (slice_get d.exprs k)) refl
  where
    by : (b : Bool) → is_net_node (slice_get d.exprs k) ≡ b → decl_called n (cond b (NetDecl (node_wire d k) ∷ []) []) ≡ []
    by true t = called_other n (node_wire d k) (ne (net_node_at d k t))
    by false t = refl

-- no memory is a net
no_net_in_memories : (f : ℕ → VMemory) (ks : List ℕ) → decl_nets (map (λ k. MemoryDecl (f k)) ks) ≡ []
no_net_in_memories f [] = refl
no_net_in_memories f (k ∷ ks) = no_net_in_memories f ks

memories_gone : (d : Design) (names : List Name) (n : Name) → decl_called n (memory_decls d names) ≡ []
unfolding memory_decls
memories_gone d names n = ap (called n) (no_net_in_memories (λ k. memory_decl (memory_name d names k) (memory_at d k)) (places_from 0 d.memories))

-- the nets of a name: among the ports, the other signals and the nodes
pub nets_parts : (d : Design) (names : List Name) (n : Name)
    → called n (all_nets (emitted d names)) ≡ port_nets n (ports_of d names) ++ (decl_called n (flat_map (inner_decl d names) (places_from 0 d.signals)) ++ decl_called n (flat_map (node_decl d names) (places_from 0 d.exprs)))
unfolding emitted decls_of
nets_parts d names n =
    (collects_called n).joined (map (λ (p : VPort). p.net) (ports_of d names)) (decl_nets (decls_of d names))
    ∙ ap (λ t. port_nets n (ports_of d names) ++ t)
    ((collects_decl_called n).joined (flat_map (inner_decl d names) (places_from 0 d.signals)) (memory_decls d names ++ flat_map (node_decl d names) (places_from 0 d.exprs))
    ∙ ap (λ t. decl_called n (flat_map (inner_decl d names) (places_from 0 d.signals)) ++ t)
    ((collects_decl_called n).joined (memory_decls d names) (flat_map (node_decl d names) (places_from 0 d.exprs))
    ∙ ap (λ t. t ++ decl_called n (flat_map (node_decl d names) (places_from 0 d.exprs))) (memories_gone d names n)))

-- a name that is no signal's, no node's, no clock's and no memory's
pub record IsNoSignal (d : Design) (names : List Name) (n : Name) : Type 0 where
  pub each : (x : ℕ) → x < length d.signals → net names x ≡ n → ⊥

pub record IsNoNode (d : Design) (n : Name) : Type 0 where
  pub each : (k : ℕ) → IsNetNode d k → node_net d.exprs k ≡ n → ⊥

pub record IsNoClock (d : Design) (n : Name) : Type 0 where
  pub each : (k : ℕ) → k < length d.domains → clock d k ≡ n → ⊥

pub record IsNoMemory (d : Design) (names : List Name) (n : Name) : Type 0 where
  pub each : (k : ℕ) → k < length d.memories → memory_name d names k ≡ n → ⊥

signals_gone : (d : Design) (names : List Name) (n : Name) → IsNoSignal d names n → NoneAtSignals (port_nets n) d names (λ x. Unit {0})
signals_gone d names n h x lt u = called_other n (signal_net d names x) (λ e. h.each x lt (sym (net_name d names x) ∙ e))

clocks_gone : (d : Design) (n : Name) → IsNoClock d n → NoneAtClocks (port_nets n) d (λ k. Unit {0})
clocks_gone d n h k lt u = called_other n (clock_wire d k) (h.each k lt)

pub inner_gone : (d : Design) (names : List Name) (n : Name) → IsNoSignal d names n → decl_called n (flat_map (inner_decl d names) (places_from 0 d.signals)) ≡ []
inner_gone d names n h = none_at_places (decl_called n) (collects_decl_called n) (inner_decl d names) 0 d.signals (λ j p q. inner_other d names n j (h.each j (omega arith)))

pub nodes_gone : (d : Design) (names : List Name) (n : Name) → IsNoNode d n → decl_called n (flat_map (node_decl d names) (places_from 0 d.exprs)) ≡ []
nodes_gone d names n h = none_at_places (decl_called n) (collects_decl_called n) (node_decl d names) 0 d.exprs (λ j p q. node_other d names n j (h.each j))

pub net_no_clock : (d : Design) (names : List Name) → NamesFit d names → (x : ℕ) → x < length d.signals → IsNoClock d (net names x)
net_no_clock d names fit x lt = record { each = λ k p e. net_not_clock d names fit x k lt p (sym e) }

pub net_no_node : (d : Design) (names : List Name) → NamesFit d names → (x : ℕ) → x < length d.signals → IsNoNode d (net names x)
net_no_node d names fit x lt = record { each = λ k p e. net_not_node d names fit x (nets_before d.exprs k) lt (sym e) }

pub node_no_signal : (d : Design) (names : List Name) → NamesFit d names → (k : ℕ) → IsNoSignal d names (node_net d.exprs k)
node_no_signal d names fit k = record { each = λ x lt e. net_not_node d names fit x (nets_before d.exprs k) lt e }

pub node_no_clock : (d : Design) → Keeps d → (k : ℕ) → IsNoClock d (node_net d.exprs k)
node_no_clock d keeps k = record { each = λ j lt e. clock_not_node d keeps j (nets_before d.exprs k) lt e }

pub clock_no_signal : (d : Design) (names : List Name) → NamesFit d names → (k : ℕ) → k < length d.domains → IsNoSignal d names (clock d k)
clock_no_signal d names fit k lt = record { each = λ x p e. net_not_clock d names fit x k p lt e }

pub clock_no_node : (d : Design) → Keeps d → (k : ℕ) → k < length d.domains → IsNoNode d (clock d k)
clock_no_node d keeps k lt = record { each = λ j p e. clock_not_node d keeps k (nets_before d.exprs j) lt (sym e) }

pub net_no_memory : (d : Design) (names : List Name) → NamesFit d names → (x : ℕ) → x < length d.signals → IsNoMemory d names (net names x)
net_no_memory d names fit x lt = record { each = λ k p e. net_not_memory d names fit x k lt p (sym e) }

pub node_no_memory : (d : Design) (names : List Name) → NamesFit d names → (k : ℕ) → IsNoMemory d names (node_net d.exprs k)
node_no_memory d names fit k = record { each = λ j lt e. memory_not_node d names fit j (nets_before d.exprs k) lt e }

pub clock_no_memory : (d : Design) (names : List Name) → NamesFit d names → (k : ℕ) → k < length d.domains → IsNoMemory d names (clock d k)
clock_no_memory d names fit k lt = record { each = λ j p e. memory_not_clock d names fit j k p lt e }

pub memory_no_signal : (d : Design) (names : List Name) → NamesFit d names → (k : ℕ) → k < length d.memories → IsNoSignal d names (memory_name d names k)
memory_no_signal d names fit k lt = record { each = λ x p e. net_not_memory d names fit x k p lt e }

pub memory_no_node : (d : Design) (names : List Name) → NamesFit d names → (k : ℕ) → k < length d.memories → IsNoNode d (memory_name d names k)
memory_no_node d names fit k lt = record { each = λ j p e. memory_not_node d names fit k (nets_before d.exprs j) lt (sym e) }

pub memory_no_clock : (d : Design) (names : List Name) → NamesFit d names → (k : ℕ) → k < length d.memories → IsNoClock d (memory_name d names k)
memory_no_clock d names fit k lt = record { each = λ j p e. memory_not_clock d names fit k j lt p (sym e) }

-- each signal has one net
signal_parts : (b : Bool) (x : VNet) (ports inner nodes : List VNet) → ports ≡ cond b (x ∷ []) [] → inner ≡ cond b [] (x ∷ []) → nodes ≡ [] → ports ++ (inner ++ nodes) ≡ x ∷ []
signal_parts true x ports inner nodes p q r = rw (p, q, r) refl
signal_parts false x ports inner nodes p q r = rw (p, q, r) refl

pub nets_of_signal : (d : Design) (names : List Name) → Keeps d → NamesFit d names → PortsFit d → (x : ℕ) → x < length d.signals → called (net names x) (all_nets (emitted d names)) ≡ signal_net d names x ∷ []
nets_of_signal d names keeps fit ports x lt =
    let n = net names x in
    let inner = flat_map (inner_decl d names) (places_from 0 d.signals) in
    let from_ports = ports_signal (port_nets n) (collects_port_nets n) d names keeps ports x
    (λ y p other. called_other n (signal_net d names y) (λ e. other (net_once d names fit y x p lt (sym (net_name d names y) ∙ e))))
    (clocks_gone d n (net_no_clock d names fit x lt)) in
    let from_inner = one_at_places (decl_called n) (collects_decl_called n) (inner_decl d names) x 0 d.signals (omega arith) (omega arith)
    (λ j p q other. inner_other d names n j (λ e. other (net_once d names fit j x (omega arith) lt e))) in
    nets_parts d names n
    ∙ signal_parts (is_port d x) (signal_net d names x) (port_nets n (ports_of d names)) (decl_called n inner) (decl_called n (flat_map (node_decl d names) (places_from 0 d.exprs)))
    (from_ports ∙ ap (λ t. cond (is_port d x) t []) (called_own n (signal_net d names x) (net_name d names x)))
    (from_inner ∙ inner_own d names x)
    (nodes_gone d names n (net_no_node d names fit x lt))

pub nets_of_node : (d : Design) (names : List Name) → Keeps d → NamesFit d names → (k : ℕ) → IsNetNode d k → called (node_net d.exprs k) (all_nets (emitted d names)) ≡ node_wire d k ∷ []
nets_of_node d names keeps fit k is =
    let n = node_net d.exprs k in
    let from_ports = ports_none (port_nets n) (collects_port_nets n) d names keeps (signals_gone d names n (node_no_signal d names fit k)) (clocks_gone d n (node_no_clock d keeps k)) in
    let from_nodes = one_at_places (decl_called n) (collects_decl_called n) (node_decl d names) k 0 d.exprs (omega arith) (omega (arith, net_node_within d k is))
    (λ j p q other. node_other d names n j (λ t e. other (node_net_once d j k t is e))) in
    nets_parts d names n
    ∙ rw (from_ports, inner_gone d names n (node_no_signal d names fit k)) (from_nodes ∙ node_own d names k is)

pub nets_of_clock : (d : Design) (names : List Name) → Keeps d → NamesFit d names → (k : ℕ) → k < length d.domains → called (clock d k) (all_nets (emitted d names)) ≡ clock_wire d k ∷ []
nets_of_clock d names keeps fit k lt =
    let n = clock d k in
    let from_ports = ports_clock (port_nets n) (collects_port_nets n) d names keeps k lt (signals_gone d names n (clock_no_signal d names fit k lt))
    (λ j p other. called_other n (clock_wire d j) (λ e. other (clock_once d keeps j k p lt e))) in
    nets_parts d names n
    ∙ rw (from_ports, inner_gone d names n (clock_no_signal d names fit k lt), nodes_gone d names n (clock_no_node d keeps k lt)) (first_of_two (called n (clock_wire d k ∷ [])) [] refl ∙ called_own n (clock_wire d k) refl)

pub nets_of_none : (d : Design) (names : List Name) → Keeps d → (n : Name) → IsNoSignal d names n → IsNoNode d n → IsNoClock d n → called n (all_nets (emitted d names)) ≡ []
nets_of_none d names keeps n signals nodes clocks =
    let from_ports = ports_none (port_nets n) (collects_port_nets n) d names keeps (signals_gone d names n signals) (clocks_gone d n clocks) in
    nets_parts d names n
    ∙ rw (from_ports, inner_gone d names n signals, nodes_gone d names n nodes) refl

-- ---- how a name is declared

pub net_of_signal : (d : Design) (names : List Name) → Keeps d → NamesFit d names → PortsFit d → (x : ℕ) → x < length d.signals → net_named (net names x) (all_nets (emitted d names)) ≡ Some (signal_net d names x)
net_of_signal d names keeps fit ports x lt =
    net_named_is (net names x) (all_nets (emitted d names)) ∙ ap first_net (nets_of_signal d names keeps fit ports x lt)

pub net_of_node : (d : Design) (names : List Name) → Keeps d → NamesFit d names → (k : ℕ) → IsNetNode d k → net_named (node_net d.exprs k) (all_nets (emitted d names)) ≡ Some (wire (node_shape d k).signed (node_shape d k).bits (node_net d.exprs k))
net_of_node d names keeps fit k is =
    net_named_is (node_net d.exprs k) (all_nets (emitted d names)) ∙ ap first_net (nets_of_node d names keeps fit k is)

pub net_of_clock : (d : Design) (names : List Name) → Keeps d → NamesFit d names → (k : ℕ) → k < length d.domains → net_named (clock d k) (all_nets (emitted d names)) ≡ Some (wire false 1 (clock d k))
net_of_clock d names keeps fit k lt =
    net_named_is (clock d k) (all_nets (emitted d names)) ∙ ap first_net (nets_of_clock d names keeps fit k lt)

pub net_of_none : (d : Design) (names : List Name) → Keeps d → (n : Name) → IsNoSignal d names n → IsNoNode d n → IsNoClock d n → net_named n (all_nets (emitted d names)) ≡ None
net_of_none d names keeps n signals nodes clocks =
    net_named_is n (all_nets (emitted d names)) ∙ ap first_net (nets_of_none d names keeps n signals nodes clocks)

pub is_register_signal : (d : Design) (names : List Name) → Keeps d → NamesFit d names → PortsFit d → (x : ℕ) → x < length d.signals
    → is_register (emitted d names) (net names x) ≡ is_some (init_of (shape_of_signal d x) (reset_of_signal d x) (drive d x))
unfolding signal_net
is_register_signal d names keeps fit ports x lt = rw (net_of_signal d names keeps fit ports x lt) refl

pub is_register_node : (d : Design) (names : List Name) → Keeps d → NamesFit d names → (k : ℕ) → IsNetNode d k → is_register (emitted d names) (node_net d.exprs k) ≡ false
is_register_node d names keeps fit k is = rw (net_of_node d names keeps fit k is) refl

pub is_register_clock : (d : Design) (names : List Name) → Keeps d → NamesFit d names → (k : ℕ) → k < length d.domains → is_register (emitted d names) (clock d k) ≡ false
is_register_clock d names keeps fit k lt = rw (net_of_clock d names keeps fit k lt) refl

-- ---- what drives nets from outside

pub outside_at_clock : (d : Design) (n : Name) (k : ℕ) → (clock d k ≡ n → ⊥) → outside_drivers n (clock_port d k ∷ []) ≡ []
outside_at_clock d n k ne = rw (name_other (clock d k) n ne) refl

pub outside_at_signal : (d : Design) (names : List Name) (n : Name) (x : ℕ) → (net names x ≡ n → ⊥) → outside_drivers n (signal_port d names x ∷ []) ≡ []
unfolding signal_net
outside_at_signal d names n x ne = rw (name_other (net names x) n ne) (by (is_input_drive (drive d x)))
  where
    by : (b : Bool) → cond (b && false) (Outside ∷ []) [] ≡ []
    by true = refl
    by false = refl

pub outside_clock : (d : Design) (names : List Name) → Keeps d → NamesFit d names → (k : ℕ) → k < length d.domains → outside_drivers (clock d k) (emitted d names).ports ≡ Outside ∷ []
unfolding emitted
outside_clock d names keeps fit k lt =
    let n = clock d k in
    ports_clock (outside_drivers n) (collects_outside n) d names keeps k lt
    (λ x p u. outside_at_signal d names n x (λ e. net_not_clock d names fit x k p lt e))
    (λ j p other. outside_at_clock d n j (λ e. other (clock_once d keeps j k p lt e)))
    ∙ rw ((bytes_eq-Decides n n).1 refl) refl

pub clock_is_input : (d : Design) (names : List Name) → Keeps d → NamesFit d names → (k : ℕ) → k < length d.domains
    → (is_net (emitted d names) (clock d k) ≡ true) × (is_input (clock d k) (emitted d names).ports ≡ true)
clock_is_input d names keeps fit k lt =
    (rw (net_of_clock d names keeps fit k lt) refl, input_is (clock d k) (emitted d names).ports ∙ rw (outside_clock d names keeps fit k lt) refl)
