-- The design with all its ports lowered.
use Rattle.std.proofs.Common.{◌≡◌, ℕ, zero, suc, ◌+◌, ◌<◌, ◌≤◌, Bool, true, false, List, [], ◌∷◌, Option, Some, None, cond, drop, length, map, refl, sym, ap, subst, ◌∙◌, arith}
use Rattle.std.specs.Prelude.{IfSome, IsTrue, slice_get, slice_index_or}
use Rattle.std.specs.List.{filter}
use Rattle.std.specs.Option.{is_some}
use Rattle.std.proofs.lemmas.Option.{slice_get_within}
use Rattle.lx_circuit.specs.Circuit.{Circuit, Input, role}
use Rattle.lx_circuit.specs.Memories as memory
use Rattle.lx_fhdl.specs.Designs.{circuit_of, memory_at, port_of, writer_of}
use Rattle.lx_fhdl.specs.Drafts.{IsDraftPort, Stays}
use Rattle.lx_fhdl.specs.Keeping.{EachOf, HasDomain, HasResetPath, IsDomain, IsPort, IsReset, Keeps, PortStands, WriterStands, is_clocked, is_distinct}
use Rattle.lx_fhdl.specs.declared.design.Design.{Design}
use Rattle.lx_fhdl.specs.declared.design.Domain.{Domain}
use Rattle.lx_fhdl.specs.declared.design.Port.{Port}
use Rattle.lx_fhdl.specs.declared.design.Signal.{Signal}
use Rattle.lx_fhdl.specs.declared.exprs.SigId.{SigId}
use Rattle.lx_fhdl.proofs.Drafts as drafts
use Rattle.lx_fhdl.proofs.Wider.{ports_wider, wider_same}
use Rattle.lx_memory.specs.Lowers as lowers
use Rattle.lx_memory.specs.Lowers.{Added, IsPortsOf, LowersPorts, ShowAlone}
use Rattle.lx_memory.specs.Ports.{lowered, with_ports, with_reader, with_readers}
use Rattle.lx_memory.specs.Ports as ports
use Rattle.lx_memory.specs.Puts.{Growth, IsGrowing, PortLowered, PortsLowered}
use Rattle.lx_memory.proofs.FromDesign.{can_lower_ports}
use Rattle.lx_memory.proofs.Growths.{circuits, domains_alike, growth_same, growth_then, growth_wider}
use Rattle.lx_memory.proofs.Law as law
use Rattle.lx_memory.proofs.Nodes.{draft_ports}
use Rattle.lx_memory.proofs.Standing.{list_stays, parts_stay, relisted, relisted_stays}

-- ---- ports of a design that grew

-- a port stands with the domains of the grown design
with_domains : (n m : ℕ) (d e : Design) (q : Port) → m ≡ n → PortStands n d q → IsDraftPort e q → PortStands m e q
with_domains n m d e q same h g = record {
  memory = g.memory;
  domain = subst (λ (k : ℕ). HasDomain k (is_clocked q.mode q.we) q.domain) (sym same) h.domain;
  adr = g.adr;
  dat_r = g.dat_r;
  writer = g.writer;
  part_some = g.part_some;
  parts = g.parts;
}

domains_many : {x y : Design} → Growth x y → length y.domains ≡ length x.domains
domains_many g = ap (λ (ds : List Domain). length ds) g.domains

pub port_grown : {x y : Design} {q : Port} → Growth x y → IsPort x q → IsPort y q
port_grown {x} {y} {q} g h =
    with_domains (length x.domains) (length y.domains) x y q (domains_many g) h
    (ports_wider x y (q ∷ []) (growth_wider g) (draft_ports x (q ∷ []) (h, tt))).0

-- ---- one port after the other

each_at : (x : Design) (qs : List Port) (k : ℕ) (q : Port) → EachOf (IsPort x) qs → slice_get qs k ≡ Some q → IsPort x q
each_at x [] k q h e = absurd (cc)
each_at x (p ∷ ps) zero q h e = let s : p ≡ q = cc in subst (IsPort x) s h.0
each_at x (p ∷ ps) (suc k) q h e = each_at x ps k q h.1 e

pub at_index : (qs : List Port) (k : ℕ) (z : Port) → k < length qs → slice_get qs k ≡ Some (slice_index_or qs k z)
at_index [] k z l = absurd (omega arith)
at_index (q ∷ qs) zero z l = refl
at_index (q ∷ qs) (suc k) z l = at_index qs k z (omega arith)

-- what is still to be lowered
pub record Walks (x y : Design) (qs : List Port) (k : ℕ) : Type 0 where
  pub growth : Growth x y
  pub circuit : with_readers (circuit_of y) (map port_of (drop k qs)) ≡ with_readers (circuit_of x) (map port_of qs)

pub walk_start : (x : Design) (qs : List Port) → Walks x x qs 0
walk_start x qs = record { growth = growth_same x; circuit = refl }

next_port : (qs : List Port) (k : ℕ) (q : Port) → slice_get qs k ≡ Some q → drop k qs ≡ q ∷ drop (k + 1) qs
next_port [] k q e = absurd (cc)
next_port (p ∷ ps) zero q e = let s : p ≡ q = cc in ap (λ (z : Port). z ∷ ps) s
next_port (p ∷ ps) (suc k) q e = next_port ps k q e ∙ ap (λ (j : ℕ). q ∷ drop j (p ∷ ps)) (let z : suc (k + 1) ≡ suc k + 1 = omega arith in z)

pub walk_port : {x y : Design} {qs : List Port} {k : ℕ} {q : Port} → Walks x y qs k → EachOf (IsPort x) qs → slice_get qs k ≡ Some q → IsPort y q
walk_port {x} {y} {qs} {k} {q} w h e = port_grown w.growth (each_at x qs k q h e)

pub walk_next : {x y z : Design} {qs : List Port} {k : ℕ} {q : Port} → Walks x y qs k → slice_get qs k ≡ Some q → PortLowered y z q → Walks x z qs (k + 1)
walk_next {x} {y} {z} {qs} {k} {q} w e p = record {
  growth = growth_then w.growth p.growth;
  circuit =
      ap (λ (c : Circuit). with_readers c (map port_of (drop (k + 1) qs))) p.circuit
      ∙ ap (λ (l : List Port). with_readers (circuit_of y) (map port_of l)) (sym (next_port qs k q e))
      ∙ w.circuit;
}

-- ---- the ports that write

writer_some : (x : Design) (width part : ℕ) (dat_w we : Option SigId) → WriterStands x width part dat_w we → is_some (writer_of part dat_w we) ≡ is_some we
writer_some x width part (Some d) (Some w) h = refl
writer_some x width part None None h = refl
writer_some x width part (Some d) None h = absurd h
writer_some x width part None (Some w) h = absurd h

pub writer_put : (q : Port) (qs : List Port) → lowers.writers (q ∷ qs) ≡ cond (is_some q.we) (lowers.silent q ∷ lowers.writers qs) (lowers.writers qs)
writer_put q qs = by_answer (is_some q.we)
  where
    by_answer : (b : Bool) → map lowers.silent (cond b (q ∷ filter (λ (p : Port). is_some p.we) qs) (filter (λ (p : Port). is_some p.we) qs)) ≡ cond b (lowers.silent q ∷ lowers.writers qs) (lowers.writers qs)
    by_answer true = refl
    by_answer false = refl

writers_are : (x : Design) (qs : List Port) → EachOf (IsPort x) qs → map port_of (lowers.writers qs) ≡ ports.writers (map port_of qs)
writers_are x [] h = refl
writers_are x (q ∷ qs) h =
    ap (map port_of) (writer_put q qs)
    ∙ by_answer (is_some q.we) (is_some (writer_of q.part q.dat_w q.we)) (writer_some x (memory_at x q.memory).width q.part q.dat_w q.we h.0.writer) (writers_are x qs h.1)
  where
    by_answer : (b t : Bool) → t ≡ b → map port_of (lowers.writers qs) ≡ ports.writers (map port_of qs)
        → map port_of (cond b (lowers.silent q ∷ lowers.writers qs) (lowers.writers qs)) ≡ map ports.silent (cond t (port_of q ∷ filter (λ (p : memory.Port). is_some p.writer) (map port_of qs)) (filter (λ (p : memory.Port). is_some p.writer) (map port_of qs)))
    by_answer true true e f = ap (λ (l : List memory.Port). port_of (lowers.silent q) ∷ l) f
    by_answer false false e f = f
    by_answer true false e f = absurd (cc)
    by_answer false true e f = absurd (cc)

silent_stands : (n : ℕ) (x : Design) (q : Port) → PortStands n x q → PortStands n x (lowers.silent q)
silent_stands n x q h = record { memory = h.memory; domain = h.domain; adr = h.adr; dat_r = tt; writer = h.writer; part_some = h.part_some; parts = h.parts }

writers_stand : (x : Design) (qs : List Port) → EachOf (IsPort x) qs → EachOf (IsPort x) (lowers.writers qs)
writers_stand x [] h = tt
writers_stand x (q ∷ qs) h = subst (EachOf (IsPort x)) (sym (writer_put q qs)) (by_answer (is_some q.we) (writers_stand x qs h.1))
  where
    by_answer : (b : Bool) → EachOf (IsPort x) (lowers.writers qs) → EachOf (IsPort x) (cond b (lowers.silent q ∷ lowers.writers qs) (lowers.writers qs))
    by_answer true f = (silent_stands (length x.domains) x q h.0, f)
    by_answer false f = f

-- ---- the design

abbrev ended : Design → List Port → Design
ended y qs = relisted y y.comb y.sync qs

ports_grown : {x y : Design} (qs : List Port) → Growth x y → EachOf (IsPort x) qs → EachOf (IsPort y) qs
ports_grown [] g h = tt
ports_grown (q ∷ qs) g h = (port_grown g h.0, ports_grown qs g h.1)

own_design : (y : Design) (qs rs : List Port) → EachOf (IsPort y) qs → EachOf (IsPort (ended y rs)) qs
own_design y [] rs h = tt
own_design y (q ∷ qs) rs h =
    let e = ended y rs in
    (with_domains (length y.domains) (length y.domains) y e q refl h.0 (ports_wider y e (q ∷ []) (wider_same y e refl refl) (draft_ports y (q ∷ []) (h.0, tt))).0, own_design y qs rs h.1)

end_circuit : (x y : Design) → Keeps x → PortsLowered x y x.ports → circuit_of (ended y (lowers.writers x.ports)) ≡ lowered (circuit_of x)
unfolding circuit_of lowered
end_circuit x y keep p =
    let e = ended y (lowers.writers x.ports) in
    let both : circuit_of e ≡ with_ports (circuit_of y) (map port_of (lowers.writers x.ports)) = circuits refl refl (domains_alike y e (λ m. refl) 0 y.domains) refl refl refl in
    both
    ∙ ap (λ (qs : List memory.Port). with_ports (circuit_of y) qs) (writers_are x x.ports keep.ports)
    ∙ ap (λ (c : Circuit). with_ports c (ports.writers (map port_of x.ports))) p.circuit

-- resets are inputs still
path_stays : (x e : Design) (y : Domain) (r : ℕ) (o : Option Signal) → Stays x e → slice_get x.signals r ≡ o → HasResetPath y o → HasResetPath y (slice_get e.signals r)
path_stays x e y r None stays s h = absurd h
path_stays x e y r (Some t) stays s h =
    let l = slice_get_within x.signals r t s in
    subst (HasResetPath y) (sym (stays.signals r l ∙ s)) h

reset_stays : (x e : Design) (y : Domain) (o : Option SigId) → Stays x e → ((r : ℕ) → role (circuit_of x) r ≡ Input → role (circuit_of e) r ≡ Input) → IfSome o (IsReset x y) → IfSome o (IsReset e y)
reset_stays x e y None stays f h = tt
reset_stays x e y (Some r) stays f h = record { path = path_stays x e y r.0 (slice_get x.signals r.0) stays refl h.path; input = f r.0 h.input }

domains_stay : (x e : Design) (ds : List Domain) → Stays x e → ((r : ℕ) → role (circuit_of x) r ≡ Input → role (circuit_of e) r ≡ Input) → EachOf (IsDomain x) ds → EachOf (IsDomain e) ds
domains_stay x e [] stays f h = tt
domains_stay x e (d ∷ ds) stays f h = (record { name = h.0.name; reset = reset_stays x e d d.reset stays f h.0.reset }, domains_stay x e ds stays f h.1)

ios_stay : (n m : ℕ) (xs : List SigId) → n ≤ m → EachOf (λ (x : SigId). x.0 < n) xs → EachOf (λ (x : SigId). x.0 < m) xs
ios_stay n m [] l h = tt
ios_stay n m (x ∷ xs) l h = (omega (arith, h.0), ios_stay n m xs l h.1)

end_keeps : (x y : Design) → Keeps x → IsGrowing y → Growth x y → LowersPorts (circuit_of x) (circuit_of (ended y (lowers.writers x.ports))) → Keeps (ended y (lowers.writers x.ports))
unfolding circuit_of
end_keeps x y keep g growth low =
    let qs = lowers.writers x.ports in
    let e = ended y qs in
    let stays = relisted_stays y y.comb y.sync qs in
    let all = drafts.stays_then x y e growth.stays stays in
    let same : e.domains ≡ x.domains = growth.domains in
    record {
      arenas = g.draft.keeps.arenas;
      signals = g.draft.keeps.signals;
      memories = g.draft.keeps.memories;
      ports = own_design y qs qs (writers_stand y x.ports (ports_grown x.ports growth keep.ports));
      comb = list_stays y e y.comb stays g.comb;
      sync = parts_stay y e y.sync stays refl g.sync;
      domains = subst (EachOf (IsDomain e)) (sym same) (domains_stay x e x.domains all low.inputs keep.domains);
      domains_most = omega (arith, keep.domains_most, ap (λ (ds : List Domain). length ds) same);
      domains_distinct = subst (λ (ds : List Domain). IsTrue (is_distinct (map (λ (z : Domain). z.name) ds))) (sym same) keep.domains_distinct;
      ios = subst (EachOf (λ (z : SigId). z.0 < length e.signals)) (sym growth.ios) (ios_stay (length x.signals) (length e.signals) x.ios all.signals_more keep.ios);
    }

end_added : (x y : Design) (qs : List Port) → Added x y → Added x (ended y qs)
end_added x y qs a = record {
  signals = a.signals;
  comb = a.comb;
  sync = a.sync;
  signals_are = a.signals_are;
  comb_are = a.comb_are;
  sync_are = a.sync_are;
  generated = a.generated;
  past = a.past;
  lines = a.lines;
}

pub is_ports_of : {x y : Design} → Keeps x → ShowAlone (circuit_of x) → IsGrowing y → PortsLowered x y x.ports → IsPortsOf x (record y { ports = lowers.writers x.ports })
is_ports_of {x} {y} keep alone g p =
    let qs = lowers.writers x.ports in
    let e = ended y qs in
    let same = end_circuit x y keep p in
    let low : LowersPorts (circuit_of x) (circuit_of e) = subst (LowersPorts (circuit_of x)) (sym same) (law.lowers (circuit_of x) (can_lower_ports x keep alone)) in
    record {
      keeps = end_keeps x y keep g p.growth low;
      stays = drafts.stays_then x y e p.growth.stays (relisted_stays y y.comb y.sync qs);
      added = end_added x y qs p.growth.added;
      memories = p.growth.memories;
      domains = p.growth.domains;
      ios = p.growth.ios;
      ports = refl;
      circuit = same;
      lowers = low;
    }

pub answered : {d x y e : Design} {qs rs ws : List Port} → Keeps d → ShowAlone (circuit_of d) → x ≡ d → qs ≡ d.ports → PortsLowered x y qs → IsGrowing y → rs ≡ d.ports → ws ≡ lowers.writers rs → e ≡ record y { ports = ws } → IsPortsOf d e
answered {d} {x} {y} {e} {qs} {rs} {ws} keep alone same own p g other are is =
    let low : PortsLowered d y d.ports = subst (PortsLowered d y) own (subst (λ (z : Design). PortsLowered z y qs) same p) in
    subst (IsPortsOf d) (sym (is ∙ ap (λ (l : List Port). record y { ports = l }) (are ∙ ap lowers.writers other))) (is_ports_of keep alone g low)
