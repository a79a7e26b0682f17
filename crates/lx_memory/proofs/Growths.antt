-- How the circuit of a design grows with it.
use Rattle.std.proofs.Common.{◌≡◌, ℕ, zero, suc, ◌+◌, ◌<◌, ◌≤◌, Bool, true, false, List, [], ◌∷◌, ◌++◌, Option, Some, None, length, map, append_assoc, refl, sym, ap, subst, ◌∙◌, arith, nat_eq, cond, eq-eqb}
use Rattle.std.specs.Prelude.{option_map, slice_get, slice_index_or}
use Rattle.std.proofs.lemmas.Bool.{ne_eqb}
use Rattle.std.proofs.lemmas.List.{append-nil, map-append}
use Rattle.lx_arena.proofs.Places.{node_there}
use Rattle.lx_circuit.specs.Circuit as circuit
use Rattle.lx_circuit.specs.Circuit.{Circuit, Made, nothing}
use Rattle.lx_circuit.specs.Memories as memory
use Rattle.lx_circuit.specs.Statements as tree
use Rattle.lx_fhdl.specs.Below.{StmtId}
use Rattle.lx_fhdl.specs.Designs as design
use Rattle.lx_fhdl.specs.Designs.{block, circuit_of, domains_from, made_of, memory_of, port_of, shapes, signal_number, stmts_of}
use Rattle.lx_fhdl.specs.Drafts.{SignalPut, Stays}
use Rattle.lx_fhdl.specs.Keeping.{EachOf}
use Rattle.lx_fhdl.specs.Stmts.{block_at}
use Rattle.lx_fhdl.specs.declared.design.Design.{Design}
use Rattle.lx_fhdl.specs.declared.design.Domain.{Domain}
use Rattle.lx_fhdl.specs.declared.design.Memory.{Memory}
use Rattle.lx_fhdl.specs.declared.design.Signal.{Signal}
use Rattle.lx_fhdl.specs.declared.design.SyncPart.{SyncPart}
use Rattle.lx_fhdl.proofs.Drafts.{stays_same, stays_then}
use Rattle.lx_fhdl.proofs.StmtTrees.{block_same}
use Rattle.lx_fhdl.proofs.Wider.{IsWider}
use Rattle.lx_lower.proofs.FromKeeps.{sync_below}
use Rattle.lx_lowering.specs.Flat.{append, one}
use Rattle.lx_lowering.proofs.Appends.{append_all, append_done}
use Rattle.lx_plain.proofs.Puts.{block_append}
use Rattle.lx_memory.specs.Lowers.{ArePast, IsGenerated}
use Rattle.lx_memory.specs.Ports.{changed, with_stmts, with_sync}
use Rattle.lx_memory.specs.Puts.{Grows, Growth, IsGrowing, StmtPut, SyncPut, part_of}
use Rattle.lx_memory.proofs.Nodes.{lines_then, none_past}
use Rattle.lx_memory.proofs.SignalShapes.{signal_shape_is}
use Rattle.lx_memory.proofs.Standing.{block_stays, relisted, relisted_stays}

-- ---- circuits of the same parts

pub circuits : {a b : Circuit} → a.signals ≡ b.signals → a.comb ≡ b.comb → a.domains ≡ b.domains → a.memories ≡ b.memories → a.ports ≡ b.ports → a.ios ≡ b.ios → a ≡ b
circuits {a} {b} p q r s t u =
    ap (λ (x : List Made). record a { signals = x }) p
    ∙ ap (λ (x : tree.Block). record a { signals = b.signals; comb = x }) q
    ∙ ap (λ (x : List circuit.Domain). record a { signals = b.signals; comb = b.comb; domains = x }) r
    ∙ ap (λ (x : List memory.Memory). record b { memories = x; ports = a.ports; ios = a.ios }) s
    ∙ ap (λ (x : List memory.Port). record b { ports = x; ios = a.ios }) t
    ∙ ap (λ (x : List ℕ). record b { ios = x }) u

-- domains whose statements are the same trees
pub domains_alike : (d e : Design) → ((m : ℕ) → block e (stmts_of m e.sync) ≡ block d (stmts_of m d.sync)) → (k : ℕ) (xs : List Domain) → domains_from e k xs ≡ domains_from d k xs
domains_alike d e h k [] = refl
domains_alike d e h k (x ∷ xs) =
    ap (λ (b : tree.Block). record { name = x.name; reset = option_map signal_number x.reset; stmts = b } ∷ domains_from e (k + 1) xs) (h k)
    ∙ ap (λ (l : List circuit.Domain). design.domain_of d k x ∷ l) (domains_alike d e h (k + 1) xs)

-- ---- by nodes

sync_stays : (d e : Design) (m : ℕ) → IsGrowing d → Stays d e → block e (stmts_of m d.sync) ≡ block d (stmts_of m d.sync)
sync_stays d e m g stays = block_same (design.stmt e) (design.stmt d) (length d.stmts) (stmts_of m d.sync) stays.stmt_trees (sync_below d m d.sync g.sync)

pub nodes_circuit : (x y : Design) → IsGrowing x → Grows x y → circuit_of y ≡ circuit_of x
unfolding circuit_of
nodes_circuit x y g h =
    circuits
    (ap (λ (d : Design). map made_of d.signals) h.is)
    (ap (λ (d : Design). block y d.comb) h.is ∙ block_stays x y x.comb h.stays g.comb)
    (ap (λ (d : Design). domains_from y 0 d.domains) h.is ∙ domains_alike x y (λ m. ap (λ (d : Design). block y (stmts_of m d.sync)) h.is ∙ sync_stays x y m g h.stays) 0 x.domains)
    (ap (λ (d : Design). map memory_of d.memories) h.is)
    (ap (λ (d : Design). map port_of d.ports) h.is)
    (ap (λ (d : Design). map signal_number d.ios) h.is)

-- ---- by a signal

signal_added : (x : Design) (s : Signal) → circuit_of (record x { signals = x.signals ++ s ∷ [] }) ≡ record (circuit_of x) { signals = (circuit_of x).signals ++ made_of s ∷ [] }
unfolding circuit_of
signal_added x s =
    circuits
    (map-append made_of x.signals (s ∷ []))
    refl
    (domains_alike x (record x { signals = x.signals ++ s ∷ [] }) (λ m. refl) 0 x.domains)
    refl refl refl

pub signal_circuit : (x y : Design) (s : Signal) (id : ℕ) → SignalPut x y s id → circuit_of y ≡ record (circuit_of x) { signals = (circuit_of x).signals ++ made_of s ∷ [] }
signal_circuit x y s id p = ap circuit_of p.is ∙ signal_added x s

-- ---- by statements

pub comb_circuit : (x y : Design) (id : StmtId) → y ≡ record x { comb = x.comb ++ id ∷ [] } → circuit_of y ≡ record (circuit_of x) { comb = append (circuit_of x).comb (one (design.stmt x id.place)) }
unfolding circuit_of
comb_circuit x y id e =
    ap circuit_of e
    ∙ circuits refl (block_append (design.stmt x) x.comb (id ∷ [])) (domains_alike x (record x { comb = x.comb ++ id ∷ [] }) (λ m. refl) 0 x.domains) refl refl refl

-- a part more of the domain p
sync_more : (f : ℕ → tree.Stmt) (m p : ℕ) (ids : List StmtId) (ps : List SyncPart)
    → block_at f (stmts_of m (ps ++ record { domain = p; stmts = ids } ∷ [])) ≡ append (block_at f (stmts_of m ps)) (cond (nat_eq p m) (block_at f ids) tree.Done)
sync_more f m p ids [] = last (nat_eq p m)
  where
    last : (t : Bool) → block_at f (cond t (ids ++ []) []) ≡ cond t (block_at f ids) tree.Done
    last true = ap (block_at f) (append-nil ids)
    last false = refl
sync_more f m p ids (q ∷ qs) = by_answer (nat_eq q.domain m) (sync_more f m p ids qs)
  where
    more : List SyncPart
    more = qs ++ record { domain = p; stmts = ids } ∷ []

    last : tree.Block
    last = cond (nat_eq p m) (block_at f ids) tree.Done

    by_answer : (t : Bool) → block_at f (stmts_of m more) ≡ append (block_at f (stmts_of m qs)) last
        → block_at f (cond t (q.stmts ++ stmts_of m more) (stmts_of m more)) ≡ append (block_at f (cond t (q.stmts ++ stmts_of m qs) (stmts_of m qs))) last
    by_answer true e =
        block_append f q.stmts (stmts_of m more)
        ∙ ap (append (block_at f q.stmts)) e
        ∙ sym (append_all (block_at f q.stmts) (block_at f (stmts_of m qs)) last)
        ∙ ap (λ (b : tree.Block). append b last) (sym (block_append f q.stmts (stmts_of m qs)))
    by_answer false e = e

-- the domains from number k on, with a part more of the domain p
abbrev with_part : Design → ℕ → List StmtId → Design
with_part x p ids = relisted x x.comb (x.sync ++ record { domain = p; stmts = ids } ∷ []) x.ports

part_block : (x : Design) (m p : ℕ) (ids : List StmtId) (t : Bool) → nat_eq p m ≡ t → block (with_part x p ids) (stmts_of m (with_part x p ids).sync) ≡ append (block x (stmts_of m x.sync)) (cond t (block x ids) tree.Done)
part_block x m p ids t e = sync_more (design.stmt x) m p ids x.sync ∙ ap (λ (u : Bool). append (block x (stmts_of m x.sync)) (cond u (block x ids) tree.Done)) e

other_block : (x : Design) (m p : ℕ) (ids : List StmtId) → (p ≡ m → ⊥) → block (with_part x p ids) (stmts_of m (with_part x p ids).sync) ≡ block x (stmts_of m x.sync)
other_block x m p ids h = part_block x m p ids false (ne_eqb p m h) ∙ append_done (block x (stmts_of m x.sync))

later_domains : (x : Design) (p k : ℕ) (ids : List StmtId) (xs : List Domain) → p < k → domains_from (with_part x p ids) k xs ≡ domains_from x k xs
later_domains x p k ids [] l = refl
later_domains x p k ids (y ∷ ys) l =
    ap (λ (b : tree.Block). record { name = y.name; reset = option_map signal_number y.reset; stmts = b } ∷ domains_from (with_part x p ids) (k + 1) ys) (other_block x k p ids (λ e. omega arith))
    ∙ ap (λ (ds : List circuit.Domain). design.domain_of x k y ∷ ds) (later_domains x p (k + 1) ids ys (omega arith))

part_domains : (x : Design) (p k j : ℕ) (ids : List StmtId) (xs : List Domain) → p ≡ k + j → domains_from (with_part x p ids) k xs ≡ changed (with_stmts (block x ids)) j (domains_from x k xs)
part_domains x p k j ids [] e = refl
part_domains x p k zero ids (y ∷ ys) e =
    ap (λ (b : tree.Block). record { name = y.name; reset = option_map signal_number y.reset; stmts = b } ∷ domains_from (with_part x p ids) (k + 1) ys) (part_block x k p ids true (eq-eqb p k (omega arith)))
    ∙ ap (λ (ds : List circuit.Domain). with_stmts (block x ids) (design.domain_of x k y) ∷ ds) (later_domains x p (k + 1) ids ys (omega arith))
part_domains x p k (suc j) ids (y ∷ ys) e =
    ap (λ (b : tree.Block). record { name = y.name; reset = option_map signal_number y.reset; stmts = b } ∷ domains_from (with_part x p ids) (k + 1) ys) (other_block x k p ids (λ f. omega arith))
    ∙ ap (λ (ds : List circuit.Domain). design.domain_of x k y ∷ ds) (part_domains x p (k + 1) j ids ys (omega arith))

part_circuit : (x : Design) (p : ℕ) (id : StmtId) → circuit_of (with_part x p (id ∷ [])) ≡ record (circuit_of x) { domains = with_sync (circuit_of x).domains (Some p) (one (design.stmt x id.place)) }
unfolding circuit_of
part_circuit x p id = circuits refl refl (part_domains x p 0 p (id ∷ []) x.domains (omega arith)) refl refl refl

pub sync_circuit : (x y : Design) (o : Option ℕ) (id : StmtId) → SyncPut x y o id → circuit_of y ≡ record (circuit_of x) { domains = with_sync (circuit_of x).domains o (one (design.stmt x id.place)) }
sync_circuit x y None id p = ap circuit_of (p.is ∙ ap (λ (ps : List SyncPart). record x { sync = ps }) (append-nil x.sync))
sync_circuit x y (Some k) id p = ap circuit_of p.is ∙ part_circuit x k id

-- nothing more of a domain
changed_same : (k : ℕ) (ds : List circuit.Domain) → changed (with_stmts tree.Done) k ds ≡ ds
changed_same k [] = refl
changed_same zero (d ∷ ds) = ap (λ (b : tree.Block). record d { stmts = b } ∷ ds) (append_done d.stmts)
changed_same (suc k) (d ∷ ds) = ap (λ (l : List circuit.Domain). d ∷ l) (changed_same k ds)

pub sync_same : (ds : List circuit.Domain) (o : Option ℕ) → with_sync ds o tree.Done ≡ ds
sync_same ds None = refl
sync_same ds (Some k) = changed_same k ds

-- ---- growth

each_both : {T : Type 0} (P : T → Type 0) (xs ys : List T) → EachOf P xs → EachOf P ys → EachOf P (xs ++ ys)
each_both P [] ys g h = h
each_both P (x ∷ xs) ys g h = (g.0, each_both P xs ys g.1 h)

past_wider : (n m : ℕ) (ids : List StmtId) → n ≤ m → ArePast m ids → ArePast n ids
past_wider n m [] l h = tt
past_wider n m (i ∷ is) l h = (omega (arith, h.0, l), past_wider n m is l h.1)

pub growth_then : {x y z : Design} → Growth x y → Growth y z → Growth x z
growth_then {x} {y} {z} g h =
    let a = g.added in
    let b = h.added in
    record {
      stays = stays_then x y z g.stays h.stays;
      added = record {
        signals = a.signals ++ b.signals;
        comb = a.comb ++ b.comb;
        sync = a.sync ++ b.sync;
        signals_are = b.signals_are ∙ (ap (λ (l : List Signal). l ++ b.signals) a.signals_are ∙ append_assoc x.signals a.signals b.signals);
        comb_are = b.comb_are ∙ (ap (λ (l : List StmtId). l ++ b.comb) a.comb_are ∙ append_assoc x.comb a.comb b.comb);
        sync_are = b.sync_are ∙ (ap (λ (l : List SyncPart). l ++ b.sync) a.sync_are ∙ append_assoc x.sync a.sync b.sync);
        generated = each_both IsGenerated a.signals b.signals a.generated b.generated;
        past = each_both (λ (id : StmtId). length x.stmts ≤ id.place) a.comb b.comb a.past (past_wider (length x.stmts) (length y.stmts) b.comb g.stays.stmts b.past);
        lines = lines_then x y z h.stays a.lines b.lines;
      };
      memories = h.memories ∙ g.memories;
      domains = h.domains ∙ g.domains;
      ios = h.ios ∙ g.ios;
      ports = h.ports ∙ g.ports;
    }

pub nodes_growth : {x y : Design} → Grows x y → Growth x y
nodes_growth {x} {y} g = record {
  stays = g.stays;
  added = record {
    signals = [];
    comb = [];
    sync = [];
    signals_are = ap (λ (d : Design). d.signals) g.is ∙ sym (append-nil x.signals);
    comb_are = ap (λ (d : Design). d.comb) g.is ∙ sym (append-nil x.comb);
    sync_are = ap (λ (d : Design). d.sync) g.is ∙ sym (append-nil x.sync);
    generated = tt;
    past = tt;
    lines = g.lines;
  };
  memories = ap (λ (d : Design). d.memories) g.is;
  domains = ap (λ (d : Design). d.domains) g.is;
  ios = ap (λ (d : Design). d.ios) g.is;
  ports = ap (λ (d : Design). d.ports) g.is;
}

pub growth_same : (x : Design) → Growth x x
growth_same x = record {
  stays = stays_same x;
  added = record {
    signals = [];
    comb = [];
    sync = [];
    signals_are = sym (append-nil x.signals);
    comb_are = sym (append-nil x.comb);
    sync_are = sym (append-nil x.sync);
    generated = tt;
    past = tt;
    lines = none_past x.stmts;
  };
  memories = refl;
  domains = refl;
  ios = refl;
  ports = refl;
}

with_signal : (x : Design) (s : Signal) → IsGenerated s → Stays x (record x { signals = x.signals ++ s ∷ [] }) → Growth x (record x { signals = x.signals ++ s ∷ [] })
with_signal x s h stays = record {
  stays = stays;
  added = record {
    signals = s ∷ [];
    comb = [];
    sync = [];
    signals_are = refl;
    comb_are = sym (append-nil x.comb);
    sync_are = sym (append-nil x.sync);
    generated = (h, tt);
    past = tt;
    lines = none_past x.stmts;
  };
  memories = refl;
  domains = refl;
  ios = refl;
  ports = refl;
}

pub signal_growth : {x y : Design} {s : Signal} {id : ℕ} → IsGenerated s → SignalPut x y s id → Growth x y
signal_growth {x} {y} {s} h p = subst (λ (d : Design). Growth x d) (sym p.is) (with_signal x s h (subst (λ (d : Design). Stays x d) p.is p.stays))

-- nothing but parts of domains more
with_parts : (x : Design) (ps : List SyncPart) → Growth x (relisted x x.comb (x.sync ++ ps) x.ports)
with_parts x ps = record {
  stays = relisted_stays x x.comb (x.sync ++ ps) x.ports;
  added = record {
    signals = [];
    comb = [];
    sync = ps;
    signals_are = sym (append-nil x.signals);
    comb_are = sym (append-nil x.comb);
    sync_are = refl;
    generated = tt;
    past = tt;
    lines = none_past x.stmts;
  };
  memories = refl;
  domains = refl;
  ios = refl;
  ports = refl;
}

pub sync_growth : {x y : Design} {o : Option ℕ} {id : StmtId} → SyncPut x y o id → Growth x y
sync_growth {x} {y} {o} {id} p = subst (λ (d : Design). Growth x d) (sym p.is) (with_parts x (part_of o id))

-- a statement that was put becomes combinatorial
with_comb : (x y : Design) (id : StmtId) (t : tree.Stmt) → StmtPut x y id.place t → Growth x (relisted y (y.comb ++ id ∷ []) y.sync y.ports)
with_comb x y id t p =
    let g = nodes_growth p.grows in
    record {
      stays = stays_then x y (relisted y (y.comb ++ id ∷ []) y.sync y.ports) g.stays (relisted_stays y (y.comb ++ id ∷ []) y.sync y.ports);
      added = record {
        signals = [];
        comb = id ∷ [];
        sync = [];
        signals_are = ap (λ (d : Design). d.signals) p.grows.is ∙ sym (append-nil x.signals);
        comb_are = ap (λ (d : Design). d.comb ++ id ∷ []) p.grows.is;
        sync_are = ap (λ (d : Design). d.sync) p.grows.is ∙ sym (append-nil x.sync);
        generated = tt;
        past = (p.past, tt);
        lines = p.grows.lines;
      };
      memories = g.memories;
      domains = g.domains;
      ios = g.ios;
      ports = g.ports;
    }

pub comb_growth : {x y z : Design} {id : StmtId} {t : tree.Stmt} → StmtPut x y id.place t → z ≡ record y { comb = y.comb ++ id ∷ [] } → Growth x z
comb_growth {x} {y} {z} {id} {t} p e = subst (λ (d : Design). Growth x d) (sym e) (with_comb x y id t p)

-- ---- a design that grew is wider

pub same_signal : (x y : Design) (k : ℕ) → Stays x y → k < length x.signals → shapes y k ≡ shapes x k
same_signal x y k stays l =
    let s = node_there x.signals k l in
    sym (signal_shape_is y k s.0 (stays.signals k l ∙ s.1)) ∙ signal_shape_is x k s.0 s.1

pub same_memory : (x y : Design) (m : ℕ) → y.memories ≡ x.memories → design.memory_at y m ≡ design.memory_at x m
unfolding circuit_of
same_memory x y m e = ap (λ (ms : List Memory). slice_index_or (map memory_of ms) m circuit.no_memory) e

pub growth_wider : {x y : Design} → Growth x y → IsWider x y
growth_wider {x} {y} g = record {
  arenas = record {
    longer = g.stays.signals_more;
    shapes = λ k l. same_signal x y k g.stays l;
    memories = λ k m h. ap (λ (ms : List Memory). slice_get ms k) g.memories ∙ h;
  };
  memories_more = omega (arith, ap (λ (ms : List Memory). length ms) g.memories);
  memories = λ m l. same_memory x y m g.memories;
}
