-- What is put for one port.
use Rattle.std.proofs.Common.{◌≡◌, ℕ, pos, ◌+◌, ◌<◌, List, [], ◌∷◌, ◌++◌, Option, Some, None, length, refl, sym, ap, subst, ◌∙◌, arith, cond, nat_lt, ◌^◌}
use Rattle.std.specs.Prelude.{IfSome, option_map, slice_get}
use Rattle.std.proofs.lemmas.List.{append-nil, length-map, length_push}
use Rattle.lx_arena.proofs.Places.{get_last}
use Rattle.lx_num.specs.Ints.{unsigned}
use Rattle.lx_num.specs.declared.Shape.{Shape}
use Rattle.lx_circuit.specs.Circuit as circuit
use Rattle.lx_circuit.specs.Circuit.{Circuit, Made}
use Rattle.lx_circuit.specs.Memories as memory
use Rattle.lx_circuit.specs.Shapes.{Shapes}
use Rattle.lx_circuit.specs.Statements as tree
use Rattle.lx_circuit.specs.Terms.{Term, Binary, Constant, Fetch, Mux, Signal}
use Rattle.lx_tables.specs.declared.operators.Op.TheVariants as op
use Rattle.lx_fhdl.specs.Below.{ExprId, StmtId}
use Rattle.lx_fhdl.specs.Designs as design
use Rattle.lx_fhdl.specs.Designs.{circuit_of, made_of, memory_at, mode_of, port_of, shapes, signal_number, writer_of}
use Rattle.lx_fhdl.specs.Drafts.{SignalPut, Stays}
use Rattle.lx_fhdl.specs.Keeping.{IsPort, IsUnsigned}
use Rattle.lx_fhdl.specs.declared.design.Design.{Design}
use Rattle.lx_fhdl.specs.declared.design.Memory.{Memory}
use Rattle.lx_fhdl.specs.declared.design.Port.{Port}
use Rattle.lx_fhdl.specs.declared.design.PortMode.{PortMode}
use Rattle.lx_fhdl.specs.declared.design.Signal as signal
use Rattle.lx_fhdl.specs.declared.exprs.SigId.{SigId}
use Rattle.lx_lowering.specs.Flat.{append, one}
use Rattle.lx_memory.specs.Ports.{reads, registers, takes, with_reader, with_sync, word_at}
use Rattle.lx_memory.specs.Puts.{CanRead, Grows, Growth, HasStmt, IsGrowing, IsKept, IsShown, PortLowered, ShowPut, StmtPut, SyncPut, TermPut, held, register_of, with_register}
use Rattle.lx_memory.proofs.Growths.{circuits, comb_circuit, comb_growth, growth_same, growth_then, nodes_circuit, nodes_growth, same_memory, same_signal, signal_circuit, signal_growth, sync_circuit, sync_growth, sync_same}
use Rattle.lx_memory.proofs.Nodes.{grows_then, same_shapes}
use Rattle.lx_memory.proofs.SignalShapes.{signal_shape_is}

-- ---- words

pub word_same : (c e : Circuit) (q : memory.Port) (k : ℕ) → circuit.memory_at e q.memory ≡ circuit.memory_at c q.memory → circuit.shapes e q.adr ≡ circuit.shapes c q.adr → word_at e q k ≡ word_at c q k
word_same c e q k m a =
    ap (λ (y : memory.Memory). word_of y (circuit.shapes e q.adr)) m ∙ ap (λ (s : Shape). word_of (circuit.memory_at c q.memory) s) a
  where
    word_of : memory.Memory → Shape → Term
    word_of y s =
        cond (nat_lt y.depth (2 ^ s.bits))
        (Mux (Binary op.Lt (Signal k) (Constant (pos y.depth) s)) (Fetch q.memory y.width (Signal k)) (Constant (pos 0) (unsigned y.width)))
        (Fetch q.memory y.width (Signal k))

-- in a design that grew
pub word_stays : (x y : Design) (q : Port) (k : ℕ) → Growth x y → q.adr.0 < length x.signals → word_at (circuit_of y) (port_of q) k ≡ word_at (circuit_of x) (port_of q) k
word_stays x y q k g l = word_same (circuit_of x) (circuit_of y) (port_of q) k (same_memory x y q.memory g.memories) (same_signal x y q.adr.0 g.stays l)

-- ---- signals

many_signals : (x : Design) → length (circuit_of x).signals ≡ length x.signals
unfolding circuit_of
many_signals x = length-map x.signals made_of

signals_grown : (x y : Design) (s : signal.Signal) (id : ℕ) → SignalPut x y s id → length y.signals ≡ length x.signals + 1
signals_grown x y s id p = ap (λ (d : Design). length d.signals) p.is ∙ length_push x.signals s

pub signal_there : {x y : Design} {s : signal.Signal} {id : ℕ} → SignalPut x y s id → id < length y.signals
signal_there {x} {y} {s} {id} p = let z = signals_grown x y s id p in let e = p.place in omega arith

pub new_shape : {x y : Design} {s : signal.Signal} {id : ℕ} → SignalPut x y s id → shapes y id ≡ s.shape
new_shape {x} {y} {s} {id} p =
    sym (signal_shape_is y id s (ap (λ (d : Design). slice_get d.signals id) p.is ∙ (ap (λ (k : ℕ). slice_get (x.signals ++ s ∷ []) k) p.place ∙ get_last x.signals s)))

number_is : {x y : Design} {s : signal.Signal} {id : ℕ} → SignalPut x y s id → id ≡ length (circuit_of x).signals
number_is {x} p = p.place ∙ sym (many_signals x)

-- ---- ports

pub can_read : (x y : Design) (q : Port) (k : SigId) → IsPort x q → Growth x y → k.0 < length y.signals → shapes y k.0 ≡ shapes x q.adr.0 → CanRead y q k
can_read x y q k h g l e =
    let same = same_signal x y q.adr.0 g.stays h.adr.there in
    record {
      memory = omega (arith, h.memory, ap (λ (ms : List Memory). length ms) g.memories);
      adr = omega (arith, h.adr.there, g.stays.signals_more);
      plain = ap (λ (a : Shape). a.signed) same ∙ h.adr.plain;
      there = l;
      shape = e ∙ sym same;
    }

-- ---- a register

-- the register, what it takes, and what is shown
pub shown : {x a c d e : Design} {s : signal.Signal} {kept : ℕ} {o : Option ℕ} {stmt : StmtId} {id : ℕ} {t : tree.Stmt} {u : Term}
    → SignalPut x a s kept → Growth x a → IsGrowing a → Grows a c → HasStmt c stmt.place t → SyncPut c d o stmt → IsGrowing d → TermPut d e id u → ShowPut x e (made_of s ∷ []) o (one t) id u
shown {x} {a} {c} {d} {e} {s} {kept} {o} {stmt} {id} {t} {u} p gp ga g h q gd v = record {
  growth = growth_then gp (growth_then (nodes_growth g) (growth_then (sync_growth q) (nodes_growth v.grows)));
  has = v.has;
  circuit =
      nodes_circuit d e gd v.grows
      ∙ sync_circuit c d o stmt q
      ∙ ap (λ (b : tree.Stmt). record (circuit_of c) { domains = with_sync (circuit_of c).domains o (one b) }) h.tree
      ∙ ap (λ (w : Circuit). record w { domains = with_sync w.domains o (one t) }) (nodes_circuit a c ga g ∙ signal_circuit x a s kept p);
}

pub show_is : {x y : Design} {ms ns : List Made} {o : Option ℕ} {b c : tree.Block} {id : ℕ} {t u : Term} → ms ≡ ns → b ≡ c → t ≡ u → ShowPut x y ms o b id t → ShowPut x y ns o c id u
show_is {x} {y} {ms} {ns} {o} {b} {c} {id} {t} {u} p q r h =
    subst (λ (l : List Made). ShowPut x y l o c id u) p (subst (λ (w : tree.Block). ShowPut x y ms o w id u) q (subst (λ (w : Term). ShowPut x y ms o b id w) r h))

-- the address that it keeps can be read from
pub address_read : {x a c d : Design} {q : Port} {kept : SigId} {o : Option ℕ} {stmt : StmtId}
    → IsPort x q → SignalPut x a (register_of (shapes x q.adr.0)) kept.0 → Grows a c → SyncPut c d o stmt → CanRead d q kept
address_read {x} {a} {c} {d} {q} {kept} {o} {stmt} port p g sync =
    let gp : Growth x a = signal_growth (record { path = refl; line = refl }) p in
    let gd : Growth a d = growth_then (nodes_growth g) (sync_growth sync) in
    let l = signal_there p in
    can_read x d q kept port (growth_then gp gd) (omega (arith, l, gd.stays.signals_more)) (same_signal a d kept.0 gd.stays l ∙ new_shape p)

-- one that keeps an address
pub address_shown : {x a b c d e : Design} {q : Port} {kept : SigId} {address : ExprId} {stmt : StmtId} {id : ℕ}
    → IsPort x q → SignalPut x a (register_of (shapes x q.adr.0)) kept.0 → IsGrowing a → TermPut a b address.place (Signal q.adr.0)
    → StmtPut b c stmt.place (tree.Assign (tree.Whole kept.0) (design.term b address.place)) → SyncPut c d q.domain stmt → IsGrowing d
    → TermPut d e id (word_at (circuit_of d) (port_of q) kept.0) → IsShown x e q memory.WriteFirst id
address_shown {x} {a} {b} {c} {d} {e} {q} {kept} {address} {stmt} {id} port p ga m h sync gd v =
    let gp : Growth x a = signal_growth (record { path = refl; line = refl }) p in
    let g : Grows a c = grows_then m.grows h.grows in
    let gx : Growth x d = growth_then gp (growth_then (nodes_growth g) (sync_growth sync)) in
    let n = length (circuit_of x).signals in
    show_is refl
    (ap one (ap (tree.Assign (tree.Whole kept.0)) m.has.tree ∙ ap (λ (k : ℕ). tree.Assign (tree.Whole k) (Signal q.adr.0)) (number_is p)))
    (word_stays x d q kept.0 gx port.adr.there ∙ ap (word_at (circuit_of x) (port_of q)) (number_is p))
    (shown p gp ga g h.has sync gd v)

held_same : (s t : Shapes) (o : Option SigId) (a b : tree.Stmt) → IfSome o (λ w. s w.0 ≡ t w.0) → a ≡ b → held s o a ≡ held t o b
held_same s t None a b h e = e
held_same s t (Some w) a b h e =
    ap (λ (m : Shape). tree.If (tree.Branch (Binary op.Eq (Signal w.0) (Constant (pos 0) m)) (one a) tree.NoBranch) tree.Done) h
    ∙ ap (λ (u : tree.Stmt). tree.If (tree.Branch (Binary op.Eq (Signal w.0) (Constant (pos 0) (t w.0))) (one u) tree.NoBranch) tree.Done) e

holds_same : (x y : Design) (o : Option SigId) → Stays x y → IfSome o (λ w. w.0 < length x.signals) → IfSome o (λ w. shapes y w.0 ≡ shapes x w.0)
holds_same x y None stays h = tt
holds_same x y (Some w) stays h = same_signal x y w.0 stays h

-- a statement, where all bits of a signal are 0
pub taken_put : {x a b : Design} {o : Option SigId} {w : SigId} {stmt : StmtId} {id : ℕ} {t : tree.Stmt} → o ≡ Some w → StmtPut x a stmt.place t → StmtPut a b id (held (shapes a) (Some w) (design.stmt a stmt.place)) → StmtPut x b id (held (shapes x) o t)
taken_put {x} {a} {b} {o} {w} {stmt} {id} {t} e p h = record {
  grows = grows_then p.grows h.grows;
  has = record {
    there = h.has.there;
    tree = h.has.tree ∙ (held_same (shapes a) (shapes x) (Some w) (design.stmt a stmt.place) t (same_shapes p.grows w.0) p.has.tree ∙ ap (λ (z : Option SigId). held (shapes x) z t) (sym e));
  };
  past = omega (arith, p.grows.stays.stmts, h.past);
}

-- one that keeps a word
pub word_shown : {x a b c d e : Design} {q : Port} (holds : Option SigId) {kept : SigId} {word : ExprId} {stmt : StmtId} {id : ℕ}
    → IsPort x q → IfSome holds (λ w. w.0 < length x.signals) → SignalPut x a (register_of (unsigned (memory_at x q.memory).width)) kept.0 → IsGrowing a
    → TermPut a b word.place (word_at (circuit_of a) (port_of q) q.adr.0)
    → StmtPut b c stmt.place (held (shapes b) holds (tree.Assign (tree.Whole kept.0) (design.term b word.place))) → SyncPut c d q.domain stmt → IsGrowing d
    → TermPut d e id (Signal kept.0) → IsKept x e q holds id
word_shown {x} {a} {b} {c} {d} {e} {q} holds {kept} {word} {stmt} {id} port l p ga m h sync gd v =
    let gp : Growth x a = signal_growth (record { path = refl; line = refl }) p in
    let g : Grows a c = grows_then m.grows h.grows in
    let gb : Growth x b = growth_then gp (nodes_growth m.grows) in
    let n = length (circuit_of x).signals in
    let taken : tree.Assign (tree.Whole kept.0) (design.term b word.place) ≡ tree.Assign (tree.Whole n) (word_at (circuit_of x) (port_of q) q.adr.0) =
    ap (tree.Assign (tree.Whole kept.0)) (m.has.tree ∙ word_stays x a q q.adr.0 gp port.adr.there)
    ∙ ap (λ (k : ℕ). tree.Assign (tree.Whole k) (word_at (circuit_of x) (port_of q) q.adr.0)) (number_is p) in
    show_is refl
    (ap one (held_same (shapes b) (shapes x) holds (tree.Assign (tree.Whole kept.0) (design.term b word.place)) (tree.Assign (tree.Whole n) (word_at (circuit_of x) (port_of q) q.adr.0)) (holds_same x b holds gb.stays l) taken))
    (ap Signal (number_is p))
    (shown p gp ga g h.has sync gd v)

-- ---- what is shown, by mode

pub async_shown : {x y : Design} (q : Port) {id : ℕ} → IsGrowing x → TermPut x y id (word_at (circuit_of x) (port_of q) q.adr.0) → IsShown x y q memory.Async id
async_shown {x} {y} q {id} g p =
    let c = circuit_of x in
    record {
      growth = nodes_growth p.grows;
      has = p.has;
      circuit = nodes_circuit x y g p.grows ∙ circuits (sym (append-nil c.signals)) refl (sym (sync_same c.domains q.domain)) refl refl refl;
    }

pub shown_as : {x y : Design} (q : Port) {id : ℕ} (m : PortMode) → q.mode ≡ m → IsShown x y q (mode_of m) id → IsShown x y q (port_of q).mode id
shown_as {x} {y} q {id} m e h = subst (λ (k : PortMode). IsShown x y q (mode_of k) id) (sym e) h

-- ---- a port

pub reader_there : (x : Design) (q : Port) (r : SigId) → IsPort x q → q.dat_r ≡ Some r → r.0 < length x.signals
reader_there x q r h e = (subst (λ (o : Option SigId). IfSome o (IsUnsigned x (memory_at x q.memory).width)) e h.dat_r).there

pub port_lowered : {x a b y : Design} {q : Port} {r : SigId} {value : ExprId} {stmt : StmtId} → q.dat_r ≡ Some r → IsShown x a q (port_of q).mode value.place → IsGrowing a
    → StmtPut a b stmt.place (tree.Assign (tree.Whole r.0) (design.term a value.place)) → y ≡ record b { comb = b.comb ++ stmt ∷ [] } → PortLowered x y q
port_lowered {x} {a} {b} {y} {q} {r} {value} {stmt} e p ga h is =
    let c = circuit_of x in
    let w = with_register c (registers c (port_of q) (port_of q).mode) q.domain (takes c (port_of q) (length c.signals) (port_of q).mode) in
    let shows = reads c (port_of q) (length c.signals) (port_of q).mode in
    record {
      growth = growth_then p.growth (comb_growth h is);
      circuit =
          comb_circuit b y stmt is
          ∙ ap (λ (t : tree.Stmt). record (circuit_of b) { comb = append (circuit_of b).comb (one t) }) (h.has.tree ∙ ap (tree.Assign (tree.Whole r.0)) p.has.tree)
          ∙ ap (λ (z : Circuit). record z { comb = append z.comb (one (tree.Assign (tree.Whole r.0) shows)) }) (nodes_circuit a b ga h.grows ∙ p.circuit)
          ∙ ap (λ (o : Option SigId). with_reader c (port_of q) (option_map signal_number o)) (sym e);
    }

pub port_silent : {x : Design} {q : Port} → ((r : SigId) → q.dat_r ≡ Some r → ⊥) → PortLowered x x q
port_silent {x} {q} h = record { growth = growth_same x; circuit = ap (λ (o : Option SigId). with_reader (circuit_of x) (port_of q) (option_map signal_number o)) (sym (none q.dat_r refl)) }
  where
    none : (o : Option SigId) → q.dat_r ≡ o → q.dat_r ≡ None
    none None e = e
    none (Some r) e = absurd (h r e)
