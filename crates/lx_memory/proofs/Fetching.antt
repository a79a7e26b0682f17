-- Reads of words that are put.
use Rattle.std.proofs.Common.{◌≡◌, ℕ, pos, ◌<◌, ◌≤◌, ◌^◌, zero, suc, Bool, true, false, List, [], ◌∷◌, length, map, sym, ap, subst, ◌∙◌, arith, cond, nat_lt}
use Rattle.std.specs.Prelude.{Some, slice_get, slice_index_or}
use Rattle.lx_arena.proofs.Places.{node_there}
use Rattle.lx_num.specs.Ints.{unsigned}
use Rattle.lx_num.specs.declared.Shape.{Shape}
use Rattle.lx_circuit.specs.Circuit.{no_memory}
use Rattle.lx_circuit.specs.Memories as memory
use Rattle.lx_circuit.specs.Shapes.{shape_of}
use Rattle.lx_circuit.specs.Terms.{Term, Binary, Constant, Fetch, Mux, Signal}
use Rattle.lx_tables.specs.declared.operators.Op.TheVariants as op
use Rattle.lx_fhdl.specs.Below.{ExprId}
use Rattle.lx_fhdl.specs.Designs.{circuit_of, memory_at, memory_of, port_of, shapes, term}
use Rattle.lx_fhdl.specs.Drafts.{DraftKeeps, ExprPut}
use Rattle.lx_fhdl.specs.Keeping.{IsSignal}
use Rattle.lx_fhdl.specs.declared.design.Design.{Design}
use Rattle.lx_fhdl.specs.declared.design.Memory.{Memory}
use Rattle.lx_fhdl.specs.declared.design.Port.{Port}
use Rattle.lx_fhdl.specs.declared.exprs.Expr.TheVariants as expr
use Rattle.lx_fhdl.specs.declared.exprs.SigId.{SigId}
use Rattle.lx_fhdl.proofs.Resets.{each_of_at}
use Rattle.lx_memory.specs.Ports.{word_at}
use Rattle.lx_memory.specs.Puts.{CanRead, Grows, HasTerm, TermPut, fetched, guarded}
use Rattle.lx_memory.proofs.Nodes.{found_memory, grows_then, same_shapes, term_kept, term_put}
use Rattle.lx_memory.proofs.SignalShapes.{signal_shape_is}

-- ---- a design that grew by nodes

pub same_words : {x y : Design} → Grows x y → (m : ℕ) → memory_at y m ≡ memory_at x m
unfolding circuit_of
same_words {x} {y} g m = ap (λ (d : Design). memory_at d m) g.is

pub reads_kept : {x y : Design} {q : Port} {s : SigId} → Grows x y → CanRead x q s → CanRead y q s
reads_kept {x} {y} {q} {s} g h = record {
  memory = omega (arith, h.memory, ap (λ (d : Design). length d.memories) g.is);
  adr = omega (arith, h.adr, g.stays.signals_more);
  plain = ap (λ (a : Shape). a.signed) (same_shapes g q.adr.0) ∙ h.plain;
  there = omega (arith, h.there, g.stays.signals_more);
  shape = same_shapes g s.0 ∙ (h.shape ∙ sym (same_shapes g q.adr.0));
}

pub fetched_kept : {x y : Design} (q : Port) {s : SigId} {id : ℕ} → Grows x y → HasTerm y id (fetched x q s) → HasTerm y id (fetched y q s)
fetched_kept {x} {y} q {s} {id} g h = record { there = h.there; tree = h.tree ∙ ap (λ (m : memory.Memory). Fetch q.memory m.width (Signal s.0)) (sym (same_words g q.memory)) }

-- ---- one word

pub fetch_put : {x y : Design} {m w : ℕ} {at : ExprId} {id : ℕ} → w ≡ (memory_at x m).width → ExprPut x y (expr.Fetch m w at) id → TermPut x y id (Fetch m (memory_at x m).width (term x at.place))
fetch_put {x} {y} {m} {w} {at} {id} e p = subst (λ (k : ℕ). TermPut x y id (Fetch m k (term x at.place))) e (term_put x y (expr.Fetch m w at) id p)

among : (ms : List Memory) (m : ℕ) (y : Memory) → slice_get ms m ≡ Some y → slice_index_or (map memory_of ms) m no_memory ≡ memory_of y
among [] m y e = absurd (cc)
among (z ∷ zs) zero y e = let same : z ≡ y = cc in ap memory_of same
among (z ∷ zs) (suc m) y e = among zs m y e

pub memory_is : (d : Design) (m : ℕ) (y : Memory) → slice_get d.memories m ≡ Some y → memory_at d m ≡ memory_of y
unfolding circuit_of
memory_is d m y e = among d.memories m y e

-- whether the bits of an address reach past a depth
pub reached : {r t : Bool} {d e : ℕ} {a s : Shape} → r ≡ t → r ≡ nat_lt d (2 ^ a.bits) → d ≡ e → a ≡ s → nat_lt e (2 ^ s.bits) ≡ t
reached {r} {t} {d} {e} {a} {s} p q f g = sym (ap (λ (k : ℕ). nat_lt k (2 ^ a.bits)) f ∙ ap (λ (b : Shape). nat_lt e (2 ^ b.bits)) g) ∙ (sym q ∙ p)

pub word_plain : {x y : Design} {q : Port} {s : SigId} {at : ExprId} → Grows x y → CanRead x q s → HasTerm y at.place (Signal s.0) → (shape_of (shapes y) (term y at.place)).signed ≡ false
word_plain {x} {y} {q} {s} {at} g h t = ap (λ (u : Term). (shape_of (shapes y) u).signed) t.tree ∙ ap (λ (a : Shape). a.signed) (same_shapes g s.0 ∙ h.shape) ∙ h.plain

pub word_put : {x a b : Design} (q : Port) {s : SigId} {at word : ExprId} → TermPut x a at.place (Signal s.0) → TermPut a b word.place (Fetch q.memory (memory_at a q.memory).width (term a at.place)) → TermPut x b word.place (fetched x q s)
word_put {x} {a} {b} q {s} {at} {word} p r = record {
  grows = grows_then p.grows r.grows;
  has = record {
    there = r.has.there;
    tree = r.has.tree
        ∙ ap (λ (m : memory.Memory). Fetch q.memory m.width (term a at.place)) (same_words p.grows q.memory)
        ∙ ap (Fetch q.memory (memory_at x q.memory).width) p.has.tree;
  };
}

pub guarded_put : {x a b c : Design} {q : Port} {s : SigId} {left word right : ExprId} {id : ℕ} → CanRead x q s
    → TermPut x a left.place (Binary op.Lt (Signal s.0) (Constant (pos (memory_at x q.memory).depth) (shapes x s.0)))
    → TermPut a b right.place (Constant (pos 0) (unsigned (memory_at x q.memory).width)) → HasTerm x word.place (fetched x q s) → ExprPut b c (expr.Mux left word right) id → TermPut x c id (guarded x q s)
guarded_put {x} {a} {b} {c} {q} {s} {left} {word} {right} {id} h p r w e =
    let put = term_put b c (expr.Mux left word right) id e in
    let both = grows_then p.grows r.grows in
    record {
      grows = grows_then both put.grows;
      has = record {
        there = put.has.there;
        tree = put.has.tree
            ∙ ap (λ (t : Term). Mux t (term b word.place) (term b right.place)) (term_kept r.grows p.has).tree
            ∙ ap (λ (t : Term). Mux (Binary op.Lt (Signal s.0) (Constant (pos (memory_at x q.memory).depth) (shapes x s.0))) t (term b right.place)) (term_kept both w).tree
            ∙ ap (λ (t : Term). Mux (Binary op.Lt (Signal s.0) (Constant (pos (memory_at x q.memory).depth) (shapes x s.0))) (fetched x q s) t) r.has.tree
            ∙ ap (λ (k : Shape). Mux (Binary op.Lt (Signal s.0) (Constant (pos (memory_at x q.memory).depth) k)) (fetched x q s) (Constant (pos 0) (unsigned (memory_at x q.memory).width))) h.shape;
      };
    }

-- ---- the word, as the lowered circuit has it

-- without a guard, and with one
pub word_here : {x y : Design} (q : Port) {s : SigId} {id : ℕ} → nat_lt (memory_at x q.memory).depth (2 ^ (shapes x q.adr.0).bits) ≡ false → TermPut x y id (fetched x q s) → TermPut x y id (word_at (circuit_of x) (port_of q) s.0)
word_here {x} {y} q {s} {id} e p = subst (λ (t : Term). TermPut x y id t) (sym (ap (λ (b : Bool). cond b (guarded x q s) (fetched x q s)) e)) p

same_guarded : {x b : Design} (q : Port) (s : SigId) → Grows x b → guarded b q s ≡ guarded x q s
same_guarded {x} {b} q s g =
    ap (λ (m : memory.Memory). guarded_by m (shapes b q.adr.0)) (same_words g q.memory) ∙ ap (λ (a : Shape). guarded_by (memory_at x q.memory) a) (same_shapes g q.adr.0)
  where
    guarded_by : memory.Memory → Shape → Term
    guarded_by m a = Mux (Binary op.Lt (Signal s.0) (Constant (pos m.depth) a)) (Fetch q.memory m.width (Signal s.0)) (Constant (pos 0) (unsigned m.width))

pub word_guarded : {x b c : Design} (q : Port) {s : SigId} {id : ℕ} → nat_lt (memory_at x q.memory).depth (2 ^ (shapes x q.adr.0).bits) ≡ true → Grows x b → TermPut b c id (guarded b q s) → TermPut x c id (word_at (circuit_of x) (port_of q) s.0)
word_guarded {x} {b} {c} q {s} {id} e g p = record {
  grows = grows_then g p.grows;
  has = record { there = p.has.there; tree = p.has.tree ∙ (same_guarded q s g ∙ sym (ap (λ (t : Bool). cond t (guarded x q s) (fetched x q s)) e)) };
}

-- ---- the bits of a register

pub signal_narrow : (d : Design) (k : ℕ) → DraftKeeps d → k < length d.signals → (1 ≤ (shapes d k).bits) × ((shapes d k).bits ≤ 64)
signal_narrow d k keep l =
    let s = node_there d.signals k l in
    let is = each_of_at IsSignal d.signals keep.signals k s.0 s.1 in
    let e = signal_shape_is d k s.0 s.1 in
    subst (λ (a : Shape). (1 ≤ a.bits) × (a.bits ≤ 64)) e (is.some, is.most)

pub word_narrow : (d : Design) (m : ℕ) → DraftKeeps d → m < length d.memories → (1 ≤ (memory_at d m).width) × ((memory_at d m).width ≤ 64)
word_narrow d m keep l =
    let f = found_memory d m l keep in
    subst (λ (y : memory.Memory). (1 ≤ y.width) × (y.width ≤ 64)) (sym f.1.1.1) (f.1.1.0.width_some, f.1.1.0.width_most)
