-- The shapes and bits that are kept, while the draft grows.
use Rattle.std.proofs.Common.{◌≡◌, false, ℕ, ◌+◌, ◌<◌, List, [], ◌∷◌, ◌++◌, length, refl, sym, ap, ◌∙◌, arith}
use Rattle.std.proofs.lemmas.List.{length_push}
use Rattle.lx_num.specs.declared.Shape.{Shape}
use Rattle.lx_num.specs.Ints.{shape}
use Rattle.lx_circuit.specs.Shapes.{Shapes, shape_of}
use Rattle.lx_circuit.specs.Statements.{target_bits}
use Rattle.lx_fhdl.specs.Designs as design
use Rattle.lx_fhdl.specs.Designs.{circuit_of, shapes}
use Rattle.lx_fhdl.specs.Drafts.{MemoryPut, PartsStay, SignalPut, ExprPut, TargetPut, StmtPut, Stays}
use Rattle.lx_fhdl.specs.Nodes.{shape_at}
use Rattle.lx_fhdl.specs.Stmts.{node_target}
use Rattle.lx_fhdl.specs.Trees.{node_term}
use Rattle.lx_fhdl.specs.declared.design.Design.{Design}
use Rattle.lx_fhdl.specs.declared.design.Memory.{Memory}
use Rattle.lx_fhdl.specs.declared.design.Signal.{Signal}
use Rattle.lx_fhdl.specs.declared.exprs.Expr.{Expr}
use Rattle.lx_fhdl.specs.declared.stmts.Stmt.{Stmt}
use Rattle.lx_fhdl.specs.declared.stmts.Target.{Target}
use Rattle.lx_shaped.specs.Making.{expr_shape, target_width}
use Rattle.lx_width.specs.Shapes.{AreShapes}
use Rattle.lx_width.proofs.Ends.{one_more}
use Rattle.lx_shaped.specs.Sizes.{HasBits, HasSizes, bits_at}

-- nodes that stay have their shapes and bits
exprs_stay : (old new : Design) (hs : List Shape) → shapes new ≡ shapes old → Stays old new → length new.exprs ≡ length old.exprs → AreShapes old hs → AreShapes new hs
exprs_stay old new hs e stays n h = record {
  long = h.long ∙ sym n;
  each = λ k l.
      let p : k < length old.exprs = omega (arith, n) in
      h.each k p ∙ ap (λ (s : Shapes). shape_of s (design.term old k)) (sym e) ∙ ap (shape_of (shapes new)) (sym (stays.terms k p));
}

targets_stay : (old new : Design) (bs : List ℕ) → shapes new ≡ shapes old → Stays old new → length new.targets ≡ length old.targets → HasBits old bs → HasBits new bs
targets_stay old new bs e stays n h = record {
  long = h.long ∙ sym n;
  each = λ k l.
      let p : k < length old.targets = omega (arith, n) in
      h.each k p ∙ ap (λ (s : Shapes). target_bits s (design.target old k)) (sym e) ∙ ap (target_bits (shapes new)) (sym (stays.target_trees k p));
}

expr_shapes : (d : Design) (x : Expr) → shapes (record d { exprs = d.exprs ++ x ∷ [] }) ≡ shapes d
unfolding circuit_of
expr_shapes d x = refl

target_shapes : (d : Design) (x : Target) → shapes (record d { targets = d.targets ++ x ∷ [] }) ≡ shapes d
unfolding circuit_of
target_shapes d x = refl

stmt_shapes : (d : Design) (x : Stmt) → shapes (record d { stmts = d.stmts ++ x ∷ [] }) ≡ shapes d
unfolding circuit_of
stmt_shapes d x = refl

pub sizes_expr : (old new : Design) (x : Expr) (id : ℕ) (hs more : List Shape) (bs : List ℕ) (a : Shape) → HasSizes old hs bs → ExprPut old new x id → more ≡ hs ++ a ∷ [] → a ≡ expr_shape x old → HasSizes new more bs
sizes_expr old new x id hs more bs a h put m e =
    let same : shapes new ≡ shapes old = ap shapes put.is ∙ expr_shapes old x in
    let longer : length new.exprs ≡ length old.exprs + 1 = ap (λ (d : Design). length d.exprs) put.is ∙ length_push old.exprs x in
    let last : design.term new (length old.exprs) ≡ node_term (design.term old) x = ap (design.term new) (sym put.place) ∙ put.tree in
    record {
      exprs = record {
        long = ap length m ∙ length_push hs a ∙ ap (λ (n : ℕ). n + 1) h.exprs.long ∙ sym longer;
        each = λ k l.
            ap (λ (xs : List Shape). shape_at xs k) m
            ∙ one_more hs a (shape 0 false) (λ j. shape_of (shapes new) (design.term new j)) (length old.exprs) h.exprs.long
            (λ j p. h.exprs.each j p ∙ ap (λ (s : Shapes). shape_of s (design.term old j)) (sym same) ∙ ap (shape_of (shapes new)) (sym (put.stays.terms j p)))
            (e ∙ ap (λ (s : Shapes). shape_of s (node_term (design.term old) x)) (sym same) ∙ ap (shape_of (shapes new)) (sym last))
            k (omega (arith, longer));
      };
      targets = targets_stay old new bs same put.stays (ap (λ (d : Design). length d.targets) put.is) h.targets;
    }

pub sizes_target : (old new : Design) (x : Target) (id : ℕ) (hs : List Shape) (bs more : List ℕ) (a : ℕ) → HasSizes old hs bs → TargetPut old new x id → more ≡ bs ++ a ∷ [] → a ≡ target_width x old → HasSizes new hs more
sizes_target old new x id hs bs more a h put m e =
    let same : shapes new ≡ shapes old = ap shapes put.is ∙ target_shapes old x in
    let longer : length new.targets ≡ length old.targets + 1 = ap (λ (d : Design). length d.targets) put.is ∙ length_push old.targets x in
    let last : design.target new (length old.targets) ≡ node_target (design.term old) (design.target old) x = ap (design.target new) (sym put.place) ∙ put.tree in
    record {
      exprs = exprs_stay old new hs same put.stays (ap (λ (d : Design). length d.exprs) put.is) h.exprs;
      targets = record {
        long = ap length m ∙ length_push bs a ∙ ap (λ (n : ℕ). n + 1) h.targets.long ∙ sym longer;
        each = λ k l.
            ap (λ (xs : List ℕ). bits_at xs k) m
            ∙ one_more bs a 0 (λ j. target_bits (shapes new) (design.target new j)) (length old.targets) h.targets.long
            (λ j p. h.targets.each j p ∙ ap (λ (s : Shapes). target_bits s (design.target old j)) (sym same) ∙ ap (target_bits (shapes new)) (sym (put.stays.target_trees j p)))
            (e ∙ ap (λ (s : Shapes). target_bits s (node_target (design.term old) (design.target old) x)) (sym same) ∙ ap (target_bits (shapes new)) (sym last))
            k (omega (arith, longer));
      };
    }

pub sizes_stmt : (old new : Design) (x : Stmt) (id : ℕ) (hs : List Shape) (bs : List ℕ) → HasSizes old hs bs → StmtPut old new x id → HasSizes new hs bs
sizes_stmt old new x id hs bs h put =
    let same : shapes new ≡ shapes old = ap shapes put.is ∙ stmt_shapes old x in
    record {
      exprs = exprs_stay old new hs same put.stays (ap (λ (d : Design). length d.exprs) put.is) h.exprs;
      targets = targets_stay old new bs same put.stays (ap (λ (d : Design). length d.targets) put.is) h.targets;
    }

-- ---- a signal or a memory more

sizes_stay : (old new : Design) (hs : List Shape) (bs : List ℕ) → PartsStay old new → length new.exprs ≡ length old.exprs → length new.targets ≡ length old.targets → HasSizes old hs bs → HasSizes new hs bs
sizes_stay old new hs bs parts n m h = record {
  exprs = record { long = h.exprs.long ∙ sym n; each = λ k l. let p : k < length old.exprs = omega (arith, n) in h.exprs.each k p ∙ sym (parts.expr_shapes k p) };
  targets = record { long = h.targets.long ∙ sym m; each = λ k l. let p : k < length old.targets = omega (arith, m) in h.targets.each k p ∙ sym (parts.target_bits k p) };
}

pub sizes_signal : (old new : Design) (x : Signal) (id : ℕ) (hs : List Shape) (bs : List ℕ) → HasSizes old hs bs → SignalPut old new x id → HasSizes new hs bs
sizes_signal old new x id hs bs h put = sizes_stay old new hs bs put.parts (ap (λ (d : Design). length d.exprs) put.is) (ap (λ (d : Design). length d.targets) put.is) h

pub sizes_memory : (old new : Design) (x : Memory) (id : ℕ) (hs : List Shape) (bs : List ℕ) → HasSizes old hs bs → MemoryPut old new x id → HasSizes new hs bs
sizes_memory old new x id hs bs h put = sizes_stay old new hs bs put.parts (ap (λ (d : Design). length d.exprs) put.is) (ap (λ (d : Design). length d.targets) put.is) h
