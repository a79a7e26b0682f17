-- Nodes that lowering of ports adds to a design.
use Rattle.std.proofs.Common.{◌≡◌, ℕ, zero, suc, ℤ, ◌++◌, ◌<◌, Bool, true, false, List, [], ◌∷◌, length, length-append, refl, sym, ap, subst, ◌∙◌, arith, nat_lt}
use Rattle.std.specs.Prelude.{Option, Some, None, IsSomeAnd, map, slice_get, slice_index_or}
use Rattle.std.proofs.lemmas.Bool.{and_from, lt-ltb, ltb-false, ltb-true}
use Rattle.std.proofs.lemmas.Option.{slice_get_within}
use Rattle.lx_num.specs.Ints.{unsigned}
use Rattle.lx_circuit.specs.Circuit.{no_memory}
use Rattle.lx_circuit.specs.Memories as memory
use Rattle.lx_circuit.specs.Statements as tree
use Rattle.lx_circuit.proofs.Cases.{by_test}
use Rattle.lx_circuit.specs.declared.WidthFault.{WidthFault}
use Rattle.lx_circuit.specs.Shapes.{binary_fault, constant_fault, fault_of, or_else, shape_of}
use Rattle.lx_circuit.specs.Terms.{Binary, Constant, Signal, Term}
use Rattle.lx_tables.specs.declared.operators.Op.TheVariants as op
use Rattle.lx_fhdl.specs.Below.{ExprId, TargetId}
use Rattle.lx_fhdl.specs.Designs.{circuit_of, memory_at, memory_of, shapes, term}
use Rattle.lx_fhdl.specs.Drafts.{CanAddExpr, CanAddStmt, CanAddTarget, DraftKeeps, ExprPut, IsDraft, IsDraftPort, Stays, domains_to}
use Rattle.lx_fhdl.specs.Drafts as drafts
use Rattle.lx_fhdl.specs.Keeping.{EachOf, HasDomain, IsMemory, IsPort, Keeps, is_clocked}
use Rattle.lx_fhdl.specs.declared.design.Port.{Port}
use Rattle.lx_fhdl.specs.Nodes.{IsSmall}
use Rattle.lx_fhdl.specs.Trees.{node_term}
use Rattle.lx_fhdl.specs.declared.design.Design.{Design}
use Rattle.lx_fhdl.specs.declared.exprs.Expr.{Expr}
use Rattle.lx_fhdl.specs.declared.exprs.Expr.TheVariants as expr
use Rattle.lx_fhdl.specs.declared.exprs.SigId.{SigId}
use Rattle.lx_fhdl.specs.declared.design.Memory.{Memory}
use Rattle.lx_fhdl.specs.declared.stmts.Stmt.{Stmt}
use Rattle.lx_fhdl.specs.declared.stmts.Stmt.TheVariants as stmt
use Rattle.lx_fhdl.specs.declared.stmts.Target.{Target}
use Rattle.lx_fhdl.specs.declared.stmts.Target.TheVariants as target
use Rattle.lx_fhdl.proofs.Drafts.{draft_small, stays_then}
use Rattle.lx_memory.specs.Lowers.{line_of}
use Rattle.lx_num.specs.declared.Shape.{Shape}
use Rattle.lx_lowering.proofs.Picks.{compared, small_constant}
use Rattle.lx_memory.specs.Puts.{AreGenerated, Grows, HasTerm, StmtPut, TermPut}

-- ---- growth

pub none_past : (ss : List Stmt) → AreGenerated (length ss) ss
none_past ss k x l e = let within = slice_get_within ss k x e in absurd (omega arith)

-- a statement of generated hardware comes last
one_past : (ss : List Stmt) (x : Stmt) → line_of x ≡ 0 → AreGenerated (length ss) (ss ++ x ∷ [])
one_past [] x h zero y l e = let same : x ≡ y = cc in ap line_of (sym same) ∙ h
one_past [] x h (suc k) y l e = absurd (cc)
one_past (s ∷ ss) x h zero y l e = absurd (omega arith)
one_past (s ∷ ss) x h (suc k) y l e = one_past ss x h k y (omega arith) e

pub lines_then : (x y z : Design) → Stays y z → AreGenerated (length x.stmts) y.stmts → AreGenerated (length y.stmts) z.stmts → AreGenerated (length x.stmts) z.stmts
lines_then x y z stays g h k s l e =
    by_test (nat_lt k (length y.stmts))
    (λ t. g k s l (sym (stays.stmt_nodes k (ltb-true k (length y.stmts) t)) ∙ e))
    (λ t. h k s (ltb-false k (length y.stmts) t) e)

pub grows_then : {x y z : Design} → Grows x y → Grows y z → Grows x z
grows_then {x} {y} {z} g h = record {
  is = h.is ∙ ap (λ (d : Design). record d { exprs = z.exprs; targets = z.targets; stmts = z.stmts }) g.is;
  stays = stays_then x y z g.stays h.stays;
  lines = lines_then x y z h.stays g.lines h.lines;
}

pub same_shapes : {x y : Design} → Grows x y → (k : ℕ) → shapes y k ≡ shapes x k
unfolding circuit_of
same_shapes {x} {y} g k = ap (λ (d : Design). shapes d k) g.is

pub term_kept : {x y : Design} {k : ℕ} {t : Term} → Grows x y → HasTerm x k t → HasTerm y k t
term_kept {x} {y} {k} {t} g h = record { there = omega (arith, h.there, g.stays.exprs); tree = g.stays.terms k h.there ∙ h.tree }

pub target_grows : (old new : Design) (x : Target) (id : ℕ) → drafts.TargetPut old new x id → Grows old new
target_grows old new x id p = record {
  is = p.is ∙ sym (ap (λ (d : Design). record old { exprs = d.exprs; targets = d.targets; stmts = d.stmts }) p.is);
  stays = p.stays;
  lines = subst (λ (d : Design). AreGenerated (length old.stmts) d.stmts) (sym p.is) (none_past old.stmts);
}

pub stmt_grows : (old new : Design) (x : Stmt) (id : ℕ) → line_of x ≡ 0 → drafts.StmtPut old new x id → Grows old new
stmt_grows old new x id h p = record {
  is = p.is ∙ sym (ap (λ (d : Design). record old { exprs = d.exprs; targets = d.targets; stmts = d.stmts }) p.is);
  stays = p.stays;
  lines = subst (λ (d : Design). AreGenerated (length old.stmts) d.stmts) (sym p.is) (one_past old.stmts x h);
}

stmt_there : (old new : Design) (x : Stmt) (id : ℕ) → drafts.StmtPut old new x id → id < length new.stmts
stmt_there old new x id p = omega (arith, p.place, ap (λ (d : Design). length d.stmts) p.is, length-append old.stmts (x ∷ []))

pub term_put : (old new : Design) (x : Expr) (id : ℕ) → ExprPut old new x id → TermPut old new id (node_term (term old) x)
term_put old new x id p = record {
  grows = record {
    is = p.is ∙ sym (ap (λ (d : Design). record old { exprs = d.exprs; targets = d.targets; stmts = d.stmts }) p.is);
    stays = p.stays;
    lines = subst (λ (d : Design). AreGenerated (length old.stmts) d.stmts) (sym p.is) (none_past old.stmts);
  };
  has = record { there = omega (arith, p.place, ap (λ (d : Design). length d.exprs) p.is, length-append old.exprs (x ∷ [])); tree = p.tree };
}

-- ---- what can be added

pub can_signal : (d : Design) (x : SigId) → x.0 < length d.signals → CanAddExpr d (expr.Sig x)
can_signal d x l = record { below = refl; shaped = refl; operands = tt; parts = tt; named = l; index = tt }

pub can_number : (d : Design) (a : Shape) (z : ℤ) → IsSmall a → CanAddExpr d (expr.Const z a.bits a.signed)
can_number d a z h = record { below = refl; shaped = small_constant a h; operands = tt; parts = tt; named = tt; index = tt }

-- a test of a signal against a number of its shape
pub can_less : (d : Design) (left right : ExprId) (x : ℕ) (z : ℤ) → DraftKeeps d → HasTerm d left.place (Signal x) → HasTerm d right.place (Constant z (shapes d x)) → CanAddExpr d (expr.Binary op.Lt left right)
can_less d left right x z keep h g =
    let s = shapes d in
    let own : Option WidthFault = binary_fault op.Lt (shape_of s (term d left.place)) (shape_of s (term d right.place)) in
    record {
      below = search (and_from (nat_lt left.place (length d.exprs)) (nat_lt right.place (length d.exprs)) (lt-ltb left.place (length d.exprs) h.there) (lt-ltb right.place (length d.exprs) g.there));
      shaped =
          ap (λ o. or_else o (or_else (fault_of s (term d right.place)) own)) (keep.arenas.shaped left.place h.there)
          ∙ ap (λ o. or_else o own) (keep.arenas.shaped right.place g.there)
          ∙ ap (λ (t : Term). binary_fault op.Lt (shape_of s t) (shape_of s (term d right.place))) h.tree
          ∙ ap (λ (t : Term). binary_fault op.Lt (s x) (shape_of s t)) g.tree
          ∙ compared (s x) (draft_small d keep x);
      operands = refl;
      parts = tt;
      named = tt;
      index = tt;
    }

pub can_equal : (d : Design) (left right : ExprId) (x : ℕ) (z : ℤ) → DraftKeeps d → HasTerm d left.place (Signal x) → HasTerm d right.place (Constant z (shapes d x)) → CanAddExpr d (expr.Binary op.Eq left right)
can_equal d left right x z keep h g =
    let s = shapes d in
    let own : Option WidthFault = binary_fault op.Eq (shape_of s (term d left.place)) (shape_of s (term d right.place)) in
    record {
      below = search (and_from (nat_lt left.place (length d.exprs)) (nat_lt right.place (length d.exprs)) (lt-ltb left.place (length d.exprs) h.there) (lt-ltb right.place (length d.exprs) g.there));
      shaped =
          ap (λ o. or_else o (or_else (fault_of s (term d right.place)) own)) (keep.arenas.shaped left.place h.there)
          ∙ ap (λ o. or_else o own) (keep.arenas.shaped right.place g.there)
          ∙ ap (λ (t : Term). binary_fault op.Eq (shape_of s t) (shape_of s (term d right.place))) h.tree
          ∙ ap (λ (t : Term). binary_fault op.Eq (s x) (shape_of s t)) g.tree
          ∙ compared (s x) (draft_small d keep x);
      operands = refl;
      parts = tt;
      named = tt;
      index = tt;
    }

pub can_whole : (d : Design) (x : SigId) → DraftKeeps d → x.0 < length d.signals → CanAddTarget d (target.Whole x)
can_whole d x keep l = record { below = refl; stands = l; bits = (draft_small d keep x.0).most }

-- ---- words of memories

abbrev FoundMemory : Design → ℕ → Type 0
FoundMemory d m = (y : Memory) × ((slice_get d.memories m ≡ Some y) × (IsMemory y × (memory_at d m ≡ memory_of y)))

found_among : (ms : List Memory) (m : ℕ) → m < length ms → EachOf IsMemory ms → (y : Memory) × ((slice_get ms m ≡ Some y) × (IsMemory y × (slice_index_or (map memory_of ms) m no_memory ≡ memory_of y)))
found_among [] m l h = absurd (omega arith)
found_among (y ∷ ys) zero l h = (y, (refl, (h.0, refl)))
found_among (y ∷ ys) (suc m) l h = found_among ys m (omega arith) h.1

pub found_memory : (d : Design) (m : ℕ) → m < length d.memories → DraftKeeps d → FoundMemory d m
unfolding circuit_of
found_memory d m l keep = found_among d.memories m l keep.memories

pub word_small : (d : Design) (m : ℕ) → m < length d.memories → DraftKeeps d → IsSmall (unsigned (memory_at d m).width)
word_small d m l keep =
    let f = found_memory d m l keep in
    subst (λ (y : memory.Memory). IsSmall (unsigned y.width)) (sym f.1.1.1) (record { some = f.1.1.0.width_some; most = omega (arith, f.1.1.0.width_most) })

some_and : {T : Type 0} (P : T → Type 0) (o : Option T) (y : T) → o ≡ Some y → P y → IsSomeAnd o P
some_and {T} P o y e p = subst (λ (q : Option T). IsSomeAnd q P) (sym e) p

-- a read of a word at an unsigned expression
pub can_fetch : (d : Design) (m w : ℕ) (at : ExprId) → DraftKeeps d → m < length d.memories → at.place < length d.exprs → (shape_of (shapes d) (term d at.place)).signed ≡ false → w ≡ (memory_at d m).width
    → CanAddExpr d (expr.Fetch m w at)
can_fetch d m w at keep l there plain e =
    let f = found_memory d m l keep in
    let own : w ≡ f.0.width = e ∙ ap (λ (y : memory.Memory). y.width) f.1.1.1 in
    record {
      below = search (lt-ltb at.place (length d.exprs) there);
      shaped = ap (λ o. or_else o (constant_fault (unsigned w))) (keep.arenas.shaped at.place there) ∙ small_constant (unsigned w) (subst (λ (k : ℕ). IsSmall (unsigned k)) (sym e) (word_small d m l keep));
      operands = tt;
      parts = tt;
      named = some_and (λ (y : Memory). w ≡ y.width) (slice_get d.memories m) f.0 f.1.0 own;
      index = plain;
    }

-- ---- statements

pub assign_put : (x y z : Design) (t : TargetId) (s : SigId) (value : ExprId) (id : ℕ) → drafts.TargetPut x y (target.Whole s) t.place → drafts.StmtPut y z (stmt.Assign t value 0) id → value.place < length x.exprs
    → StmtPut x z id (tree.Assign (tree.Whole s.0) (term x value.place))
assign_put x y z t s value id p q l = record {
  grows = grows_then (target_grows x y (target.Whole s) t.place p) (stmt_grows y z (stmt.Assign t value 0) id refl q);
  has = record {
    there = stmt_there y z (stmt.Assign t value 0) id q;
    tree = q.tree ∙ ap (λ (w : tree.Target). tree.Assign w (term y value.place)) p.tree ∙ ap (tree.Assign (tree.Whole s.0)) (p.stays.terms value.place l);
  };
  past = omega (arith, q.place, p.stays.stmts);
}

-- ---- a design is a draft

own_domain : (n : ℕ) (t : Bool) (o : Option ℕ) → HasDomain n t o → HasDomain (domains_to o) t o
own_domain n true None h = h
own_domain n true (Some k) h = omega arith
own_domain n false o h = h

pub draft_ports : (d : Design) (qs : List Port) → EachOf (IsPort d) qs → EachOf (IsDraftPort d) qs
draft_ports d [] h = tt
draft_ports d (q ∷ qs) h = (
  record {
    memory = h.0.memory;
    domain = own_domain (length d.domains) (is_clocked q.mode q.we) q.domain h.0.domain;
    adr = h.0.adr;
    dat_r = h.0.dat_r;
    writer = h.0.writer;
    part_some = h.0.part_some;
    parts = h.0.parts;
  },
  draft_ports d qs h.1,
)

pub is_draft : (d : Design) → Keeps d → IsDraft d
is_draft d h = record { keeps = record { arenas = h.arenas; signals = h.signals; memories = h.memories }; ports = draft_ports d d.ports h.ports }

-- ---- tests

-- a number of the signal's shape, added after the signal
pub below_put : (x y z : Design) (s : ℕ) (a : Shape) (n m : ℤ) (left right id : ExprId) → a ≡ shapes x s → n ≡ m → HasTerm x left.place (Signal s) → TermPut x y right.place (Constant n a)
    → ExprPut y z (expr.Binary op.Lt left right) id.place → TermPut x z id.place (Binary op.Lt (Signal s) (Constant m (shapes x s)))
below_put x y z s a n m left right id e f h p q =
    let put = term_put y z (expr.Binary op.Lt left right) id.place q in
    let number : Constant n a ≡ Constant m (shapes x s) = ap (λ (b : Shape). Constant n b) e ∙ ap (λ (k : ℤ). Constant k (shapes x s)) f in
    record {
      grows = grows_then p.grows put.grows;
      has = record {
        there = put.has.there;
        tree = put.has.tree ∙ (ap (λ (t : Term). Binary op.Lt t (term y right.place)) (term_kept p.grows h).tree ∙ (ap (λ (t : Term). Binary op.Lt (Signal s) t) p.has.tree ∙ ap (λ (t : Term). Binary op.Lt (Signal s) t) number));
      };
    }

-- the number stands with the shape that the signal has now
pub number_kept : (x y : Design) (s : ℕ) (a : Shape) (n : ℤ) (right : ExprId) → a ≡ shapes x s → TermPut x y right.place (Constant n a) → HasTerm y right.place (Constant n (shapes y s))
number_kept x y s a n right e p = subst (λ (b : Shape). HasTerm y right.place (Constant n b)) (e ∙ sym (same_shapes p.grows s)) p.has
