-- The texts of nodes.
use Rattle.std.proofs.Common.{◌≡◌, ℕ, ◌<◌, ◌≤◌, Bool, true, false, ◌⊎◌, inl, inr, List, [], ◌∷◌, length, refl, sym, ap, ◌∙◌, arith, ltb-true, lt-ltb}
use Rattle.std.specs.Prelude.{ℤ, Option, Some, None, slice_get, IsTrue, IsSomeAnd}
use Rattle.lx_vtree.proofs.Exprs.{both}
use Rattle.lx_fhdl.specs.Below.{ExprId, all_below, expr_below}
use Rattle.lx_fhdl.specs.Lowered.{is_no_pick}
use Rattle.lx_fhdl.specs.declared.exprs.SigId.{SigId}
use Rattle.lx_fhdl.specs.declared.exprs.Expr.{Expr}
use Rattle.lx_fhdl.specs.declared.exprs.Expr.TheVariants.{Const, Sig, Unary, Binary, Mux, Cat, Pick, Replicate, Slice, Fetch}
use Rattle.lx_emission.specs.Naming.{has_net}
use Rattle.lx_emission.specs.Nodes.{node_shape, node_text_of, node_text, unary_text, binary_text, choice_text, cat_text, slice_text}
use Rattle.lx_fhdl.specs.declared.design.Memory.{Memory}
use Rattle.lx_fhdl.specs.declared.design.Design.{Design}
use Rattle.lx_fhdl.specs.Keeping.{Keeps}
use Rattle.lx_sheet.specs.Plans.{Plan, memory_in, operand_in}
use Rattle.lx_nets.specs.Plans.{node_in}
use Rattle.lx_nets.specs.Texts.{unary_in, binary_in, choice_in}
use Rattle.lx_sheet.specs.Operands.{IsReading, tree_of}
use Rattle.lx_sheet.specs.declared.operands.Reading.{Reading}
use Rattle.lx_num.specs.declared.Shape.{Shape}
use Rattle.lx_tables.specs.Operators.{mix_of, row_of}
use Rattle.lx_tables.specs.declared.operators.Op.{Op}
use Rattle.lx_tables.specs.declared.operators.Op.TheVariants as op
use Rattle.lx_vtext.specs.Tree as tree
use Rattle.lx_vtext.specs.Tree.{Name}
use Rattle.std.proofs.lemmas.Option.{slice_get_within}

-- what a node with a net is written as
abbrev text_of : Plan → Expr → tree.VExpr
text_of p x = node_text_of (memory_in p) (node_shape p.design) (operand_in p) (Some x)

text_is : (p : Plan) (k : ℕ) (x y : Expr) → slice_get p.design.exprs k ≡ Some x → x ≡ y → text_of p y ≡ node_in p k
unfolding node_text
text_is p k x y e f = sym (ap (node_text_of (memory_in p) (node_shape p.design) (operand_in p)) e ∙ ap (text_of p) f)

-- ---- nodes, by what is read of their operands

pub item_in : (p q : Plan) (k : ℕ) (x : Expr) → p ≡ q → slice_get p.design.exprs k ≡ Some x → slice_get q.design.exprs k ≡ Some x
item_in p q k x same e = ap (λ (r : Plan). slice_get r.design.exprs k) (sym same) ∙ e

pub unary_is : (p : Plan) (k : ℕ) (x : Expr) (f : Op) (of : ExprId) (a : Reading) → slice_get p.design.exprs k ≡ Some x → x ≡ Unary f of → IsReading p of.place a → unary_in f a ≡ node_in p k
unary_is p k x f of a e g h =
    ap (λ (s : Shape). unary_text (row_of f (mix_of s.signed s.signed)) (tree_of a.operand)) h.shape
    ∙ ap (unary_text (row_of f (mix_of (node_shape p.design of.place).signed (node_shape p.design of.place).signed))) h.text
    ∙ text_is p k x (Unary f of) e g

pub binary_is : (p : Plan) (k : ℕ) (x : Expr) (f : Op) (left right : ExprId) (a b : Reading) → slice_get p.design.exprs k ≡ Some x → x ≡ Binary f left right → IsReading p left.place a → IsReading p right.place b
    → binary_in f a b ≡ node_in p k
binary_is p k x f left right a b e g h i =
    ap (λ (s : Shape). binary_text (row_of f (mix_of s.signed b.shape.signed)) (tree_of a.operand) (tree_of b.operand)) h.shape
    ∙ ap (λ (s : Shape). binary_text (row_of f (mix_of (node_shape p.design left.place).signed s.signed)) (tree_of a.operand) (tree_of b.operand)) i.shape
    ∙ ap (λ (t : tree.VExpr). binary_text (row_of f (mix_of (node_shape p.design left.place).signed (node_shape p.design right.place).signed)) t (tree_of b.operand)) h.text
    ∙ ap (binary_text (row_of f (mix_of (node_shape p.design left.place).signed (node_shape p.design right.place).signed)) (operand_in p left.place)) i.text
    ∙ text_is p k x (Binary f left right) e g

pub choice_is : (p : Plan) (k : ℕ) (x : Expr) (cond so other : ExprId) (c a b : Reading) → slice_get p.design.exprs k ≡ Some x → x ≡ Mux cond so other → IsReading p cond.place c → IsReading p so.place a → IsReading p other.place b
    → choice_in c.operand a b ≡ node_in p k
choice_is p k x cond so other c a b e g l h i =
    ap (λ (s : Shape). choice_text (row_of op.Mux (mix_of s.signed b.shape.signed)) (tree_of c.operand) (tree_of a.operand) (tree_of b.operand)) h.shape
    ∙ ap (λ (s : Shape). choice_text (row_of op.Mux (mix_of (node_shape p.design so.place).signed s.signed)) (tree_of c.operand) (tree_of a.operand) (tree_of b.operand)) i.shape
    ∙ ap (λ (t : tree.VExpr). choice_text (row_of op.Mux (mix_of (node_shape p.design so.place).signed (node_shape p.design other.place).signed)) t (tree_of a.operand) (tree_of b.operand)) l.text
    ∙ ap (λ (t : tree.VExpr). choice_text (row_of op.Mux (mix_of (node_shape p.design so.place).signed (node_shape p.design other.place).signed)) (operand_in p cond.place) t (tree_of b.operand)) h.text
    ∙ ap (choice_text (row_of op.Mux (mix_of (node_shape p.design so.place).signed (node_shape p.design other.place).signed)) (operand_in p cond.place) (operand_in p so.place)) i.text
    ∙ text_is p k x (Mux cond so other) e g

pub cat_is : (p : Plan) (k : ℕ) (x : Expr) (parts : List ExprId) → slice_get p.design.exprs k ≡ Some x → x ≡ Cat parts → cat_text (operand_in p) parts ≡ node_in p k
cat_is p k x parts e g = text_is p k x (Cat parts) e g

pub copies_is : (p : Plan) (k : ℕ) (x : Expr) (of : ExprId) (count : ℕ) (a : Reading) → slice_get p.design.exprs k ≡ Some x → x ≡ Replicate of count → IsReading p of.place a → tree.Replication count (tree_of a.operand) ≡ node_in p k
copies_is p k x of count a e g h = ap (tree.Replication count) h.text ∙ text_is p k x (Replicate of count) e g

pub slice_is : (p : Plan) (k : ℕ) (x : Expr) (of : ExprId) (low high : ℕ) (a : Reading) → slice_get p.design.exprs k ≡ Some x → x ≡ Slice of low high → IsReading p of.place a → slice_text (tree_of a.operand) a.shape.bits low high ≡ node_in p k
slice_is p k x of low high a e g h =
    ap (λ (t : tree.VExpr). slice_text t a.shape.bits low high) h.text
    ∙ ap (λ (s : Shape). slice_text (operand_in p of.place) s.bits low high) h.shape
    ∙ text_is p k x (Slice of low high) e g

pub word_is : (p : Plan) (k : ℕ) (x : Expr) (memory width : ℕ) (at : ExprId) (n : Name) (a : Reading) → slice_get p.design.exprs k ≡ Some x → x ≡ Fetch memory width at → n ≡ memory_in p memory → IsReading p at.place a
    → tree.Word n (tree_of a.operand) ≡ node_in p k
word_is p k x memory width at n a e g f h =
    ap (λ (m : Name). tree.Word m (tree_of a.operand)) f
    ∙ ap (tree.Word (memory_in p memory)) h.text
    ∙ text_is p k x (Fetch memory width at) e g

-- the memory that a node reads
pub memory_there : (d : Design) (k : ℕ) (x : Expr) (memory width : ℕ) (at : ExprId) → Keeps d → slice_get d.exprs k ≡ Some x → x ≡ Fetch memory width at → memory < length d.memories
memory_there d k x memory width at keeps e f = some_there d.memories memory width (keeps.arenas.named k (Fetch memory width at) (e ∙ ap (λ (y : Expr). Some y) f))
  where
    by_answer : (ms : List Memory) (m : ℕ) (o : Option Memory) → slice_get ms m ≡ o → IsSomeAnd o (λ (y : Memory). width ≡ y.width) → m < length ms
    by_answer ms m None e h = absurd h
    by_answer ms m (Some y) e h = slice_get_within ms m y e

    some_there : (ms : List Memory) (m n : ℕ) → IsSomeAnd (slice_get ms m) (λ (y : Memory). width ≡ y.width) → m < length ms
    some_there ms m n h = by_answer ms m (slice_get ms m) refl h

-- what is no operator, or picks an item
abbrev pub IsOther : Expr → Type 0
IsOther x =
    ((value : ℤ) × (bits : ℕ) × (signed : Bool) × (x ≡ Const value bits signed))
    ⊎ (((y : SigId) × (x ≡ Sig y)) ⊎ ((items : List ExprId) × (index : ExprId) × (x ≡ Pick items index)))

pub no_other : (x : Expr) → has_net x ≡ true → is_no_pick x ≡ true → IsOther x → ⊥
no_other x h p (inl t) = let e : false ≡ true = ap has_net (sym t.3) ∙ h in absurd (cc)
no_other x h p (inr (inl t)) = let e : false ≡ true = ap has_net (sym t.1) ∙ h in absurd (cc)
no_other x h p (inr (inr t)) = let e : false ≡ true = ap is_no_pick (sym t.2) ∙ p in absurd (cc)

all_wider : (n m : ℕ) (ids : List ExprId) → n ≤ m → all_below n ids ≡ true → all_below m ids ≡ true
all_wider n m [] l h = refl
all_wider n m (i ∷ is) l h =
    let p = both _ _ h in
    let q = ltb-true i.place n p.0 in
    rw (lt-ltb i.place m (omega arith), all_wider n m is l p.1) refl

pub parts_below : (n k : ℕ) (x : Expr) (parts ids : List ExprId) → k < n → IsTrue (expr_below x k) → x ≡ Cat parts → ids ≡ parts → IsTrue (all_below n ids)
parts_below n k x parts ids l h e f = rw f (all_wider k n parts (omega arith) (ap (λ (y : Expr). expr_below y k) (sym e) ∙ h))
