-- Shapes and faults of nodes from those of their trees' parts.
use Rattle.std.proofs.Common.{◌≡◌, ℕ, zero, suc, ◌+◌, ◌<◌, false, List, [], ◌∷◌, ◌++◌, length, map, refl, sym, ap, subst, ◌∙◌, arith, length-append}
use Rattle.std.specs.Prelude.{Some, None, slice_get, slice_index_or, IsTrue}
use Rattle.std.proofs.lemmas.Option.{slice_get_within}
use Rattle.lx_num.specs.declared.Shape.{Shape}
use Rattle.lx_num.specs.Ints.{shape}
use Rattle.lx_arena.proofs.Places.{lower_at}
use Rattle.lx_circuit.specs.Circuit.{nothing}
use Rattle.lx_circuit.specs.Shapes.{Shapes, shape_of, shapes_of, fault_of, faults_of, unary_shape}
use Rattle.lx_circuit.specs.Terms.{Term}
use Rattle.lx_fhdl.specs.Below.{ExprId, expr_below}
use Rattle.lx_fhdl.specs.Designs.{circuit_of, made_of, shapes}
use Rattle.lx_fhdl.specs.Drafts.{DraftKeeps}
use Rattle.lx_fhdl.specs.Keeping.{NamesThere}
use Rattle.lx_fhdl.specs.Nodes.{EachPlace, EachChild, shape_at, shapes_at, node_shape, node_fault}
use Rattle.lx_fhdl.specs.Trees.{terms_at, node_term, term_at}
use Rattle.lx_fhdl.specs.declared.design.Design.{Design}
use Rattle.lx_fhdl.specs.declared.design.Memory.{Memory}
use Rattle.lx_fhdl.specs.declared.design.Signal.{Signal}
use Rattle.lx_fhdl.specs.declared.exprs.Expr.{Expr}
use Rattle.lx_fhdl.specs.declared.exprs.Expr.TheVariants.{Const, Sig, Unary, Binary, Mux, Cat, Pick, Replicate, Slice, Fetch}
use Rattle.lx_fhdl.proofs.Arena.{each_child}
use Rattle.lx_fhdl.proofs.Trees.{term_at-is}
use Rattle.lx_width.specs.Shapes.{AreShapes, IsSoundNode}
use Rattle.lx_width.specs.Width.{NamesBelow, signal_shape}
use Rattle.lx_width.proofs.Ends.{one_more}

-- ---- one node

-- a list of shapes has that of the tree at a place, which has no fault
pub record Known (s : Shapes) (t : ℕ → Term) (hs : List Shape) (k : ℕ) : Type 0 where
  pub shape : shape_of s (t k) ≡ shape_at hs k
  pub sound : fault_of s (t k) ≡ None

parts_shapes : (s : Shapes) (t : ℕ → Term) (hs : List Shape) (is : List ExprId) → EachPlace (Known s t hs) is → shapes_of s (terms_at t is) ≡ shapes_at hs is
parts_shapes s t hs [] h = refl
parts_shapes s t hs (i ∷ is) h = rw (h.0.shape, parts_shapes s t hs is h.1) refl

parts_sound : (s : Shapes) (t : ℕ → Term) (hs : List Shape) (is : List ExprId) → EachPlace (Known s t hs) is → faults_of s (terms_at t is) ≡ None
parts_sound s t hs [] h = refl
parts_sound s t hs (i ∷ is) h = rw (h.0.sound, parts_sound s t hs is h.1) refl

pub shape_is : (s : Shapes) (t : ℕ → Term) (hs : List Shape) (x : Expr) → EachChild (Known s t hs) x → shape_of s (node_term t x) ≡ node_shape s hs x
shape_is s t hs (Const value bits signed) h = refl
shape_is s t hs (Sig x) h = refl
shape_is s t hs (Unary op of) h = ap (unary_shape op) h.shape
shape_is s t hs (Binary op left right) h = rw (h.0.shape, h.1.shape) refl
shape_is s t hs (Mux cond then_ else_) h = rw (h.1.0.shape, h.1.1.shape) refl
shape_is s t hs (Cat parts) h = rw (parts_shapes s t hs parts h) refl
shape_is s t hs (Pick items index) h = rw (parts_shapes s t hs items h.0) refl
shape_is s t hs (Replicate of count) h = rw h.shape refl
shape_is s t hs (Slice of low high) h = refl
shape_is s t hs (Fetch memory width at) h = refl

pub fault_is : (s : Shapes) (t : ℕ → Term) (hs : List Shape) (x : Expr) → EachChild (Known s t hs) x → fault_of s (node_term t x) ≡ node_fault hs x
fault_is s t hs (Const value bits signed) h = refl
fault_is s t hs (Sig x) h = refl
fault_is s t hs (Unary op of) h = rw (h.sound, h.shape) refl
fault_is s t hs (Binary op left right) h = rw (h.0.sound, h.1.sound, h.0.shape, h.1.shape) refl
fault_is s t hs (Mux cond then_ else_) h = rw (h.0.sound, h.1.0.sound, h.1.1.sound, h.1.0.shape, h.1.1.shape) refl
fault_is s t hs (Cat parts) h = rw (parts_sound s t hs parts h, parts_shapes s t hs parts h) refl
fault_is s t hs (Pick items index) h = rw (parts_sound s t hs items h.0, h.1.sound, parts_shapes s t hs items h.0, h.1.shape) refl
fault_is s t hs (Replicate of count) h = rw (h.sound, h.shape) refl
fault_is s t hs (Slice of low high) h = rw (h.sound, h.shape) refl
fault_is s t hs (Fetch memory width at) h = rw h.sound refl

-- the shapes of signals
signal_same : (xs : List Signal) (k : ℕ) → (slice_index_or (map made_of xs) k nothing).shape ≡ signal_shape xs k
signal_same [] k = refl
signal_same (x ∷ xs) zero = refl
signal_same (x ∷ xs) (suc k) = signal_same xs k

pub signal_is : (d : Design) (k : ℕ) → shapes d k ≡ signal_shape d.signals k
unfolding circuit_of
signal_is d k = signal_same d.signals k

by_signals : (s r : Shapes) (hs : List Shape) (x : Expr) → ((k : ℕ) → s k ≡ r k) → node_shape s hs x ≡ node_shape r hs x
by_signals s r hs (Const value bits signed) h = refl
by_signals s r hs (Sig x) h = h x.0
by_signals s r hs (Unary op of) h = refl
by_signals s r hs (Binary op left right) h = refl
by_signals s r hs (Mux cond then_ else_) h = refl
by_signals s r hs (Cat parts) h = refl
by_signals s r hs (Pick items index) h = refl
by_signals s r hs (Replicate of count) h = refl
by_signals s r hs (Slice of low high) h = refl
by_signals s r hs (Fetch memory width at) h = refl

-- the shape of a node of a design, from those of its signals
pub made_shape : (d : Design) (t : ℕ → Term) (hs : List Shape) (x : Expr) → EachChild (Known (shapes d) t hs) x → node_shape (signal_shape d.signals) hs x ≡ shape_of (shapes d) (node_term t x)
made_shape d t hs x h = sym (by_signals (shapes d) (signal_shape d.signals) hs x (signal_is d)) ∙ sym (shape_is (shapes d) t hs x h)

-- ---- all nodes

-- the shapes of the first n trees
pub record ShapesTo (d : Design) (n : ℕ) (hs : List Shape) : Type 0 where
  pub long : length hs ≡ n
  pub each : (k : ℕ) → k < n → shape_at hs k ≡ shape_of (shapes d) (term_at d.exprs k)

pub shapes_none : (d : Design) → ShapesTo d 0 []
shapes_none d = record { long = refl; each = λ k h. absurd (omega arith) }

-- the children of the node after them
pub children : (d : Design) (n : ℕ) (hs : List Shape) (x : Expr) → DraftKeeps d → ((k : ℕ) → k < n → shape_at hs k ≡ shape_of (shapes d) (term_at d.exprs k)) → slice_get d.exprs n ≡ Some x
    → EachChild (Known (shapes d) (term_at d.exprs) hs) x
children d n hs x keep each e =
    let l = slice_get_within d.exprs n x e in
    each_child (Known (shapes d) (term_at d.exprs) hs) n x (λ k i. record { shape = sym (each k i); sound = keep.arenas.shaped k (omega arith) }) (lower_at expr_below d.exprs keep.arenas.exprs_lower n x e)

-- a node of a design has no fault
pub node_sound : (d : Design) (n : ℕ) (hs : List Shape) (x : Expr) → DraftKeeps d → EachChild (Known (shapes d) (term_at d.exprs) hs) x → slice_get d.exprs n ≡ Some x → node_fault hs x ≡ None
node_sound d n hs x keep known e =
    sym (fault_is (shapes d) (term_at d.exprs) hs x known)
    ∙ ap (fault_of (shapes d)) (sym (term_at-is d.exprs keep.arenas.exprs_lower n x e))
    ∙ keep.arenas.shaped n (slice_get_within d.exprs n x e)

names_below : (n : ℕ) (ms : List Memory) (x : Expr) → NamesThere n ms x → NamesBelow n x
names_below n ms (Sig x) h = h
names_below n ms _ h = tt

pub next_sound : (d : Design) (n : ℕ) (hs : List Shape) (x : Expr) → DraftKeeps d → ShapesTo d n hs → slice_get d.exprs n ≡ Some x → IsSoundNode d.signals hs x
next_sound d n hs x keep h e = record {
  below = subst (λ (m : ℕ). IsTrue (expr_below x m)) (sym h.long) (search (lower_at expr_below d.exprs keep.arenas.exprs_lower n x e));
  named = names_below (length d.signals) d.memories x (keep.arenas.named n x e);
  parts = keep.arenas.parts n x e;
  sound = node_sound d n hs x keep (children d n hs x keep h.each e) e;
}

next_shape : (d : Design) (n : ℕ) (hs : List Shape) (x : Expr) → DraftKeeps d → ShapesTo d n hs → slice_get d.exprs n ≡ Some x → node_shape (signal_shape d.signals) hs x ≡ shape_of (shapes d) (term_at d.exprs n)
next_shape d n hs x keep h e =
    made_shape d (term_at d.exprs) hs x (children d n hs x keep h.each e)
    ∙ ap (shape_of (shapes d)) (sym (term_at-is d.exprs keep.arenas.exprs_lower n x e))

pub shapes_more : (d : Design) (n : ℕ) (hs : List Shape) (x : Expr) (a : Shape) → DraftKeeps d → ShapesTo d n hs → slice_get d.exprs n ≡ Some x
    → a ≡ node_shape (signal_shape d.signals) hs x → ShapesTo d (n + 1) (hs ++ a ∷ [])
shapes_more d n hs x a keep h e f = record {
  long = omega (arith, length-append hs (a ∷ []), h.long);
  each = one_more hs a (shape 0 false) (λ k. shape_of (shapes d) (term_at d.exprs k)) n h.long h.each (f ∙ next_shape d n hs x keep h e);
}

pub all_shapes : (d : Design) (n : ℕ) (hs : List Shape) → n ≡ length d.exprs → ShapesTo d n hs → AreShapes d hs
all_shapes d n hs e h = record { long = h.long ∙ e; each = λ k l. h.each k (omega arith) }
