-- A node's shape, fault and value are those of its tree.
use Rattle.std.proofs.Common.{◌≡◌, ℕ, ◌-◌, ◌*◌, ◌<◌, List, [], ◌∷◌, length, refl, sym, ◌∙◌, ap}
use Rattle.std.specs.Prelude.{ℤ, pos, Option, None}
use Rattle.std.proofs.lemmas.Option.{slice_get_within}
use Rattle.lx_num.specs.declared.Shape.{Shape}
use Rattle.lx_num.specs.Ints.{unsigned, wrapped, field_of}
use Rattle.lx_arena.specs.Lower.{EachLower}
use Rattle.lx_arena.proofs.Places.{by_places, lower_at}
use Rattle.lx_circuit.specs.declared.WidthFault.{WidthFault}
use Rattle.lx_circuit.specs.Terms.{Term}
use Rattle.lx_circuit.specs.Shapes.{Shapes, shape_of, shapes_of, fault_of, faults_of, or_else, joined, pick_shape, bits_sum, unary_shape, binary_shape, too_wide, binary_fault, replicate_fault, slice_fault, pick_fault}
use Rattle.lx_circuit.specs.Places.{Values, Word}
use Rattle.lx_circuit.specs.Values.{count_of, value_of, values_of, unary_value, binary_value, mux_value, cat_pattern, pick_value, replicate_value}
use Rattle.lx_fhdl.specs.Below.{ExprId, expr_below}
use Rattle.lx_fhdl.specs.Nodes.{EachPlace, EachChild, IsShaped, IsValued, shape_at, shapes_at, value_at, values_at, listed, node_shape, node_fault, node_value}
use Rattle.lx_fhdl.specs.Trees.{terms_at, node_term, term_at}
use Rattle.lx_fhdl.specs.Laws.{OfSignal, GivesShapes, MeansTree}
use Rattle.lx_fhdl.specs.declared.exprs.Expr.{Expr}
use Rattle.lx_fhdl.specs.declared.exprs.Expr.TheVariants.{Const, Sig, Unary, Binary, Mux, Cat, Pick, Replicate, Slice, Fetch}
use Rattle.lx_fhdl.proofs.Arena.{each_child}
use Rattle.lx_fhdl.proofs.Trees.{term_at-is}

-- a tree has this shape, no fault, and this value
record IsTree (s : Shapes) (v : Values) (t : Term) (a : Shape) (z : ℤ) : Type 0 where
  shape : shape_of s t ≡ a
  fault : fault_of s t ≡ None
  value : value_of s v t ≡ z

shapes_same : (s : Shapes) (v : Values) (t : ℕ → Term) (hs : List Shape) (known : List ℤ) (is : List ExprId) → EachPlace (λ k. IsTree s v (t k) (shape_at hs k) (value_at known k)) is → shapes_of s (terms_at t is) ≡ shapes_at hs is
shapes_same s v t hs known [] h = refl
shapes_same s v t hs known (i ∷ is) h = ap (λ (a : Shape). a ∷ shapes_of s (terms_at t is)) h.0.shape ∙ ap (λ (as_ : List Shape). shape_at hs i.place ∷ as_) (shapes_same s v t hs known is h.1)

values_same : (s : Shapes) (v : Values) (t : ℕ → Term) (hs : List Shape) (known : List ℤ) (is : List ExprId) → EachPlace (λ k. IsTree s v (t k) (shape_at hs k) (value_at known k)) is → values_of s v (terms_at t is) ≡ values_at known is
values_same s v t hs known [] h = refl
values_same s v t hs known (i ∷ is) h = ap (λ (z : ℤ). z ∷ values_of s v (terms_at t is)) h.0.value ∙ ap (λ (zs : List ℤ). value_at known i.place ∷ zs) (values_same s v t hs known is h.1)

no_faults : (s : Shapes) (v : Values) (t : ℕ → Term) (hs : List Shape) (known : List ℤ) (is : List ExprId) → EachPlace (λ k. IsTree s v (t k) (shape_at hs k) (value_at known k)) is → faults_of s (terms_at t is) ≡ None
no_faults s v t hs known [] h = refl
no_faults s v t hs known (i ∷ is) h = ap (λ (o : Option WidthFault). or_else o (faults_of s (terms_at t is))) h.0.fault ∙ no_faults s v t hs known is h.1

pub after_none : (o p : Option WidthFault) → o ≡ None → p ≡ None → or_else o p ≡ None
after_none o p e f = ap (λ (q : Option WidthFault). or_else q p) e ∙ f

own_shape : (s : Shapes) (own : Shape) (hs : List Shape) (x : Expr) → OfSignal s own x → node_shape (λ _. own) hs x ≡ node_shape s hs x
own_shape s own hs (Const value bits signed) g = refl
own_shape s own hs (Sig x) g = g
own_shape s own hs (Unary op of) g = refl
own_shape s own hs (Binary op left right) g = refl
own_shape s own hs (Mux cond then_ else_) g = refl
own_shape s own hs (Cat parts) g = refl
own_shape s own hs (Pick items index) g = refl
own_shape s own hs (Replicate of count) g = refl
own_shape s own hs (Slice of low high) g = refl
own_shape s own hs (Fetch memory width at) g = refl

node_means : (s : Shapes) (v : Values) (t : ℕ → Term) (hs : List Shape) (known : List ℤ) (x : Expr) → node_fault hs x ≡ None → EachChild (λ k. IsTree s v (t k) (shape_at hs k) (value_at known k)) x → IsTree s v (node_term t x) (node_shape s hs x) (node_value hs v known x)
node_means s v t hs known (Const value bits signed) e h = record { shape = refl; fault = e; value = refl }
node_means s v t hs known (Sig x) e h = record { shape = refl; fault = refl; value = refl }
node_means s v t hs known (Unary op of) e h = record {
  shape = ap (unary_shape op) h.shape;
  fault = after_none (fault_of s (t of.place)) (too_wide (unary_shape op (shape_of s (t of.place))).bits) h.fault (ap (λ (a : Shape). too_wide (unary_shape op a).bits) h.shape ∙ e);
  value = ap (λ (a : Shape). unary_value op a (value_of s v (t of.place))) h.shape ∙ ap (unary_value op (shape_at hs of.place)) h.value;
}
node_means s v t hs known (Binary op left right) e h = record {
  shape = ap (λ (a : Shape). binary_shape op a (shape_of s (t right.place))) h.0.shape ∙ ap (binary_shape op (shape_at hs left.place)) h.1.shape;
  fault = after_none (fault_of s (t left.place)) (or_else (fault_of s (t right.place)) (binary_fault op (shape_of s (t left.place)) (shape_of s (t right.place)))) h.0.fault
      (after_none (fault_of s (t right.place)) (binary_fault op (shape_of s (t left.place)) (shape_of s (t right.place))) h.1.fault
      (ap (λ (a : Shape). binary_fault op a (shape_of s (t right.place))) h.0.shape ∙ ap (binary_fault op (shape_at hs left.place)) h.1.shape ∙ e));
  value = ap (λ (z : ℤ). binary_value op z (value_of s v (t right.place))) h.0.value ∙ ap (binary_value op (value_at known left.place)) h.1.value;
}
node_means s v t hs known (Mux cond then_ else_) e h =
    let both : joined (shape_of s (t then_.place)) (shape_of s (t else_.place)) ≡ joined (shape_at hs then_.place) (shape_at hs else_.place) =
    ap (λ (a : Shape). joined a (shape_of s (t else_.place))) h.1.0.shape ∙ ap (joined (shape_at hs then_.place)) h.1.1.shape in
    record {
      shape = both;
      fault = after_none (fault_of s (t cond.place)) _ h.0.fault (after_none (fault_of s (t then_.place)) _ h.1.0.fault (after_none (fault_of s (t else_.place)) _ h.1.1.fault (ap (λ (a : Shape). too_wide a.bits) both ∙ e)));
      value = ap (λ (z : ℤ). mux_value z (value_of s v (t then_.place)) (value_of s v (t else_.place))) h.0.value
          ∙ ap (λ (z : ℤ). mux_value (value_at known cond.place) z (value_of s v (t else_.place))) h.1.0.value
          ∙ ap (mux_value (value_at known cond.place) (value_at known then_.place)) h.1.1.value;
    }
node_means s v t hs known (Cat parts) e h =
    let p = shapes_same s v t hs known parts h in
    record {
      shape = ap (λ (as_ : List Shape). unsigned (bits_sum as_)) p;
      fault = after_none (faults_of s (terms_at t parts)) _ (no_faults s v t hs known parts h) (ap (λ (as_ : List Shape). too_wide (bits_sum as_)) p ∙ e);
      value = ap (λ (as_ : List Shape). pos (cat_pattern as_ (values_of s v (terms_at t parts)))) p ∙ ap (λ (zs : List ℤ). pos (cat_pattern (shapes_at hs parts) zs)) (values_same s v t hs known parts h);
    }
node_means s v t hs known (Pick items index) e h =
    let p = shapes_same s v t hs known items h.0 in
    record {
      shape = ap pick_shape p;
      fault = after_none (faults_of s (terms_at t items)) _ (no_faults s v t hs known items h.0) (after_none (fault_of s (t index.place)) _ h.1.fault
          (ap (λ (as_ : List Shape). pick_fault as_ (shape_of s (t index.place))) p ∙ ap (pick_fault (shapes_at hs items)) h.1.shape ∙ e));
      value = ap (λ (zs : List ℤ). pick_value zs (value_of s v (t index.place))) (values_same s v t hs known items h.0) ∙ ap (pick_value (values_at known items)) h.1.value;
    }
node_means s v t hs known (Replicate of count) e h = record {
  shape = ap (λ (a : Shape). unsigned (count * a.bits)) h.shape;
  fault = after_none (fault_of s (t of.place)) _ h.fault (ap (λ (a : Shape). replicate_fault a count) h.shape ∙ e);
  value = ap (λ (a : Shape). replicate_value a count (value_of s v (t of.place))) h.shape ∙ ap (replicate_value (shape_at hs of.place) count) h.value;
}
node_means s v t hs known (Slice of low high) e h = record {
  shape = refl;
  fault = after_none (fault_of s (t of.place)) _ h.fault (ap (λ (a : Shape). slice_fault a low high) h.shape ∙ e);
  value = ap (λ (z : ℤ). pos (field_of z low (high - low))) h.value;
}
node_means s v t hs known (Fetch memory width at) e h = record {
  shape = refl;
  fault = after_none (fault_of s (t at.place)) _ h.fault e;
  value = ap (λ (z : ℤ). wrapped (unsigned width) (v (Word memory (count_of z)))) h.value;
}

moved : (s : Shapes) (v : Values) (t u : Term) (a b : Shape) (y z : ℤ) → t ≡ u → b ≡ a → z ≡ y → IsTree s v u a y → IsTree s v t b z
moved s v t u a b y z e f g h = record {
  shape = ap (shape_of s) e ∙ h.shape ∙ sym f;
  fault = ap (fault_of s) e ∙ h.fault;
  value = ap (value_of s v) e ∙ h.value ∙ sym g;
}

pub values_stand : (s : Shapes) (xs : List Expr) (hs : List Shape) (vals known : List ℤ) → EachLower expr_below xs → IsShaped xs hs vals → GivesShapes s xs hs → ((k : ℕ) → k < length xs → IsValued xs hs vals known k) → (k : ℕ) → k < length xs → MeansTree s xs hs vals known k
values_stand s xs hs vals known low m g w k h =
    let P : ℕ → Type 0 = λ j. IsTree s (listed vals) (term_at xs j) (shape_at hs j) (value_at known j) in
    let t = by_places P xs (λ n x found below.
    let one = m.each n x found in
    moved s (listed vals) (term_at xs n) (node_term (term_at xs) x) (node_shape s hs x) (shape_at hs n) (node_value hs (listed vals) known x) (value_at known n)
    (term_at-is xs low n x found)
    (one.shaped ∙ own_shape s (shape_at hs n) hs x (g n x found))
    (w n (slice_get_within xs n x found) x found)
    (node_means s (listed vals) (term_at xs) hs known x one.sound (each_child P n x below (lower_at expr_below xs low n x found)))) k h in
    record { shape = t.shape; fault = t.fault; value = t.value }
