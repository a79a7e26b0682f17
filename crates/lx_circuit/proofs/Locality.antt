-- Shape, fault, value and taken assignments hang on the places that are named alone.
use Rattle.std.proofs.Common.{◌≡◌, ℤ, pos, Bool, List, ◌∷◌, ◌||◌, ◌-◌, ◌*◌, refl, ◌∙◌, ap, ap₂, eq-eqb}
use Rattle.std.specs.Prelude.{Option}
use Rattle.std.proofs.lemmas.Bool.{or_left, or_right}
use Rattle.lx_num.specs.declared.Shape.{Shape}
use Rattle.lx_num.specs.Ints.{unsigned, wrapped, field_of}
use Rattle.lx_circuit.specs.declared.WidthFault.{WidthFault}
use Rattle.lx_circuit.specs.Places.{Place, Values, At, Word, is_word}
use Rattle.lx_circuit.specs.Terms.{Term, Terms, Constant, Signal, Unary, Binary, Mux, Cat, Replicate, Slice, Pick, Fetch, NoTerm, MoreTerms}
use Rattle.lx_circuit.specs.Shapes.{Shapes, shapes_of, faults_of, or_else, unary_shape, binary_shape, binary_fault, joined, too_wide, bits_sum, pick_shape, replicate_fault, slice_fault, pick_fault, constant_fault}
use Rattle.lx_circuit.specs.Values.{value_of, values_of, unary_value, binary_value, mux_value, cat_pattern, replicate_value, pick_value, count_of}
use Rattle.lx_circuit.specs.Reads.{names, some_names}
use Rattle.lx_circuit.specs.Locality.{Alike, TermSame}

-- they are alike on fewer places too
pub alike_left : (s t : Shapes) (v w : Values) (p q : Place → Bool) → Alike s t v w (λ y. p y || q y) → Alike s t v w p
alike_left s t v w p q h = record {
  shapes = λ x e. h.shapes x (or_left (p (At x)) (q (At x)) e);
  signals = λ x e. h.signals x (or_left (p (At x)) (q (At x)) e);
  words = λ m k e. h.words m k (or_left (p (Word m k)) (q (Word m k)) e);
}

pub alike_right : (s t : Shapes) (v w : Values) (p q : Place → Bool) → Alike s t v w (λ y. p y || q y) → Alike s t v w q
alike_right s t v w p q h = record {
  shapes = λ x e. h.shapes x (or_right (p (At x)) (q (At x)) e);
  signals = λ x e. h.signals x (or_right (p (At x)) (q (At x)) e);
  words = λ m k e. h.words m k (or_right (p (Word m k)) (q (Word m k)) e);
}

-- so have several
pub record TermsSame (s t : Shapes) (v w : Values) (es : Terms) : Type 0 where
  pub shapes : shapes_of s es ≡ shapes_of t es
  pub faults : faults_of s es ≡ faults_of t es
  pub values : values_of s v es ≡ values_of t w es

pub ap3 : {A B C D : Type 0} {a a' : A} {b b' : B} {c c' : C} (f : A → B → C → D) → a ≡ a' → b ≡ b' → c ≡ c' → f a b c ≡ f a' b' c'
ap3 f p q r = cc

mutual
  pub term_same : (s t : Shapes) (v w : Values) (e : Term) → Alike s t v w (λ y. names y e) → TermSame s t v w e
  term_same s t v w (Constant z a) h = record { shape = refl; fault = refl; value = refl }
  term_same s t v w (Signal x) h = record { shape = h.shapes x (eq-eqb x x refl); fault = refl; value = h.signals x (eq-eqb x x refl) }
  term_same s t v w (Unary op a) h =
      let m = term_same s t v w a h in
      record {
        shape = ap (unary_shape op) m.shape;
        fault = ap₂ (λ (f : Option WidthFault) (r : Shape). or_else f (too_wide (unary_shape op r).bits)) m.fault m.shape;
        value = ap₂ (unary_value op) m.shape m.value;
      }
  term_same s t v w (Binary op a b) h =
      let m = term_same s t v w a (alike_left s t v w (λ y. names y a) (λ y. names y b) h) in
      let n = term_same s t v w b (alike_right s t v w (λ y. names y a) (λ y. names y b) h) in
      record {
        shape = ap₂ (binary_shape op) m.shape n.shape;
        fault = ap3 (λ (f g r : Option WidthFault). or_else f (or_else g r)) m.fault n.fault (ap₂ (binary_fault op) m.shape n.shape);
        value = ap₂ (binary_value op) m.value n.value;
      }
  term_same s t v w (Mux c a b) h =
      let l = term_same s t v w c (alike_left s t v w (λ y. names y c) (λ y. names y a || names y b) h) in
      let k = alike_right s t v w (λ y. names y c) (λ y. names y a || names y b) h in
      let m = term_same s t v w a (alike_left s t v w (λ y. names y a) (λ y. names y b) k) in
      let n = term_same s t v w b (alike_right s t v w (λ y. names y a) (λ y. names y b) k) in
      record {
        shape = ap₂ joined m.shape n.shape;
        fault = ap₂ or_else l.fault (ap3 (λ (f g r : Option WidthFault). or_else f (or_else g r)) m.fault n.fault (ap₂ (λ (x y : Shape). too_wide (joined x y).bits) m.shape n.shape));
        value = ap3 mux_value l.value m.value n.value;
      }
  term_same s t v w (Cat ps) h =
      let m = terms_same s t v w ps h in
      record {
        shape = ap (λ (ss : List Shape). unsigned (bits_sum ss)) m.shapes;
        fault = ap₂ (λ (f : Option WidthFault) (ss : List Shape). or_else f (too_wide (bits_sum ss))) m.faults m.shapes;
        value = ap₂ (λ (ss : List Shape) (zs : List ℤ). pos (cat_pattern ss zs)) m.shapes m.values;
      }
  term_same s t v w (Replicate a k) h =
      let m = term_same s t v w a h in
      record {
        shape = ap (λ (r : Shape). unsigned (k * r.bits)) m.shape;
        fault = ap₂ (λ (f : Option WidthFault) (r : Shape). or_else f (replicate_fault r k)) m.fault m.shape;
        value = ap₂ (λ (r : Shape) (z : ℤ). replicate_value r k z) m.shape m.value;
      }
  term_same s t v w (Slice a low high) h =
      let m = term_same s t v w a h in
      record {
        shape = refl;
        fault = ap₂ (λ (f : Option WidthFault) (r : Shape). or_else f (slice_fault r low high)) m.fault m.shape;
        value = ap (λ z. pos (field_of z low (high - low))) m.value;
      }
  term_same s t v w (Pick items i) h =
      let m = terms_same s t v w items (alike_left s t v w (λ y. some_names y items) (λ y. names y i) h) in
      let n = term_same s t v w i (alike_right s t v w (λ y. some_names y items) (λ y. names y i) h) in
      record {
        shape = ap pick_shape m.shapes;
        fault = ap3 (λ (f g r : Option WidthFault). or_else f (or_else g r)) m.faults n.fault (ap₂ pick_fault m.shapes n.shape);
        value = ap₂ pick_value m.values n.value;
      }
  term_same s t v w (Fetch m n i) h =
      let k = term_same s t v w i (alike_right s t v w (λ y. is_word m y) (λ y. names y i) h) in
      let l = alike_left s t v w (λ y. is_word m y) (λ y. names y i) h in
      record {
        shape = refl;
        fault = ap (λ (f : Option WidthFault). or_else f (constant_fault (unsigned n))) k.fault;
        value = ap (λ z. wrapped (unsigned n) (v (Word m (count_of z)))) k.value ∙ ap (λ z. wrapped (unsigned n) z) (l.words m (count_of (value_of t w i)) (eq-eqb m m refl));
      }

  pub terms_same : (s t : Shapes) (v w : Values) (es : Terms) → Alike s t v w (λ y. some_names y es) → TermsSame s t v w es
  terms_same s t v w NoTerm h = record { shapes = refl; faults = refl; values = refl }
  terms_same s t v w (MoreTerms e es) h =
      let m = term_same s t v w e (alike_left s t v w (λ y. names y e) (λ y. some_names y es) h) in
      let n = terms_same s t v w es (alike_right s t v w (λ y. names y e) (λ y. some_names y es) h) in
      record {
        shapes = ap₂ (λ (x : Shape) (xs : List Shape). x ∷ xs) m.shape n.shapes;
        faults = ap₂ or_else m.fault n.faults;
        values = ap₂ (λ (x : ℤ) (xs : List ℤ). x ∷ xs) m.value n.values;
      }
