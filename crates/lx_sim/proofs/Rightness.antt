-- Expressions whose children and signals have their values have theirs.
use Rattle.std.proofs.Common.{◌≡◌, ℕ, true, ◌+◌, ◌-◌, ◌<◌, Bool, List, [], ◌∷◌, length, refl, sym, ◌∙◌, ap, arith, inl, inr, ◌||◌, eq-eqb}
use Rattle.std.specs.Prelude.{ℤ, pos}
use Rattle.std.proofs.lemmas.Bool.{cases_lt, or_left, or_right}
use Rattle.std.proofs.lemmas.Option.{slice_get_within}
use Rattle.lx_num.specs.declared.Shape.{Shape}
use Rattle.lx_num.specs.Ints.{field_of, wrapped, unsigned}
use Rattle.lx_arena.proofs.Places.{by_places, lower_at}
use Rattle.lx_circuit.specs.Places.{Place, Values, At, Word, is_word}
use Rattle.lx_circuit.specs.Terms.{Term}
use Rattle.lx_circuit.specs.Reads.{names, some_names}
use Rattle.lx_circuit.specs.Shapes.{Shapes, shape_of, shapes_of}
use Rattle.lx_circuit.specs.Values.{binary_value, cat_pattern, count_of, mux_value, pick_value, replicate_value, unary_value, value_of, values_of}
use Rattle.lx_fhdl.specs.Below.{ExprId, expr_below}
use Rattle.lx_fhdl.specs.Designs.{shapes, term}
use Rattle.lx_fhdl.specs.Keeping.{NamesThere}
use Rattle.lx_fhdl.specs.Nodes.{EachChild, EachPlace, node_value, shape_at, shapes_at, value_at, values_at}
use Rattle.lx_fhdl.specs.Trees.{node_term, terms_at}
use Rattle.lx_fhdl.specs.declared.design.Design.{Design}
use Rattle.lx_fhdl.specs.declared.exprs.Expr.{Expr}
use Rattle.lx_fhdl.specs.declared.exprs.Expr.TheVariants.{Const, Sig, Unary, Binary, Mux, Cat, Pick, Replicate, Slice, Fetch}
use Rattle.lx_fhdl.proofs.Arena.{both_children, each_child}
use Rattle.lx_fhdl.proofs.Trees.{term_at-is}
use Rattle.lx_sim.specs.Evaluating.{Evaluates}
use Rattle.lx_sim.specs.Orders.{AreRanks, IsBucket, place_of}
use Rattle.lx_sim.specs.Plans.{IsPlan}
use Rattle.lx_sim.specs.Settling.{RightTo, SignalsTo}
use Rattle.lx_sim.specs.Words.{AreWords, placed}
use Rattle.lx_sim.specs.declared.plan.Plan.{Plan}

-- ---- what children name

parts_in : (t : ℕ → Term) (is : List ExprId) (q : Place → Bool) → ((y : Place) → some_names y (terms_at t is) ≡ true → q y ≡ true) → EachPlace (λ k. (y : Place) → names y (t k) ≡ true → q y ≡ true) is
parts_in t [] q h = tt
parts_in t (i ∷ is) q h =
    (λ y e. h y (or_left (names y (t i.place)) (some_names y (terms_at t is)) e), parts_in t is q (λ y e. h y (or_right (names y (t i.place)) (some_names y (terms_at t is)) e)))

-- what a child names passes a test that all passes that its node names
children_in : (t : ℕ → Term) (x : Expr) (q : Place → Bool) → ((y : Place) → names y (node_term t x) ≡ true → q y ≡ true) → EachChild (λ k. (y : Place) → names y (t k) ≡ true → q y ≡ true) x
children_in t (Const value bits signed) q h = tt
children_in t (Sig y) q h = tt
children_in t (Unary op of) q h = h
children_in t (Binary op left right) q h = (λ y e. h y (or_left (names y (t left.place)) (names y (t right.place)) e), λ y e. h y (or_right (names y (t left.place)) (names y (t right.place)) e))
children_in t (Mux cond then_ else_) q h = (
  λ y e. h y (or_left (names y (t cond.place)) (names y (t then_.place) || names y (t else_.place)) e),
  (
    λ y e. h y (or_right (names y (t cond.place)) (names y (t then_.place) || names y (t else_.place)) (or_left (names y (t then_.place)) (names y (t else_.place)) e)),
    λ y e. h y (or_right (names y (t cond.place)) (names y (t then_.place) || names y (t else_.place)) (or_right (names y (t then_.place)) (names y (t else_.place)) e)),
  ),
)
children_in t (Cat parts) q h = parts_in t parts q h
children_in t (Pick items index) q h =
    (parts_in t items q (λ y e. h y (or_left (some_names y (terms_at t items)) (names y (t index.place)) e)), λ y e. h y (or_right (some_names y (terms_at t items)) (names y (t index.place)) e))
children_in t (Replicate of count) q h = h
children_in t (Slice of low high) q h = h
children_in t (Fetch memory width at) q h = λ y e. h y (or_right (is_word memory y) (names y (t at.place)) e)

-- ---- one node

-- a child has its shape and its value
record IsRight (s : Shapes) (v : Values) (t : ℕ → Term) (hs : List Shape) (known : List ℤ) (k : ℕ) : Type 0 where
  shape : shape_of s (t k) ≡ shape_at hs k
  value : value_at known k ≡ value_of s v (t k)

abbrev SignalIsRight : Values → List ℤ → Expr → Type 0
SignalIsRight v vals (Sig y) = value_at vals y.0 ≡ v (At y.0)
SignalIsRight v vals _ = Unit {0}

right_shapes : (s : Shapes) (v : Values) (t : ℕ → Term) (hs : List Shape) (known : List ℤ) (is : List ExprId) → EachPlace (IsRight s v t hs known) is → shapes_at hs is ≡ shapes_of s (terms_at t is)
right_shapes s v t hs known [] h = refl
right_shapes s v t hs known (i ∷ is) h = rw (sym h.0.shape, right_shapes s v t hs known is h.1) refl

right_values : (s : Shapes) (v : Values) (t : ℕ → Term) (hs : List Shape) (known : List ℤ) (is : List ExprId) → EachPlace (IsRight s v t hs known) is → values_at known is ≡ values_of s v (terms_at t is)
right_values s v t hs known [] h = refl
right_values s v t hs known (i ∷ is) h = rw (h.0.value, right_values s v t hs known is h.1) refl

value_right : (s : Shapes) (v : Values) (t : ℕ → Term) (hs : List Shape) (vals : List ℤ) (words : List (List ℤ)) (known : List ℤ) (x : Expr) → AreWords words v → SignalIsRight v vals x → EachChild (IsRight s v t hs known) x
    → node_value hs (placed vals words) known x ≡ value_of s v (node_term t x)
value_right s v t hs vals words known (Const value bits signed) f g h = refl
value_right s v t hs vals words known (Sig y) f g h = g
value_right s v t hs vals words known (Unary op of) f g h = ap (λ (a : Shape). unary_value op a (value_at known of.place)) (sym h.shape) ∙ ap (unary_value op (shape_of s (t of.place))) h.value
value_right s v t hs vals words known (Binary op left right) f g h = ap (λ (z : ℤ). binary_value op z (value_at known right.place)) h.0.value ∙ ap (binary_value op (value_of s v (t left.place))) h.1.value
value_right s v t hs vals words known (Mux cond then_ else_) f g h =
    ap (λ (z : ℤ). mux_value z (value_at known then_.place) (value_at known else_.place)) h.0.value
    ∙ (ap (λ (z : ℤ). mux_value (value_of s v (t cond.place)) z (value_at known else_.place)) h.1.0.value
    ∙ ap (mux_value (value_of s v (t cond.place)) (value_of s v (t then_.place))) h.1.1.value)
value_right s v t hs vals words known (Cat parts) f g h =
    ap (λ (as_ : List Shape). pos (cat_pattern as_ (values_at known parts))) (right_shapes s v t hs known parts h)
    ∙ ap (λ (zs : List ℤ). pos (cat_pattern (shapes_of s (terms_at t parts)) zs)) (right_values s v t hs known parts h)
value_right s v t hs vals words known (Pick items index) f g h =
    ap (λ (zs : List ℤ). pick_value zs (value_at known index.place)) (right_values s v t hs known items h.0) ∙ ap (pick_value (values_of s v (terms_at t items))) h.1.value
value_right s v t hs vals words known (Replicate of count) f g h = ap (λ (a : Shape). replicate_value a count (value_at known of.place)) (sym h.shape) ∙ ap (replicate_value (shape_of s (t of.place)) count) h.value
value_right s v t hs vals words known (Slice of low high) f g h = ap (λ (z : ℤ). pos (field_of z low (high - low))) h.value
value_right s v t hs vals words known (Fetch memory width at) f g h =
    ap (wrapped (unsigned width)) (f.each memory (count_of (value_at known at.place)) ∙ ap (λ (z : ℤ). v (Word memory (count_of z))) h.value)

-- ---- by ranks

signal_right : (d : Design) (v : Values) (places : List ℕ) (n : ℕ) (vals : List ℤ) (x : Expr) → NamesThere (length d.signals) d.memories x → SignalsTo d v places n vals
    → ((y : ℕ) → names (At y) (node_term (term d) x) ≡ true → place_of places y < n) → SignalIsRight v vals x
signal_right d v places n vals (Sig y) there to behind = to y.0 there (behind y.0 (eq-eqb y.0 y.0 refl))
signal_right d v places n vals (Const value bits signed) there to behind = tt
signal_right d v places n vals (Unary op of) there to behind = tt
signal_right d v places n vals (Binary op left right) there to behind = tt
signal_right d v places n vals (Mux cond then_ else_) there to behind = tt
signal_right d v places n vals (Cat parts) there to behind = tt
signal_right d v places n vals (Pick items index) there to behind = tt
signal_right d v places n vals (Replicate of count) there to behind = tt
signal_right d v places n vals (Slice of low high) there to behind = tt
signal_right d v places n vals (Fetch memory width at) there to behind = tt

pub bucket_right : (p : Plan) (v : Values) (places ranks bucket : List ℕ) (n : ℕ) (vals : List ℤ) (words : List (List ℤ)) (old known : List ℤ) → IsPlan p → AreWords words v → AreRanks p.design places (length p.design.exprs) ranks → IsBucket ranks n (length p.design.exprs) bucket
    → Evaluates p bucket vals words old known → SignalsTo p.design v places n vals → RightTo p.design v ranks n old → RightTo p.design v ranks (n + 1) known
bucket_right p v places ranks bucket n vals words old known plan right_words are is ev to right =
    let d = p.design in
    by_places (λ k. place_of ranks k < n + 1 → value_at known k ≡ value_of (shapes d) v (term d k)) d.exprs
    (λ k x found below less.
    let within = slice_get_within d.exprs k x found in
    elim (cases_lt (place_of ranks k) n) [
      | inl q ↦ ev.others k (λ at. (let r = (is.ranked at.0 k at.1).1 in omega arith)) ∙ right k within q
      | inr q ↦
          let rank : place_of ranks k ≡ n = omega arith in
          let tree = term_at-is d.exprs plan.keeps.arenas.exprs_lower k x found in
          let own = are.each k within in
          let inside = children_in (term d) x (λ y. names y (term d k)) (λ y e. ap (names y) tree ∙ e) in
          let kids =
          both_children (λ c. (y : Place) → names y (term d c) ≡ true → names y (term d k) ≡ true) (λ c. (c < k) × (place_of ranks c < n + 1 → value_at known c ≡ value_of (shapes d) v (term d c))) (IsRight (shapes d) v (term d) p.shapes known) x
          (λ c in_ earlier.
          let l : c < length d.exprs = omega (arith, earlier.0, within) in
          let most = (are.each c l).least (place_of ranks k) (λ y e. own.above y (in_ (At y) e)) in
          record { shape = sym (plan.shapes.each c l); value = earlier.1 (omega (arith, most, rank)) })
          inside
          (each_child (λ c. (c < k) × (place_of ranks c < n + 1 → value_at known c ≡ value_of (shapes d) v (term d c))) k x (λ c l. (l, below c l)) (lower_at expr_below d.exprs plan.keeps.arenas.exprs_lower k x found)) in
          ev.each k within (is.all k within rank) x found
          ∙ (value_right (shapes d) v (term d) p.shapes vals words known x right_words
          (signal_right d v places n vals x (plan.keeps.arenas.named k x found) to (λ y e. (let a = own.above y (ap (names (At y)) tree ∙ e) in omega (arith, a, rank))))
          kids
          ∙ ap (value_of (shapes d) v) (sym tree))
    ])
