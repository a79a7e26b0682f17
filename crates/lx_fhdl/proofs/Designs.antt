-- What follows from what a design keeps: shapes are small, and values fit.
use Rattle.std.proofs.Common.{◌≡◌, ℕ, ◌<◌, ◌≤◌, false, List, [], ◌∷◌, length, sym, subst, arith, suc, zero}
use Rattle.std.specs.Prelude.{Some, None, map, slice_get, slice_index_or}
use Rattle.std.proofs.lemmas.Option.{slice_get_within}
use Rattle.lx_num.specs.Ints.{Fits, unsigned}
use Rattle.lx_arena.specs.Lower.{EachLower}
use Rattle.lx_arena.proofs.Places.{by_places, lower_at}
use Rattle.lx_circuit.specs.Terms.{Term}
use Rattle.lx_circuit.specs.Shapes.{Shapes, shape_of, fault_of, faults_of, or_else, joined, bits_sum, shapes_of, unary_shape, too_wide, binary_fault, replicate_fault, slice_fault, pick_fault, constant_fault}
use Rattle.lx_circuit.specs.Places.{Values, At}
use Rattle.lx_circuit.specs.Values.{value_of}
use Rattle.lx_circuit.specs.Circuit.{Made, nothing, Step, IsView}
use Rattle.lx_circuit.specs.Fitting.{IsMade, KeepsShapes, StepsFit, InputsFit}
use Rattle.lx_circuit.proofs.Fitting.{view_fits}
use Rattle.lx_fhdl.specs.Below.{ExprId, expr_below}
use Rattle.lx_fhdl.specs.Nodes.{IsSmall, EachPlace, EachChild, HasParts}
use Rattle.lx_fhdl.specs.Trees.{terms_at, node_term, term_at}
use Rattle.lx_fhdl.specs.Designs as design
use Rattle.lx_fhdl.specs.Designs.{made_of, circuit_of, shapes}
use Rattle.lx_fhdl.specs.Keeping.{EachOf, IsSignal, Keeps}
use Rattle.lx_fhdl.specs.Laws.{AllFit}
use Rattle.lx_fhdl.specs.declared.exprs.Expr.{Expr}
use Rattle.lx_fhdl.specs.declared.exprs.Expr.TheVariants.{Const, Sig, Unary, Binary, Mux, Cat, Pick, Replicate, Slice, Fetch}
use Rattle.lx_fhdl.specs.declared.design.Signal.{Signal}
use Rattle.lx_fhdl.specs.declared.design.Design.{Design}
use Rattle.lx_fhdl.proofs.Arena.{each_child}
use Rattle.lx_fhdl.proofs.Fitting.{fits_zero}
use Rattle.lx_fhdl.proofs.Operators.{none_left, none_right}
use Rattle.lx_fhdl.proofs.Trees.{term_at-is}
use Rattle.lx_fhdl.proofs.TreesFit.{IsSome, HasAllParts, HaveAllParts, tree_small, tree_fits}

-- ---- signals

-- what a circuit keeps of a signal, and at most 64 bits
record IsNarrow (m : Made) : Type 0 where
  made : IsMade m
  most : m.shape.bits ≤ 64

narrow_at : (ss : List Signal) → EachOf IsSignal ss → (x : ℕ) → IsNarrow (slice_index_or (map made_of ss) x nothing)
narrow_at [] h x = record { made = record { some = omega arith; fits = fits_zero 1 false }; most = omega arith }
narrow_at (s ∷ ss) h zero = record { made = record { some = h.0.some; fits = h.0.reset }; most = h.0.most }
narrow_at (s ∷ ss) h (suc x) = narrow_at ss h.1 x

pub keeps_shapes : (d : Design) → Keeps d → KeepsShapes (circuit_of d)
unfolding circuit_of
keeps_shapes d k = record { each = λ x. (narrow_at d.signals k.signals x).made }

-- a signal has 1 to 64 bits, also one that the design doesn't have
pub signal_some : (d : Design) → Keeps d → (x : ℕ) → 1 ≤ (shapes d x).bits
signal_some d k x = ((keeps_shapes d k).each x).some

pub signal_most : (d : Design) → Keeps d → (x : ℕ) → (shapes d x).bits ≤ 64
unfolding circuit_of
signal_most d k x = (narrow_at d.signals k.signals x).most

pub signal_small : (d : Design) → Keeps d → (x : ℕ) → IsSmall (shapes d x)
signal_small d k x = record { some = signal_some d k x; most = omega (arith, signal_most d k x) }

-- ---- faults

-- a fact of each place in a list is one of each tree
no_faults_at : (s : Shapes) (t : ℕ → Term) (is : List ExprId) → faults_of s (terms_at t is) ≡ None → EachPlace (λ j. fault_of s (t j) ≡ None) is
no_faults_at s t [] e = tt
no_faults_at s t (i ∷ is) e = (
  none_left (fault_of s (t i.place)) (faults_of s (terms_at t is)) e,
  no_faults_at s t is (none_right (fault_of s (t i.place)) (faults_of s (terms_at t is)) e),
)

-- the children of a node without a fault have none
pub no_child_fault : (s : Shapes) (t : ℕ → Term) (x : Expr) → fault_of s (node_term t x) ≡ None → EachChild (λ j. fault_of s (t j) ≡ None) x
no_child_fault s t (Const value bits signed) e = tt
no_child_fault s t (Sig x) e = tt
no_child_fault s t (Unary op of) e = none_left (fault_of s (t of.place)) (too_wide (unary_shape op (shape_of s (t of.place))).bits) e
no_child_fault s t (Binary op left right) e =
    let own = binary_fault op (shape_of s (t left.place)) (shape_of s (t right.place)) in
    let later = none_right (fault_of s (t left.place)) (or_else (fault_of s (t right.place)) own) e in
    (none_left (fault_of s (t left.place)) (or_else (fault_of s (t right.place)) own) e, none_left (fault_of s (t right.place)) own later)
no_child_fault s t (Mux cond then_ else_) e =
    let own = too_wide (joined (shape_of s (t then_.place)) (shape_of s (t else_.place))).bits in
    let later = or_else (fault_of s (t else_.place)) own in
    let first = none_right (fault_of s (t cond.place)) (or_else (fault_of s (t then_.place)) later) e in (
      none_left (fault_of s (t cond.place)) (or_else (fault_of s (t then_.place)) later) e,
      (none_left (fault_of s (t then_.place)) later first, none_left (fault_of s (t else_.place)) own (none_right (fault_of s (t then_.place)) later first)),
    )
no_child_fault s t (Cat parts) e = no_faults_at s t parts (none_left (faults_of s (terms_at t parts)) (too_wide (bits_sum (shapes_of s (terms_at t parts)))) e)
no_child_fault s t (Pick items index) e =
    let own = pick_fault (shapes_of s (terms_at t items)) (shape_of s (t index.place)) in
    let later = or_else (fault_of s (t index.place)) own in
    (no_faults_at s t items (none_left (faults_of s (terms_at t items)) later e), none_left (fault_of s (t index.place)) own (none_right (faults_of s (terms_at t items)) later e))
no_child_fault s t (Replicate of count) e = none_left (fault_of s (t of.place)) (replicate_fault (shape_of s (t of.place)) count) e
no_child_fault s t (Slice of low high) e = none_left (fault_of s (t of.place)) (slice_fault (shape_of s (t of.place)) low high) e
no_child_fault s t (Fetch memory width at) e = none_left (fault_of s (t at.place)) (constant_fault (unsigned width)) e

-- ---- expressions

-- a fact of all places below that of a node is one of its children
pub children_of : (P : ℕ → Type 0) (xs : List Expr) → EachLower expr_below xs → (k : ℕ) (x : Expr) → slice_get xs k ≡ Some x → ((j : ℕ) → j < k → P j) → EachChild P x
children_of P xs l k x e h = each_child P k x h (lower_at expr_below xs l k x e)

-- any signal
abbrev pub Any : ℕ → Type 0
Any x = Unit {0}

all_parts : (t : ℕ → Term) (is : List ExprId) → EachPlace (λ j. HasAllParts Any (t j)) is → HaveAllParts Any (terms_at t is)
all_parts t [] h = tt
all_parts t (i ∷ is) h = (h.0, all_parts t is h.1)

some_parts : (t : ℕ → Term) (is : List ExprId) → 0 < length is → IsSome (terms_at t is)
some_parts t [] h = absurd (omega arith)
some_parts t (i ∷ is) h = tt

node_parts : (t : ℕ → Term) (x : Expr) → HasParts x → EachChild (λ j. HasAllParts Any (t j)) x → HasAllParts Any (node_term t x)
node_parts t (Const value bits signed) p h = tt
node_parts t (Sig x) p h = tt
node_parts t (Unary op of) p h = h
node_parts t (Binary op left right) p h = h
node_parts t (Mux cond then_ else_) p h = h
node_parts t (Cat parts) p h = (some_parts t parts p, all_parts t parts h)
node_parts t (Pick items index) p h = (some_parts t items p, (all_parts t items h.0, h.1))
node_parts t (Replicate of count) p h = h
node_parts t (Slice of low high) p h = h
node_parts t (Fetch memory width at) p h = h

-- each Cat and each Pick in the tree at a place has a part
pub term_parts : (d : Design) → Keeps d → (k : ℕ) → k < length d.exprs → HasAllParts Any (design.term d k)
term_parts d p = by_places (λ k. HasAllParts Any (design.term d k)) d.exprs (λ k x found below.
    subst (λ (t : Term). HasAllParts Any t) (sym (term_at-is d.exprs p.arenas.exprs_lower k x found))
    (node_parts (term_at d.exprs) x (p.arenas.parts k x found) (children_of (λ j. HasAllParts Any (term_at d.exprs j)) d.exprs p.arenas.exprs_lower k x found below)))

-- the children of a node are there, and have no fault
pub children_there : (d : Design) → Keeps d → (k : ℕ) (x : Expr) → slice_get d.exprs k ≡ Some x → EachChild (λ j. j < length d.exprs) x
children_there d p k x e =
    let h = slice_get_within d.exprs k x e in
    children_of (λ j. j < length d.exprs) d.exprs p.arenas.exprs_lower k x e (λ j i. omega arith)

pub children_sound : (d : Design) → Keeps d → (k : ℕ) (x : Expr) → slice_get d.exprs k ≡ Some x → EachChild (λ j. fault_of (shapes d) (design.term d j) ≡ None) x
children_sound d p k x e =
    let h = slice_get_within d.exprs k x e in
    children_of (λ j. fault_of (shapes d) (design.term d j) ≡ None) d.exprs p.arenas.exprs_lower k x e (λ j i. p.arenas.shaped j (omega arith))

-- every expression has 1 to 127 bits
pub term_small : (d : Design) → Keeps d → (k : ℕ) → k < length d.exprs → IsSmall (shape_of (shapes d) (design.term d k))
term_small d p k h = tree_small Any (shapes d) (λ x u. signal_small d p x) (design.term d k) (term_parts d p k h) (p.arenas.shaped k h)

-- its value fits them, where those of all signals fit
pub term_fits : (d : Design) → Keeps d → (v : Values) → ((x : ℕ) → Fits (shapes d x) (v (At x))) → (k : ℕ) → k < length d.exprs → Fits (shape_of (shapes d) (design.term d k)) (value_of (shapes d) v (design.term d k))
term_fits d p v f k h = tree_fits Any (shapes d) v (λ x u. signal_small d p x) (λ x u. f x) (design.term d k) (term_parts d p k h) (p.arenas.shaped k h)

pub all_fit : (d : Design) → Keeps d → (steps : List Step) (inputs : Values) → StepsFit (circuit_of d) steps → InputsFit (circuit_of d) inputs → (v : Values) → IsView (circuit_of d) steps inputs v → AllFit d v
all_fit d p steps inputs f i v w =
    let places = view_fits (circuit_of d) (keeps_shapes d p) steps inputs f i v w in
    record { places = places; small = term_small d p; exprs = term_fits d p v places.signals }
