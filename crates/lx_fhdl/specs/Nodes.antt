-- What one node of an arena gives from what its children give: its shape, its fault, its value, and its tree.
use Rattle.std.specs.Prelude.{◌≡◌, ℕ, ℤ, pos, Bool, true, false, List, [], ◌∷◌, Option, Some, None, ◌-◌, ◌*◌, ◌≤◌, ◌<◌, length, slice_get, slice_index_or}
use Rattle.lx_num.specs.declared.Shape.{Shape}
use Rattle.lx_num.specs.Ints.{shape, unsigned, Fits, wrapped, field_of}
use Rattle.lx_circuit.specs.declared.WidthFault.{WidthFault}
use Rattle.lx_circuit.specs.Shapes.{Shapes, joined, pick_shape, bits_sum, unary_shape, binary_shape, too_wide, binary_fault, replicate_fault, slice_fault, pick_fault, constant_fault}
use Rattle.lx_circuit.specs.Places.{Values, At, Word}
use Rattle.lx_circuit.specs.Values.{unary_value, binary_value, mux_value, cat_pattern, count_of, replicate_value, pick_value}
use Rattle.lx_fhdl.specs.Below.{ExprId}
use Rattle.lx_fhdl.specs.declared.exprs.Expr.{Expr}
use Rattle.lx_fhdl.specs.declared.exprs.Expr.TheVariants.{Const, Sig, Unary, Binary, Mux, Cat, Pick, Replicate, Slice, Fetch}

-- the shape of the node at a place
abbrev pub shape_at : List Shape → ℕ → Shape
shape_at hs k = slice_index_or hs k (shape 0 false)

abbrev pub shapes_at : List Shape → List ExprId → List Shape
shapes_at hs [] = []
shapes_at hs (i ∷ is) = shape_at hs i.place ∷ shapes_at hs is

-- the value of the node at a place
abbrev pub value_at : List ℤ → ℕ → ℤ
value_at known k = slice_index_or known k (pos 0)

abbrev pub values_at : List ℤ → List ExprId → List ℤ
values_at known [] = []
values_at known (i ∷ is) = value_at known i.place ∷ values_at known is

-- the shape of a node, from those of the signals and of its children
abbrev pub node_shape : Shapes → List Shape → Expr → Shape
node_shape s hs (Const value bits signed) = shape bits signed
node_shape s hs (Sig x) = s x.0
node_shape s hs (Unary op of) = unary_shape op (shape_at hs of.place)
node_shape s hs (Binary op left right) = binary_shape op (shape_at hs left.place) (shape_at hs right.place)
node_shape s hs (Mux cond then_ else_) = joined (shape_at hs then_.place) (shape_at hs else_.place)
node_shape s hs (Cat parts) = unsigned (bits_sum (shapes_at hs parts))
node_shape s hs (Pick items index) = pick_shape (shapes_at hs items)
node_shape s hs (Replicate of count) = unsigned (count * (shape_at hs of.place).bits)
node_shape s hs (Slice of low high) = unsigned (high - low)
node_shape s hs (Fetch memory width at) = unsigned width

-- the fault of a node whose children have none
abbrev pub node_fault : List Shape → Expr → Option WidthFault
node_fault hs (Const value bits signed) = constant_fault (shape bits signed)
node_fault hs (Sig x) = None
node_fault hs (Unary op of) = too_wide (unary_shape op (shape_at hs of.place)).bits
node_fault hs (Binary op left right) = binary_fault op (shape_at hs left.place) (shape_at hs right.place)
node_fault hs (Mux cond then_ else_) = too_wide (joined (shape_at hs then_.place) (shape_at hs else_.place)).bits
node_fault hs (Cat parts) = too_wide (bits_sum (shapes_at hs parts))
node_fault hs (Pick items index) = pick_fault (shapes_at hs items) (shape_at hs index.place)
node_fault hs (Replicate of count) = replicate_fault (shape_at hs of.place) count
node_fault hs (Slice of low high) = slice_fault (shape_at hs of.place) low high
node_fault hs (Fetch memory width at) = constant_fault (unsigned width)

-- the value of a node, from those of all places and of its children
abbrev pub node_value : List Shape → Values → List ℤ → Expr → ℤ
node_value hs v known (Const value bits signed) = wrapped (shape bits signed) value
node_value hs v known (Sig x) = v (At x.0)
node_value hs v known (Unary op of) = unary_value op (shape_at hs of.place) (value_at known of.place)
node_value hs v known (Binary op left right) = binary_value op (value_at known left.place) (value_at known right.place)
node_value hs v known (Mux cond then_ else_) = mux_value (value_at known cond.place) (value_at known then_.place) (value_at known else_.place)
node_value hs v known (Cat parts) = pos (cat_pattern (shapes_at hs parts) (values_at known parts))
node_value hs v known (Pick items index) = pick_value (values_at known items) (value_at known index.place)
node_value hs v known (Replicate of count) = replicate_value (shape_at hs of.place) count (value_at known of.place)
node_value hs v known (Slice of low high) = pos (field_of (value_at known of.place) low (high - low))
node_value hs v known (Fetch memory width at) = wrapped (unsigned width) (v (Word memory (count_of (value_at known at.place))))

-- a shape of 1 to 127 bits
pub record IsSmall (a : Shape) : Type 0 where
  pub some : 1 ≤ a.bits
  pub most : a.bits ≤ 127

-- a fact of each place in a list
abbrev pub EachPlace : (ℕ → Type 0) → List ExprId → Type 0
EachPlace P [] = Unit {0}
EachPlace P (i ∷ is) = P i.place × EachPlace P is

-- a fact of each child of a node
abbrev pub EachChild : (ℕ → Type 0) → Expr → Type 0
EachChild P (Const value bits signed) = Unit {0}
EachChild P (Sig x) = Unit {0}
EachChild P (Unary op of) = P of.place
EachChild P (Binary op left right) = P left.place × P right.place
EachChild P (Mux cond then_ else_) = P cond.place × (P then_.place × P else_.place)
EachChild P (Cat parts) = EachPlace P parts
EachChild P (Pick items index) = EachPlace P items × P index.place
EachChild P (Replicate of count) = P of.place
EachChild P (Slice of low high) = P of.place
EachChild P (Fetch memory width at) = P at.place

-- a Cat has a part, and a Pick an item
abbrev pub HasParts : Expr → Type 0
HasParts (Cat parts) = 0 < length parts
HasParts (Pick items index) = 0 < length items
HasParts _ = Unit {0}

-- a node that reads a word of a memory
abbrev pub is_fetch : Expr → Bool
is_fetch (Fetch memory width at) = true
is_fetch _ = false

-- the values of all places, where only those of the signals are listed
abbrev pub listed : List ℤ → Values
listed vals (At x) = value_at vals x
listed vals _ = pos 0

-- a node that names a signal may have any shape of 1 to 64 bits, and the signal's value fits it
abbrev pub FitsSignal : List ℤ → Shape → Expr → Type 0
FitsSignal vals a (Sig x) = (1 ≤ a.bits) × (a.bits ≤ 64) × (x.0 < length vals) × Fits a (value_at vals x.0)
FitsSignal vals a _ = Unit {0}

-- node k has its shape, from its children's, and no fault; it reads no memory
pub record IsNode (hs : List Shape) (vals : List ℤ) (k : ℕ) (x : Expr) : Type 0 where
  pub shaped : shape_at hs k ≡ node_shape (λ _. shape_at hs k) hs x
  pub sound : node_fault hs x ≡ None
  pub parts : HasParts x
  pub no_fetch : is_fetch x ≡ false
  pub signal : FitsSignal vals (shape_at hs k) x

-- so do all nodes of an arena
pub record IsShaped (xs : List Expr) (hs : List Shape) (vals : List ℤ) : Type 0 where
  pub long : length hs ≡ length xs
  pub each : (k : ℕ) (x : Expr) → slice_get xs k ≡ Some x → IsNode hs vals k x

-- the value at a place is one of its shape
abbrev pub IsFit : List Shape → List ℤ → ℕ → Type 0
IsFit hs known k = Fits (shape_at hs k) (value_at known k)

-- a child whose shape and value are there
pub record IsKnown (hs : List Shape) (known : List ℤ) (k : ℕ) : Type 0 where
  pub has_shape : k < length hs
  pub has_value : k < length known
  pub small : IsSmall (shape_at hs k)
  pub fit : IsFit hs known k

-- node k has its value, from those of its children
abbrev pub IsValued : List Expr → List Shape → List ℤ → List ℤ → ℕ → Type 0
IsValued xs hs vals known k = (x : Expr) → slice_get xs k ≡ Some x → value_at known k ≡ node_value hs (listed vals) known x
