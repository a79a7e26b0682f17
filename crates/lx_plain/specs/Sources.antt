-- A design that is read, and the draft where its lowered expressions hang.
use Rattle.std.specs.Prelude.{◌≡◌, ℕ, false, List, None, ◌<◌, ◌≤◌, length, map, slice_index_or, IsTrue}
use Rattle.lx_num.specs.declared.Shape.{Shape}
use Rattle.lx_circuit.specs.Shapes.{joined, pick_fault, shape_of, shapes_of, too_wide}
use Rattle.lx_fhdl.specs.Below.{ExprId, all_below, expr_below}
use Rattle.lx_fhdl.specs.Designs.{shapes, term}
use Rattle.lx_fhdl.specs.Drafts.{CanAddExpr}
use Rattle.lx_fhdl.specs.Instance.{the_expr}
use Rattle.lx_fhdl.specs.Keeping.{Keeps}
use Rattle.lx_fhdl.specs.Trees.{terms_at}
use Rattle.lx_fhdl.specs.declared.design.Design.{Design}
use Rattle.lx_fhdl.specs.declared.exprs.Expr.{Expr}
use Rattle.lx_fhdl.specs.declared.exprs.Expr.TheVariants.{Const, Sig, Unary, Binary, Mux, Cat, Pick, Replicate, Slice, Fetch}
use Rattle.lx_lowering.specs.Terms.{lower_term}
use Rattle.lx_width.specs.Shapes.{AreShapes}

-- a design, the shapes of its expressions, and the new places of the first ones
pub record Read : Type 0 where
  pub design : Design
  pub shapes : List Shape
  pub places : List ExprId

pub record IsRead (r : Read) : Type 0 where
  pub keeps : Keeps r.design
  pub sized : AreShapes r.design r.shapes
  pub most : length r.places ≤ length r.design.exprs

abbrev pub place_at : List ExprId → ℕ → ℕ
place_at places k = (slice_index_or places k (the_expr 0)).place

-- the signals and memories are the same, and the lowered tree of each of these expressions hangs at its place
pub record IsLowered (r : Read) (d : Design) : Type 0 where
  pub signals : d.signals ≡ r.design.signals
  pub memories : d.memories ≡ r.design.memories
  pub within : (k : ℕ) → k < length r.places → place_at r.places k < length d.exprs
  pub trees : (k : ℕ) → k < length r.places → term d (place_at r.places k) ≡ lower_term (shapes r.design) (term r.design k)

-- a node of the design over expressions that have their new places
pub record IsNext (r : Read) (x : Expr) : Type 0 where
  pub below : IsTrue (expr_below x (length r.places))
  pub sound : CanAddExpr r.design x

-- ---- expressions

-- the new place of an expression, from those of all
abbrev pub moved_to : List ExprId → ExprId → ExprId
moved_to places id = slice_index_or places id.place (the_expr 0)

-- a node whose children are at their new places
abbrev pub moved_node : List ExprId → Expr → Expr
moved_node places (Const value bits signed) = Const value bits signed
moved_node places (Sig x) = Sig x
moved_node places (Unary op of) = Unary op (moved_to places of)
moved_node places (Binary op left right) = Binary op (moved_to places left) (moved_to places right)
moved_node places (Mux cond then_ else_) = Mux (moved_to places cond) (moved_to places then_) (moved_to places else_)
moved_node places (Cat parts) = Cat (map (moved_to places) parts)
moved_node places (Pick items index) = Pick (map (moved_to places) items) (moved_to places index)
moved_node places (Replicate of count) = Replicate (moved_to places of) count
moved_node places (Slice of low high) = Slice (moved_to places of) low high
moved_node places (Fetch memory width at) = Fetch memory width (moved_to places at)

-- an unsigned amount
pub record IsAmount (d : Design) (k : ℕ) : Type 0 where
  pub there : k < length d.exprs
  pub plain : (shape_of (shapes d) (term d k)).signed ≡ false

-- two expressions that a condition can choose between
pub record CanChoose (d : Design) (yes no : ExprId) : Type 0 where
  pub yes_there : yes.place < length d.exprs
  pub no_there : no.place < length d.exprs
  pub sound : too_wide (joined (shape_of (shapes d) (term d yes.place)) (shape_of (shapes d) (term d no.place))).bits ≡ None

-- items that an index of this shape can pick
pub record CanPick (d : Design) (items : List ExprId) (index : Shape) : Type 0 where
  pub some : 0 < length items
  pub there : IsTrue (all_below (length d.exprs) items)
  pub sound : pick_fault (shapes_of (shapes d) (terms_at (term d) items)) index ≡ None
