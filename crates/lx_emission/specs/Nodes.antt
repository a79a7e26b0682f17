-- The text of an expression: of an operand, and of the operator, slice or read of a memory that drives a node's net.
use Rattle.std.specs.Prelude.{ℕ, Bool, true, false, List, [], ◌∷◌, Option, Some, None, ◌-◌, ◌/◌, ◌%◌, ◌^◌, ◌&&◌, nat_eq, slice_get, if◌then◌else◌}
use Rattle.lx_num.specs.declared.Shape.{Shape}
use Rattle.lx_num.specs.Ints.{modulo}
use Rattle.lx_tables.specs.declared.operators.Op.TheVariants as op
use Rattle.lx_tables.specs.declared.operators.OpRow.{OpRow}
use Rattle.lx_tables.specs.Operators.{row_of, mix_of}
use Rattle.lx_circuit.specs.Shapes.{shape_of}
use Rattle.lx_vtext.specs.Tree as tree
use Rattle.lx_vtext.specs.Tree.{Name, VExpr, VExprs, Literal, Net, PartSelect, Word, Conditional, Concatenation, Replication, ToSigned, ToUnsigned, NoMore, More}
use Rattle.lx_tie.specs.Rows.{unary_op, binary_op}
use Rattle.lx_fhdl.specs.Below.{ExprId}
use Rattle.lx_fhdl.specs.Designs.{term, shapes}
use Rattle.lx_fhdl.specs.declared.exprs.Expr.{Expr}
use Rattle.lx_fhdl.specs.declared.exprs.Expr.TheVariants.{Const, Sig, Unary, Binary, Mux, Cat, Replicate, Slice, Fetch}
use Rattle.lx_fhdl.specs.declared.design.Design.{Design}
use Rattle.lx_emission.specs.Naming.{net, node_net, memory_name}

-- the shape of the node at a place
unfoldable pub node_shape : Design → ℕ → Shape
node_shape d k = shape_of (shapes d) (term d k)

-- a constant is a literal, a signal its net, any other node its own net
abbrev pub operand_of : List Name → Name → Option Expr → VExpr
operand_of names own (Some (Const value bits signed)) = Literal bits signed (modulo value (2 ^ bits))
operand_of names own (Some (Sig x)) = Net (net names x.0)
operand_of names own (Some _) = Net own
operand_of names own None = Net []

-- the text of the node at a place where it is read
unfoldable pub operand : Design → List Name → ℕ → VExpr
operand d names k = operand_of names (node_net d.exprs k) (slice_get d.exprs k)

-- $signed({1'd0, e}): an unsigned operand beside a signed one
abbrev pub wide_if : Bool → VExpr → VExpr
wide_if false e = e
wide_if true e = ToSigned (Concatenation (Literal 1 false 0) (More e NoMore))

abbrev pub unary_text : OpRow → VExpr → VExpr
unary_text r a = tree.Unary (unary_op r.text) (wide_if r.widen_left a)

abbrev pub binary_text : OpRow → VExpr → VExpr → VExpr
binary_text r a b = tree.Binary (wide_if r.widen_left a) (binary_op r.text) (wide_if r.widen_right b)

abbrev pub choice_text : OpRow → VExpr → VExpr → VExpr → VExpr
choice_text r c a b = Conditional c (wide_if r.widen_left a) (wide_if r.widen_right b)

-- the parts from the last to the first, then those that are done
abbrev pub parts_onto : (ℕ → VExpr) → List ExprId → VExprs → VExprs
parts_onto o [] done = done
parts_onto o (i ∷ is) done = parts_onto o is (More (o i.place) done)

abbrev pub concat_of : VExprs → VExpr
concat_of NoMore = Net []
concat_of (More e es) = Concatenation e es

-- the first part stands last, in the lowest bits
abbrev pub cat_text : (ℕ → VExpr) → List ExprId → VExpr
cat_text o parts = concat_of (parts_onto o parts NoMore)

-- bits low to high - 1 of an operand of so many bits; a select never covers its name
abbrev pub slice_text : VExpr → ℕ → ℕ → ℕ → VExpr
slice_text (Literal b s v) bits low high = Literal (high - low) false (v / 2 ^ low % 2 ^ (high - low))
slice_text (Net n) bits low high = if nat_eq low 0 && nat_eq high bits then ToUnsigned (Net n) else PartSelect n (high - 1) low
slice_text e bits low high = ToUnsigned e

-- the text of a node with a net, its operands sized by the operator's row; m names the memories
abbrev pub node_text_of : (ℕ → Name) → (ℕ → Shape) → (ℕ → VExpr) → Option Expr → VExpr
node_text_of m h o (Some (Unary op of)) = unary_text (row_of op (mix_of (h of.place).signed (h of.place).signed)) (o of.place)
node_text_of m h o (Some (Binary op left right)) =
    binary_text (row_of op (mix_of (h left.place).signed (h right.place).signed)) (o left.place) (o right.place)
node_text_of m h o (Some (Mux cond then_ else_)) =
    choice_text (row_of op.Mux (mix_of (h then_.place).signed (h else_.place).signed)) (o cond.place) (o then_.place) (o else_.place)
node_text_of m h o (Some (Cat parts)) = cat_text o parts
node_text_of m h o (Some (Replicate of count)) = Replication count (o of.place)
node_text_of m h o (Some (Slice of low high)) = slice_text (o of.place) (h of.place).bits low high
node_text_of m h o (Some (Fetch memory width at)) = Word (m memory) (o at.place)
node_text_of m h o _ = Net []

-- what drives the net of the node at a place
unfoldable pub node_text : Design → List Name → ℕ → VExpr
node_text d names k = node_text_of (memory_name d names) (node_shape d) (operand d names) (slice_get d.exprs k)
