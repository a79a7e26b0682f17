-- Expressions with their shapes, and operands that can be joined by an operator.
use Rattle.std.specs.Prelude.{◌≡◌, true, None, ◌<◌, length}
use Rattle.lx_tables.specs.declared.operators.Op.{Op}
use Rattle.lx_circuit.specs.Operands.{is_binary}
use Rattle.lx_circuit.specs.Shapes.{binary_fault, shape_of}
use Rattle.lx_fhdl.specs.Below.{ExprId}
use Rattle.lx_fhdl.specs.Designs.{shapes, term}
use Rattle.lx_fhdl.specs.declared.design.Design.{Design}
use Rattle.lx_plain.specs.declared.operands.Operand.{Operand}

-- an expression that is there, of this shape
pub record HasShape (d : Design) (v : Operand) : Type 0 where
  pub there : v.id.place < length d.exprs
  pub shape : shape_of (shapes d) (term d v.id.place) ≡ v.shape

-- two expressions that are there, as an operator takes them
pub record CanJoin (d : Design) (op : Op) (left right : ExprId) : Type 0 where
  pub binary : is_binary op ≡ true
  pub left_there : left.place < length d.exprs
  pub right_there : right.place < length d.exprs
  pub sound : binary_fault op (shape_of (shapes d) (term d left.place)) (shape_of (shapes d) (term d right.place)) ≡ None
