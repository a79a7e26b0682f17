-- The shapes of all expressions of a design.
use Rattle.std.specs.Prelude.{◌≡◌, ℕ, ◌<◌, List, None, length, IsTrue}
use Rattle.lx_num.specs.declared.Shape.{Shape}
use Rattle.lx_circuit.specs.Shapes.{shape_of}
use Rattle.lx_fhdl.specs.Below.{expr_below}
use Rattle.lx_fhdl.specs.Designs.{shapes, term}
use Rattle.lx_fhdl.specs.Nodes.{HasParts, node_fault, shape_at}
use Rattle.lx_fhdl.specs.declared.design.Design.{Design}
use Rattle.lx_fhdl.specs.declared.design.Signal.{Signal}
use Rattle.lx_fhdl.specs.declared.exprs.Expr.{Expr}
use Rattle.lx_width.specs.Width.{NamesBelow}

-- the shapes of all expressions
pub record AreShapes (d : Design) (hs : List Shape) : Type 0 where
  pub long : length hs ≡ length d.exprs
  pub each : (k : ℕ) → k < length d.exprs → shape_at hs k ≡ shape_of (shapes d) (term d k)

-- a node over expressions with these shapes, without a fault
pub record IsSoundNode (signals : List Signal) (hs : List Shape) (x : Expr) : Type 0 where
  pub below : IsTrue (expr_below x (length hs))
  pub named : NamesBelow (length signals) x
  pub parts : HasParts x
  pub sound : node_fault hs x ≡ None
