-- The text of an expression where it is read.
use Rattle.std.specs.Prelude.{◌≡◌, ℕ}
use Rattle.lx_vtext.specs.Tree as tree
use Rattle.lx_emission.specs.Nodes.{node_shape}
use Rattle.lx_sheet.specs.Plans.{Plan, operand_in}
use Rattle.lx_sheet.specs.declared.operands.Operand.{Operand}
use Rattle.lx_sheet.specs.declared.operands.Operand.TheVariants.{Literal, Net}
use Rattle.lx_sheet.specs.declared.operands.Reading.{Reading}

abbrev pub tree_of : Operand → tree.VExpr
tree_of (Literal l) = tree.Literal l.bits l.signed l.value
tree_of (Net name) = tree.Net name

-- an expression with its shape
pub record IsReading (p : Plan) (k : ℕ) (r : Reading) : Type 0 where
  pub text : tree_of r.operand ≡ operand_in p k
  pub shape : r.shape ≡ node_shape p.design k
