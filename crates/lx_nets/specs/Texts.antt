-- Expressions that are put among nodes.
use Rattle.std.specs.Prelude.{◌≡◌, List, length, IsTrue}
use Rattle.lx_tables.specs.Operators.{mix_of, row_of}
use Rattle.lx_tables.specs.declared.operators.Op.{Op}
use Rattle.lx_tables.specs.declared.operators.Op.TheVariants as op
use Rattle.lx_vtree.specs.Below.{Ref, are_below}
use Rattle.lx_vtree.specs.NodeLists.{NodeLists, expr_tree}
use Rattle.lx_vtree.specs.Trees.{plants}
use Rattle.lx_vtree.specs.Growth.{GrowsExprs}
use Rattle.lx_emission.specs.Nodes.{unary_text, binary_text, choice_text}
use Rattle.lx_sheet.specs.Operands.{tree_of}
use Rattle.lx_sheet.specs.declared.operands.Operand.{Operand}
use Rattle.lx_sheet.specs.declared.operands.Reading.{Reading}
use Rattle.lx_vtext.specs.Tree as tree

-- an operator of one operand, of two, and a choice between two
abbrev pub unary_in : Op → Reading → tree.VExpr
unary_in f a = unary_text (row_of f (mix_of a.shape.signed a.shape.signed)) (tree_of a.operand)

abbrev pub binary_in : Op → Reading → Reading → tree.VExpr
binary_in f a b = binary_text (row_of f (mix_of a.shape.signed b.shape.signed)) (tree_of a.operand) (tree_of b.operand)

abbrev pub choice_in : Operand → Reading → Reading → tree.VExpr
choice_in c a b = choice_text (row_of op.Mux (mix_of a.shape.signed b.shape.signed)) (tree_of c) (tree_of a.operand) (tree_of b.operand)

-- expressions more, with the trees that hang at these places
pub record PutParts (old new : NodeLists) (ids : List Ref) (t : tree.VExprs) : Type 0 where
  pub grows : GrowsExprs old new
  pub within : IsTrue (are_below ids (length new.exprs))
  pub trees : plants (expr_tree new) ids ≡ t
