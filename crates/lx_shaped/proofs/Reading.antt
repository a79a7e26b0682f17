-- The shape and the fault of a node, from the shapes that are kept of its operands.
use Rattle.std.proofs.Common.{◌≡◌, true, List, length, refl, sym, ap, ◌∙◌}
use Rattle.std.specs.Prelude.{Option, Some, None}
use Rattle.lx_num.specs.declared.Shape.{Shape}
use Rattle.lx_circuit.specs.declared.WidthFault.{WidthFault}
use Rattle.lx_circuit.specs.Shapes.{fault_of}
use Rattle.lx_fhdl.specs.Below.{expr_below}
use Rattle.lx_fhdl.specs.Designs as design
use Rattle.lx_fhdl.specs.Designs.{shapes}
use Rattle.lx_fhdl.specs.Drafts.{DraftKeeps}
use Rattle.lx_fhdl.specs.Nodes.{EachChild, node_shape, node_fault}
use Rattle.lx_fhdl.specs.Trees.{node_term}
use Rattle.lx_fhdl.specs.declared.design.Design.{Design}
use Rattle.lx_fhdl.specs.declared.exprs.Expr.{Expr}
use Rattle.lx_fhdl.proofs.Arena.{each_child}
use Rattle.lx_width.specs.Shapes.{AreShapes}
use Rattle.lx_width.specs.Width.{node_result, shaped, signal_shape}
use Rattle.lx_width.proofs.Shaped.{Known, fault_is, made_shape}
use Rattle.lx_shaped.specs.Making.{expr_fault, expr_shape, unless}

shaped_is : (f : Option WidthFault) (a : Shape) → shaped f a ≡ unless f a
shaped_is None a = refl
shaped_is (Some g) a = refl

-- what is found of a node is what its tree has
pub node_is : (d : Design) (hs : List Shape) (x : Expr) → DraftKeeps d → AreShapes d hs → expr_below x (length d.exprs) ≡ true → node_result d.signals hs x ≡ unless (expr_fault x d) (expr_shape x d)
node_is d hs x keep h below =
    let s = shapes d in
    let t = design.term d in
    let known : EachChild (Known s t hs) x = each_child (Known s t hs) (length d.exprs) x (λ k l. record { shape = sym (h.each k l); sound = keep.arenas.shaped k l }) below in
    shaped_is (node_fault hs x) (node_shape (signal_shape d.signals) hs x)
    ∙ ap (λ (f : Option WidthFault). unless f (node_shape (signal_shape d.signals) hs x)) (sym (fault_is s t hs x known))
    ∙ ap (λ (a : Shape). unless (fault_of s (node_term t x)) a) (made_shape d t hs x known)
