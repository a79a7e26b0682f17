use Rattle.std.proofs.Common.{◌≡◌}
use Rattle.lx_width.proofs.Shaped.{ShapesTo}
use Rattle.lx_width.proofs.shapes.expr_shapes.Given as goal

abbrev pub invariant-loop-node : goal.invariant-loop-node
invariant-loop-node l = record { items : l.node-items ≡ l.design.exprs; shapes : ShapesTo l.design l.node-index l.shapes }
