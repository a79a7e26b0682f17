use Rattle.std.proofs.Common.{drop}
use Rattle.lx_vtext.specs.Tree as tree
use Rattle.lx_emission.specs.Nodes.{operand, parts_onto}
use Rattle.lx_nets.specs.Texts.{PutParts}
use Rattle.lx_nets.proofs.exprs.put_parts.Given as goal

abbrev pub invariant-loop-place : goal.invariant-loop-place
invariant-loop-place l = PutParts l.initial.nodes l.nodes l.texts (parts_onto (operand l.sheet.design l.sheet.names) (drop l.place l.parts) tree.NoMore)
