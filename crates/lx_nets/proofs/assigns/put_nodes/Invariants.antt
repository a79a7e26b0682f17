use Rattle.lx_emission.specs.Emission.{node_assign}
use Rattle.lx_nets.specs.Lines.{PutAssigns}
use Rattle.lx_sheet.proofs.Lines.{pieces}
use Rattle.lx_nets.proofs.assigns.put_nodes.Given as goal

abbrev pub invariant-loop-place : goal.invariant-loop-place
invariant-loop-place l = PutAssigns l.initial.nodes l.nodes l.initial.assigns l.assigns (pieces (node_assign l.sheet.design l.sheet.names) l.sheet.design.exprs l.place)
