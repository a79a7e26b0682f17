use Rattle.std.proofs.Common.{◌≡◌, take}
use Rattle.std.specs.List.{list_any}
use Rattle.lx_reads.specs.Net.{driven_reads}
use Rattle.lx_check.specs.Graphs.{HasReads}
use Rattle.lx_check.proofs.graph.add_driven.Given as goal

abbrev pub invariant-loop-one : goal.invariant-loop-one
invariant-loop-one l = (l.one-items ≡ l.net.driven) × HasReads l.design l.net.rows (λ x y. list_any (driven_reads l.design l.net x y) (take l.one-index l.one-items)) l.graph
