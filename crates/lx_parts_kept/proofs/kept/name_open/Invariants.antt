use Rattle.std.proofs.Common.{◌≡◌, drop}
use Rattle.std.specs.List.{list_all}
use Rattle.lx_parts_kept.specs.Parts.{names_open}
use Rattle.lx_parts_kept.proofs.kept.name_open.Given as goal

abbrev pub invariant-loop-node : goal.invariant-loop-node
invariant-loop-node l = list_all (names_open l.description) (drop l.node-index l.nodes) ≡ list_all (names_open l.description) l.nodes
