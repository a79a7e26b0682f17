use Rattle.std.proofs.Common.{◌≡◌, drop}
use Rattle.std.specs.List.{list_all}
use Rattle.std.proofs.Common.{nat_le}
use Rattle.lx_fhdl.specs.declared.stmts.Stmt.{Stmt}
use Rattle.lx_description.specs.Keeping.{line_of}
use Rattle.lx_parts_kept.proofs.kept.stmts_have_lines.Given as goal

abbrev pub invariant-loop-node : goal.invariant-loop-node
invariant-loop-node l = list_all (λ (s : Stmt). nat_le 1 (line_of s)) (drop l.node-index l.nodes) ≡ list_all (λ (s : Stmt). nat_le 1 (line_of s)) l.nodes
