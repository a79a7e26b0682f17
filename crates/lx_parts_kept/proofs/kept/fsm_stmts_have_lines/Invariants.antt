use Rattle.std.proofs.Common.{◌≡◌, drop}
use Rattle.std.specs.List.{list_all}
use Rattle.std.proofs.Common.{nat_le}
use Rattle.lx_description.specs.declared.fsms.FsmStmt.{FsmStmt}
use Rattle.lx_description.specs.Keeping.{fsm_line}
use Rattle.lx_parts_kept.proofs.kept.fsm_stmts_have_lines.Given as goal

abbrev pub invariant-loop-node : goal.invariant-loop-node
invariant-loop-node l = list_all (λ (s : FsmStmt). nat_le 1 (fsm_line s)) (drop l.node-index l.nodes) ≡ list_all (λ (s : FsmStmt). nat_le 1 (fsm_line s)) l.nodes
