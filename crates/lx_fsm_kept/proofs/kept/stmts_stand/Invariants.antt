use Rattle.std.proofs.Common.{◌≡◌, drop}
use Rattle.std.specs.List.{list_all}
use Rattle.lx_description.specs.Kept.{fsm_stmt_stands}
use Rattle.lx_fsm_kept.proofs.kept.stmts_stand.Given as goal

abbrev pub invariant-loop-node : goal.invariant-loop-node
invariant-loop-node l = list_all (fsm_stmt_stands l.exprs l.targets) (drop l.node-index l.nodes) ≡ list_all (fsm_stmt_stands l.exprs l.targets) l.nodes
