use Rattle.std.proofs.Common.{◌≡◌, drop}
use Rattle.std.specs.List.{list_all}
use Rattle.std.proofs.Common.{not}
use Rattle.lx_fhdl.specs.Nodes.{is_fetch}
use Rattle.lx_fhdl.specs.declared.exprs.Expr.{Expr}
use Rattle.lx_parts_kept.proofs.kept.no_fetch.Given as goal

abbrev pub invariant-loop-node : goal.invariant-loop-node
invariant-loop-node l = list_all (λ (x : Expr). not (is_fetch x)) (drop l.node-index l.nodes) ≡ list_all (λ (x : Expr). not (is_fetch x)) l.nodes
