use Rattle.std.proofs.Common.{◌≡◌, drop}
use Rattle.std.specs.List.{list_all}
use Rattle.lx_builtins.specs.Exprs.{is_operand}
use Rattle.lx_builtins.proofs.exprs.are_operands.Given as goal

abbrev pub invariant-loop-value : goal.invariant-loop-value
invariant-loop-value l = list_all is_operand l.values ≡ list_all is_operand (drop l.value-index l.values)
