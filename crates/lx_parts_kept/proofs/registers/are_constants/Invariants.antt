use Rattle.std.proofs.Common.{◌≡◌, drop}
use Rattle.std.specs.List.{list_all}
use Rattle.lx_description.specs.Kept.{is_constant}
use Rattle.lx_parts_kept.proofs.registers.are_constants.Given as goal

abbrev pub invariant-loop-constant : goal.invariant-loop-constant
invariant-loop-constant l = list_all is_constant (drop l.constant-index l.constants) ≡ list_all is_constant l.constants
