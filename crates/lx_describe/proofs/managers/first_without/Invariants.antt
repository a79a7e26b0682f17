use Rattle.std.proofs.Common.{◌≡◌, drop}
use Rattle.std.specs.List.{find}
use Rattle.lx_describe.specs.Managers.{has_no_source}
use Rattle.lx_describe.proofs.managers.first_without.Given as goal

abbrev pub invariant-loop-manager : goal.invariant-loop-manager
invariant-loop-manager l = find has_no_source (drop l.manager-index l.machine.managers) ≡ find has_no_source l.machine.managers
