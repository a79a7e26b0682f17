use Rattle.std.proofs.Common.{◌≡◌, ◌++◌, drop}
use Rattle.lx_faults.specs.FaultLine.{blank_names}
use Rattle.lx_faults.proofs.put_names.Given as goal

abbrev pub invariant-loop-name : goal.invariant-loop-name
invariant-loop-name l = l.text ++ blank_names (drop l.name-index l.names) ≡ l.initial.text ++ blank_names l.names
