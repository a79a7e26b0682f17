use Rattle.std.proofs.Common.{◌≡◌, None}
use Rattle.lx_check.specs.Faults.{first_of, storage_driven}
use Rattle.lx_check.proofs.faults.first_storage.Given as goal

abbrev pub invariant-loop-x : goal.invariant-loop-x
invariant-loop-x l = first_of (storage_driven l.design) l.x ≡ None
