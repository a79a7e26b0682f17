use Rattle.std.proofs.Common.{◌≡◌, drop, length, IsTrue}
use Rattle.lx_fhdl.specs.Below.{all_targets_below}
use Rattle.lx_kept.specs.Drivers.{some_target_marked}
use Rattle.lx_kept.proofs.drivers.some_target_marked.Given as goal

abbrev pub invariant-loop-id : goal.invariant-loop-id
invariant-loop-id l = record { rest : some_target_marked l.marks (drop l.id-index l.ids) ≡ some_target_marked l.marks l.ids; lower : IsTrue (all_targets_below (length l.marks) (drop l.id-index l.ids)) }
