use Rattle.std.proofs.Common.{◌≡◌, ◌++◌, drop}
use Rattle.lx_objects.specs.Modules.{sync_items}
use Rattle.lx_objects.proofs.modules.push_sync.Given as goal

abbrev pub invariant-loop-at : goal.invariant-loop-at
invariant-loop-at l = l.into ++ sync_items l.domain (drop l.at-index l.made) ≡ l.initial.into ++ sync_items l.domain l.made
