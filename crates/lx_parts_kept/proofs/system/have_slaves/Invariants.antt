use Rattle.std.proofs.Common.{◌≡◌, drop}
use Rattle.lx_description.specs.Kept.{have_slaves}
use Rattle.lx_parts_kept.proofs.system.have_slaves.Given as goal

abbrev pub invariant-loop-region : goal.invariant-loop-region
invariant-loop-region l = have_slaves l.signals (drop l.region-index l.regions) l.rest ≡ have_slaves l.signals l.regions l.slaves
