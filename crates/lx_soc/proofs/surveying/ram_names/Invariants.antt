use Rattle.std.proofs.Common.{◌≡◌, take}
use Rattle.std.specs.Prelude.{flat_map}
use Rattle.lx_soc.specs.Surveyed.{ram_name}
use Rattle.lx_soc.proofs.surveying.ram_names.Given as goal

abbrev pub invariant-loop-slave : goal.invariant-loop-slave
invariant-loop-slave l = l.names ≡ flat_map ram_name (take l.slave-index l.slaves)
