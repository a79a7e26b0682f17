use Rattle.std.proofs.Common.{◌≡◌, drop}
use Rattle.std.specs.Prelude.{map}
use Rattle.lx_circuit.specs.Circuit.{is_among}
use Rattle.lx_fhdl.specs.Designs.{signal_number}
use Rattle.lx_kept.proofs.drivers.is_among.Given as goal

abbrev pub invariant-loop-id : goal.invariant-loop-id
invariant-loop-id l = is_among l.x.0 (map signal_number (drop l.id-index l.ids)) ≡ is_among l.x.0 (map signal_number l.ids)
