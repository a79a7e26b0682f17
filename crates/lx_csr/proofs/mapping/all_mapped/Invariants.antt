use Rattle.std.proofs.Common.{◌≡◌}
use Rattle.std.specs.Prelude.{flat_map}
use Rattle.std.specs.List.{range_with_len}
use Rattle.lx_csr.specs.Mapped.{numbered}
use Rattle.lx_csr.proofs.mapping.all_mapped.Given as goal

abbrev pub invariant-loop-number : goal.invariant-loop-number
invariant-loop-number l = l.list ≡ flat_map (numbered l.base l.given l.banks) (range_with_len 0 l.number)
