use Rattle.std.proofs.Common.{◌≡◌, [], take}
use Rattle.std.specs.Prelude.{flat_map}
use Rattle.lx_alloc.specs.Numbers.{range_faults}
use Rattle.lx_alloc.proofs.numbers.check_ranges.Given as goal

abbrev pub invariant-loop-fix : goal.invariant-loop-fix
invariant-loop-fix l = flat_map (range_faults l.counted) (take l.fix-index l.fixes) ≡ []
