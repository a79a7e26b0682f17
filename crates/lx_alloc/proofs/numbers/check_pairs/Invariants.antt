use Rattle.std.proofs.Common.{◌≡◌, [], take}
use Rattle.lx_alloc.specs.Judged.{each_pair}
use Rattle.lx_alloc.specs.Numbers.{taken_faults}
use Rattle.lx_alloc.proofs.numbers.check_pairs.Given as goal

abbrev pub invariant-loop-i : goal.invariant-loop-i
invariant-loop-i l = each_pair (taken_faults l.counted) [] (take l.i l.fixes) ≡ []
