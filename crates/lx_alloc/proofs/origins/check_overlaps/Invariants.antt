use Rattle.std.proofs.Common.{◌≡◌, [], take}
use Rattle.lx_alloc.specs.Judged.{each_pair}
use Rattle.lx_alloc.specs.Places.{overlap_faults}
use Rattle.lx_alloc.proofs.origins.check_overlaps.Given as goal

abbrev pub invariant-loop-i : goal.invariant-loop-i
invariant-loop-i l = each_pair overlap_faults [] (take l.i l.wishes) ≡ []
