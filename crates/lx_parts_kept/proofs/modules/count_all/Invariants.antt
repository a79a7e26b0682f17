use Rattle.std.proofs.Common.{length, take}
use Rattle.lx_parts_kept.specs.Tables.{AreCounts}
use Rattle.lx_parts_kept.proofs.modules.count_all.Given as goal

abbrev pub invariant-loop-number : goal.invariant-loop-number
invariant-loop-number l = AreCounts (length l.initial.counts) (take l.number-index l.numbers) l.counts
