use Rattle.std.proofs.Common.{length, map, take}
use Rattle.lx_reads.specs.Net.{driving_of}
use Rattle.lx_check.specs.Marks.{AreMarks}
use Rattle.lx_check.proofs.marks.mark_all.Given as goal

abbrev pub invariant-loop-one : goal.invariant-loop-one
invariant-loop-one l = AreMarks (length l.initial.marks) (map driving_of (take l.one-index l.driven)) l.marks
