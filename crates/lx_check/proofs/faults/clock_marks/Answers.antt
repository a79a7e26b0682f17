use Rattle.std.proofs.Common.{List, length, subst}
use Rattle.lx_reads.specs.Drivings.{Driving}
use Rattle.lx_check.specs.Marks.{AreMarks}
use Rattle.lx_check.proofs.faults.clock_marks.Goals as goal

pub marks-requires : goal.marks-requires
marks-requires c = rw (c.as_slice.ensures, c.len.ensures) c.in_ok-writings.ensures.below

pub returns : goal.returns
returns c =
    subst (λ (all : List Driving). AreMarks (length c.args.design.now.memories) all c.in_ok-marks.marks.items) c.in_ok-writings.ensures.same (rw (c.as_slice.ensures, c.len.ensures) at c.in_ok-marks.ensures)
