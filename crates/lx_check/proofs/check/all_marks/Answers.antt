use Rattle.std.proofs.Common.{List, length, subst}
use Rattle.lx_reads.specs.Drivings.{Driving}
use Rattle.lx_check.specs.Marks.{AreMarks}
use Rattle.lx_check.proofs.Checking.{all_driven, driven_below}
use Rattle.lx_check.proofs.check.all_marks.Goals as goal

pub put_domains-requires : goal.put_domains-requires
put_domains-requires c = c.requires.stands

pub marks-requires : goal.marks-requires
marks-requires c = rw (c.as_slice.ensures, c.len.ensures) (driven_below _ _ c.in_ok-put_domains.ensures.stands)

pub returns : goal.returns
returns c =
    subst (λ (all : List Driving). AreMarks (length c.args.design.now.signals) all c.in_ok-marks.marks.items) (all_driven _ _ _ c.requires c.in_ok-put_domains.ensures) (rw (c.as_slice.ensures, c.len.ensures) at c.in_ok-marks.ensures)
