use Rattle.lx_drives.proofs.Marked.{marks_are}
use Rattle.lx_drives.proofs.marks.mark_all.Goals as goal

pub returns : goal.returns
returns c = marks_are _ _ c.mark_resets.ensures
