use Rattle.lx_rows.proofs.Forms.{forms_keeps}
use Rattle.lx_rows.proofs.lowered.show_lines.Goals as goal

pub lower-requires : goal.lower-requires
lower-requires c = forms_keeps _ c.requires
