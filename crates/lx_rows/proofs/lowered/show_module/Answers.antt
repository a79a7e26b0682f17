use Rattle.lx_rows.proofs.Forms.{forms_can}
use Rattle.lx_rows.proofs.lowered.show_module.Goals as goal

pub write_module-requires : goal.write_module-requires
write_module-requires c = forms_can _ _ c.requires c.in_ok-names.ensures
