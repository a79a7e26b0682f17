use Rattle.lx_drives.proofs.Owners.{idle_clocked}
use Rattle.lx_drives.proofs.drives.drives.Goals as goal

pub drive_all-requires : goal.drive_all-requires
drive_all-requires c = record { idle = rw (← c.lowered.view_is) (rw c.as_mut_slice.ensures.value (idle_clocked _ _ c.in_ok-drives.ensures)) }
