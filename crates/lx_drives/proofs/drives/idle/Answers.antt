use Rattle.std.proofs.Common.{ap, ◌∙◌}
use Rattle.lx_drives.specs.Drives.{idle_drive}
use Rattle.lx_drives.proofs.Owners.{idle_more}
use Rattle.lx_drives.proofs.drives.idle.Goals as goal

pub loop-x-preserved : goal.loop-x-preserved
loop-x-preserved c = rw c.in_ok-push.ensures.items (idle_more _ _ _ _ _ _ _ c.requires c.loop-x.invariant c.at-signal.ensures (c.idle_drive.ensures ∙ ap idle_drive c.is_input.ensures))
