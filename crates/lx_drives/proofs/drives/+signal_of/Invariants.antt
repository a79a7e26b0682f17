use Rattle.lx_drives.proofs.drives.+signal_of.Given as goal

abbrev pub decreases-signal_of : goal.decreases-signal_of
decreases-signal_of l = l.id.place
