use Rattle.lx_drives.proofs.Owners.{all_there, drives_are, none_combined}
use Rattle.lx_drives.proofs.drives.drive_all.Goals as goal

pub fill-requires-clause-none : goal.fill-requires-clause-none
fill-requires-clause-none c = none_combined _ _ _ c.in_ok-fill_domains.ensures

pub close-requires : goal.close-requires
close-requires c =
    record {
      there = rw (← c.lowered.view_is) (all_there _ _ _ c.lowered.invariant.keeps (rw (← c.lowered.view_is) at c.in_ok-fill_domains.ensures) (rw c.as_slice.ensures at (rw (← c.lowered.view_is) at c.in_ok-fill.ensures)));
    }

pub returns : goal.returns
returns c =
    rw (← c.lowered.view_is)
    (drives_are _ _ _ _ c.lowered.invariant.memories (rw (← c.lowered.view_is) at c.in_ok-fill_domains.ensures) (rw c.as_slice.ensures at (rw (← c.lowered.view_is) at c.in_ok-fill.ensures)) (rw (← c.lowered.view_is) at c.close.ensures))
