use Rattle.std.proofs.Common.{◌∙◌, arith}
use Rattle.lx_emission.proofs.Blocks.{sync_below, sync_plain}
use Rattle.lx_drives.proofs.Owners.{clocked_next, none_earlier}
use Rattle.lx_drives.proofs.drives.fill_domains.Goals as goal

pub fill-requires-clause-there : goal.fill-requires-clause-there
fill-requires-clause-there c = rw (← c.lowered.view_is) (rw (c.as_slice.ensures, c.in_ok-stmts.ensures) (sync_below c.lowered.inside.design.now _ _ c.lowered.invariant.keeps.sync))

pub fill-requires-clause-plain : goal.fill-requires-clause-plain
fill-requires-clause-plain c = rw (← c.lowered.view_is) (rw (c.as_slice.ensures, c.in_ok-stmts.ensures) (sync_plain c.lowered.inside.design.now _ _ c.lowered.invariant.lowered.sync))

pub fill-requires-clause-none : goal.fill-requires-clause-none
fill-requires-clause-none c = none_earlier _ _ _ _ (omega arith) c.loop-k.invariant

pub loop-k-preserved : goal.loop-k-preserved
loop-k-preserved c = rw (← c.lowered.view_is) (clocked_next _ _ _ _ _ (omega arith) (omega arith) (c.as_slice.ensures ∙ c.in_ok-stmts.ensures) (rw (← c.lowered.view_is) at c.loop-k.invariant) (rw (← c.lowered.view_is) at c.in_ok-fill.ensures))
