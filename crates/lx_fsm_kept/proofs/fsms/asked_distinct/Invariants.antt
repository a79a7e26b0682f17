use Rattle.std.proofs.Common.{◌≡◌, drop}
use Rattle.lx_fhdl.specs.Keeping.{is_distinct}
use Rattle.lx_fsm_kept.specs.Names.{asked_names}
use Rattle.lx_fsm_kept.proofs.fsms.asked_distinct.Given as goal

abbrev pub invariant-loop-place : goal.invariant-loop-place
invariant-loop-place l = is_distinct (asked_names l.all) ≡ is_distinct (asked_names (drop l.place l.all))
