use Rattle.std.proofs.Common.{◌≡◌, drop}
use Rattle.lx_fhdl.specs.Keeping.{is_distinct}
use Rattle.lx_fsm_kept.specs.Names.{state_names}
use Rattle.lx_fsm_kept.proofs.fsms.states_distinct.Given as goal

abbrev pub invariant-loop-place : goal.invariant-loop-place
invariant-loop-place l = is_distinct (state_names l.states) ≡ is_distinct (state_names (drop l.place l.states))
