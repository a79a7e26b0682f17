use Rattle.std.proofs.Common.{◌≡◌, drop}
use Rattle.std.specs.List.{list_any}
use Rattle.std.specs.Str.{bytes_eq}
use Rattle.lx_fsm_kept.specs.Names.{state_names}
use Rattle.lx_fsm_kept.proofs.fsms.is_state.Given as goal

abbrev pub invariant-loop-state : goal.invariant-loop-state
invariant-loop-state l = list_any (bytes_eq l.name) (state_names l.states) ≡ list_any (bytes_eq l.name) (state_names (drop l.state-index l.states))
