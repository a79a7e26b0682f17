use Rattle.std.proofs.Common.{◌≡◌, drop}
use Rattle.std.specs.List.{list_all}
use Rattle.lx_description.specs.Kept.{is_body}
use Rattle.lx_fsm_kept.proofs.fsms.are_bodies.Given as goal

abbrev pub invariant-loop-state : goal.invariant-loop-state
invariant-loop-state l = list_all (is_body l.description) (drop l.state-index l.states) ≡ list_all (is_body l.description) l.states
