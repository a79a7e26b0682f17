use Rattle.std.proofs.Common.{◌≡◌, drop}
use Rattle.std.specs.List.{list_all}
use Rattle.lx_description.specs.Kept.{is_fsm}
use Rattle.lx_fsm_kept.proofs.fsms.are_fsms.Given as goal

abbrev pub invariant-loop-fsm : goal.invariant-loop-fsm
invariant-loop-fsm l = list_all (is_fsm l.description) (drop l.fsm-index l.fsms) ≡ list_all (is_fsm l.description) l.fsms
