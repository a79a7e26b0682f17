use Rattle.std.proofs.Common.{◌≡◌, drop, length, max, IsTrue}
use Rattle.lx_fhdl.specs.Below.{all_targets_below}
use Rattle.lx_fsm_kept.specs.Depths.{deepest_target}
use Rattle.lx_fsm_kept.proofs.depths.deepest_target.Given as goal

abbrev pub invariant-loop-id : goal.invariant-loop-id
invariant-loop-id l = record { rest : max l.deep (deepest_target l.depths (drop l.id-index l.ids)) ≡ deepest_target l.depths l.ids; lower : IsTrue (all_targets_below (length l.depths) (drop l.id-index l.ids)) }
