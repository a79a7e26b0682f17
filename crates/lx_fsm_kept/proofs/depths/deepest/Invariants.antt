use Rattle.std.proofs.Common.{◌≡◌, drop, length, max, IsTrue}
use Rattle.lx_description.specs.Below.{all_fsm_below}
use Rattle.lx_fsm_kept.specs.Depths.{deepest}
use Rattle.lx_fsm_kept.proofs.depths.deepest.Given as goal

abbrev pub invariant-loop-id : goal.invariant-loop-id
invariant-loop-id l = record { rest : max l.deep (deepest l.depths (drop l.id-index l.ids)) ≡ deepest l.depths l.ids; lower : IsTrue (all_fsm_below (length l.depths) (drop l.id-index l.ids)) }
