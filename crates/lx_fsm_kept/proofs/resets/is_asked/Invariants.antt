use Rattle.std.proofs.Common.{◌≡◌, drop, nat_eq}
use Rattle.std.specs.List.{list_any}
use Rattle.lx_description.specs.declared.fsms.Asked.{Asked}
use Rattle.lx_fsm_kept.proofs.resets.is_asked.Given as goal

abbrev pub invariant-loop-asked : goal.invariant-loop-asked
invariant-loop-asked l = list_any (λ (a : Asked). nat_eq a.signal.0 l.x.0) (drop l.asked-index l.all) ≡ list_any (λ (a : Asked). nat_eq a.signal.0 l.x.0) l.all
