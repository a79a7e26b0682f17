use Rattle.std.proofs.Common.{◌≡◌, ◌++◌, drop, map}
use Rattle.lx_description.specs.declared.fsms.Asked.{Asked}
use Rattle.lx_parts_kept.proofs.places.add_asked.Given as goal

abbrev pub invariant-loop-one : goal.invariant-loop-one
invariant-loop-one l = l.all ++ map (λ (a : Asked). a.signal.0) (drop l.one-index l.asked) ≡ l.initial.all ++ map (λ (a : Asked). a.signal.0) l.asked
