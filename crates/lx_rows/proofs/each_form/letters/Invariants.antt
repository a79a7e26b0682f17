use Rattle.std.proofs.Common.{◌≡◌, take, map, ◌∷◌, []}
use Rattle.lx_rows.proofs.each_form.letters.Given as goal

abbrev pub invariant-loop-name : goal.invariant-loop-name
invariant-loop-name l = l.words ≡ map (λ name. name ∷ []) (take l.name-index l.names)
