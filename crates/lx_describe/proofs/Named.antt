-- Paths of signals.
use Rattle.std.proofs.Common.{◌≡◌, refl, ℕ, List, [], ◌∷◌}
use Rattle.lx_fhdl.specs.declared.design.Signal.{Signal}
use Rattle.lx_describe.specs.Signals.{with_path}

-- what is nobody's keeps its path
pub own_path : (path own : List (List ℕ)) (s : Signal) → path ≡ [] → own ≡ s.path → record s { path = own } ≡ with_path path s
own_path [] own s e f = rw f refl
own_path (w ∷ ws) own s e f = cc

pub given_path : (path : List (List ℕ)) (s : Signal) → (path ≡ [] → ⊥) → record s { path = path } ≡ with_path path s
given_path [] s h = absurd (h refl)
given_path (w ∷ ws) s h = refl
