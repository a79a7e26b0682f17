-- The shape of a signal of a design.
use Rattle.std.proofs.Common.{◌≡◌, ℕ, zero, suc, List, [], ◌∷◌, sym, ap}
use Rattle.std.specs.Prelude.{Some, map, slice_get, slice_index_or}
use Rattle.lx_circuit.specs.Circuit.{Made, nothing}
use Rattle.lx_fhdl.specs.Designs.{circuit_of, made_of, shapes}
use Rattle.lx_fhdl.specs.declared.design.Design.{Design}
use Rattle.lx_fhdl.specs.declared.design.Signal.{Signal}

made_at : (ss : List Signal) (x : ℕ) (s : Signal) → slice_get ss x ≡ Some s → made_of s ≡ slice_index_or (map made_of ss) x nothing
made_at [] x s e = absurd (cc)
made_at (r ∷ rs) zero s e = let same : r ≡ s = cc in ap made_of (sym same)
made_at (r ∷ rs) (suc x) s e = made_at rs x s e

pub signal_shape_is : (d : Design) (x : ℕ) (s : Signal) → slice_get d.signals x ≡ Some s → s.shape ≡ shapes d x
unfolding circuit_of
signal_shape_is d x s e = ap (λ (m : Made). m.shape) (made_at d.signals x s e)
