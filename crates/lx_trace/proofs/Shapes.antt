-- The shape of a signal, as the circuit has it.
use Rattle.std.proofs.Common.{◌≡◌, ℕ, zero, suc, List, [], ◌∷◌, map, ap}
use Rattle.std.specs.Prelude.{Some, slice_get, slice_index_or}
use Rattle.lx_circuit.specs.Circuit.{Made, nothing}
use Rattle.lx_fhdl.specs.Designs.{circuit_of, made_of, shapes}
use Rattle.lx_fhdl.specs.declared.design.Signal.{Signal}
use Rattle.lx_fhdl.specs.declared.design.Design.{Design}

made_at : (ss : List Signal) (x : ℕ) (s : Signal) → slice_get ss x ≡ Some s → slice_index_or (map made_of ss) x nothing ≡ made_of s
made_at [] x s e = absurd cc
made_at (t ∷ ts) zero s e = let same : t ≡ s = cc in ap made_of same
made_at (t ∷ ts) (suc x) s e = made_at ts x s e

pub shape_is : (d : Design) (x : ℕ) (s : Signal) → slice_get d.signals x ≡ Some s → shapes d x ≡ s.shape
unfolding circuit_of
shape_is d x s e = ap (λ (m : Made). m.shape) (made_at d.signals x s e)
