-- Which signals are marked.
use Rattle.std.specs.Prelude.{◌≡◌, ℕ, Bool, false, ◌||◌, ◌<◌, List, [], ◌∷◌, ◌++◌, Option, Some, None, length, map, slice_index_or}
use Rattle.std.specs.List.{flat_map}
use Rattle.lx_circuit.specs.Circuit.{is_among}
use Rattle.lx_fhdl.specs.Designs.{signal_number}
use Rattle.lx_fhdl.specs.declared.exprs.SigId.{SigId}
use Rattle.lx_fhdl.specs.declared.design.Domain.{Domain}
use Rattle.lx_fhdl.specs.declared.design.Design.{Design}

abbrev pub is_marked : List Bool → ℕ → Bool
is_marked marks x = slice_index_or marks x false

-- of n signals these are marked
pub record AreMarked (n : ℕ) (xs : List ℕ) (marks : List Bool) : Type 0 where
  pub long : length marks ≡ n
  pub each : (k : ℕ) → k < n → is_marked marks k ≡ is_among k xs

-- these are marked besides
pub record AreMarkedToo (old new : List Bool) (xs : List ℕ) : Type 0 where
  pub long : length new ≡ length old
  pub each : (k : ℕ) → k < length old → is_marked new k ≡ (is_marked old k || is_among k xs)

abbrev pub reset_numbers : Option SigId → List ℕ
reset_numbers None = []
reset_numbers (Some r) = r.0 ∷ []

abbrev pub resets_of : List Domain → List ℕ
resets_of xs = flat_map (λ (x : Domain). reset_numbers x.reset) xs

-- the ports, and the resets of the domains
abbrev pub ports_and_resets : Design → List ℕ
ports_and_resets d = map signal_number d.ios ++ resets_of d.domains
