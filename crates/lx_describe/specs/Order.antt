-- The modules of a description: the top, and each other behind the one that it was added to.
use Rattle.std.specs.Prelude.{ℕ, zero, suc, true, List, [], ◌∷◌, ◌++◌}
use Rattle.lx_state.specs.declared.machine.Machine.{Machine}
use Rattle.lx_state.specs.declared.machine.Submodule.{Submodule}
use Rattle.lx_describe.specs.Submodules.{submodules}

unfoldable pub all_ordered : (Submodule → List Submodule) → List Submodule → List Submodule
all_ordered f [] = []
all_ordered f (x ∷ xs) = f x ++ all_ordered f xs

-- a module, then its submodules, each followed by its own, within so many levels
unfoldable pub ordered : Machine → ℕ → Submodule → List Submodule
ordered m zero x = []
ordered m (suc levels) x = x ∷ all_ordered (ordered m levels) (submodules m x.place)

-- no chain of modules is longer than 64
abbrev pub in_order : Machine → ℕ → List Submodule
in_order m top = ordered m 64 (record { place = top; named = true })
