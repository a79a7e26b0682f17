-- A module that has a cycle meaning settles in exactly one way.
use Rattle.std.specs.Prelude.{◌≡◌, ℕ, List}
use Rattle.lx_vtext.specs.Tree.{Name, VModule}
use Rattle.lx_vmeaning.specs.Meaning.{Valuation}
use Rattle.lx_vmeaning.specs.Runs.{VStep, IsVSettled, IsVView}
use Rattle.lx_vmeaning.specs.Cycle.{HasCycleMeaning}

-- two valuations are the same on every net and word
pub record IsSame (v u : Valuation) : Type 0 where
  pub nets : (n : Name) → v.nets n ≡ u.nets n
  pub words : (n : Name) (k : ℕ) → v.words n k ≡ u.words n k

-- settled patterns, and no others
pub record VSettlesOnce (m : VModule) (state : Valuation) (inputs : Name → ℕ) : Type 0 where
  pub values : Valuation
  pub settled : IsVSettled m state inputs values
  pub only : (v : Valuation) → IsVSettled m state inputs v → IsSame v values

-- Each module with a cycle meaning has exactly one settled valuation, whatever the state and the inputs.
abbrev pub IsVSettlingLaw : Type 0
IsVSettlingLaw = (m : VModule) → HasCycleMeaning m → (state : Valuation) (inputs : Name → ℕ) → VSettlesOnce m state inputs

-- a view, and no other
pub record VViewedOnce (m : VModule) (steps : List VStep) (inputs : Name → ℕ) : Type 0 where
  pub values : Valuation
  pub view : IsVView m steps inputs values
  pub only : (v : Valuation) → IsVView m steps inputs v → IsSame v values

-- So it has exactly one view after every list of steps.
abbrev pub IsVViewLaw : Type 0
IsVViewLaw = (m : VModule) → HasCycleMeaning m → (steps : List VStep) (inputs : Name → ℕ) → VViewedOnce m steps inputs
