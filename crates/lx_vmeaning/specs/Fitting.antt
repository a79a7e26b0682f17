-- Patterns fit: nets and words are below 2 to their declared bits, and an expression's bits below 2 to its context.
use Rattle.std.specs.Prelude.{◌≡◌, ℕ, Bool, true, List, ◌<◌, ◌≤◌, ◌^◌}
use Rattle.lx_vtext.specs.Tree.{Name, VExpr, VModule}
use Rattle.lx_vtext.specs.Fits.{IsExpr}
use Rattle.lx_vmeaning.specs.Meaning.{Sizes, Valuation, meaning}
use Rattle.lx_vmeaning.specs.Runs.{sizes, VStep, IsVView}
use Rattle.lx_vmeaning.specs.Naming.{is_input}
use Rattle.lx_vmeaning.specs.Widths.{own_width}
use Rattle.lx_vmeaning.specs.Loops.{reads}
use Rattle.lx_vmeaning.specs.Cycle.{HasCycleMeaning}

-- all words, and the nets where a test holds
pub record PatternsFit (d : Sizes) (v : Valuation) (test : Name → Bool) : Type 0 where
  pub nets : (n : Name) → test n ≡ true → v.nets n < 2 ^ (d n).bits
  pub words : (n : Name) (k : ℕ) → v.words n k < 2 ^ (d n).bits

-- all words, and each net that is no input, or an input whose pattern fits
pub record NetsFit (m : VModule) (inputs : Name → ℕ) (v : Valuation) : Type 0 where
  pub nets : (n : Name) → (is_input n m.ports ≡ true → inputs n < 2 ^ (sizes m n).bits) → v.nets n < 2 ^ (sizes m n).bits
  pub words : (n : Name) (k : ℕ) → v.words n k < 2 ^ (sizes m n).bits

-- They fit in every view of a module that has a cycle meaning.
abbrev pub IsVFittingLaw : Type 0
IsVFittingLaw = (m : VModule) → HasCycleMeaning m → (steps : List VStep) (inputs : Name → ℕ) (v : Valuation) → IsVView m steps inputs v → NetsFit m inputs v

-- Where the nets that an expression reads fit, and all words, its bits fit each context that is as wide as the expression.
abbrev pub IsVBitsLaw : Type 0
IsVBitsLaw = (d : Sizes) (v : Valuation) (e : VExpr) (brackets : ℕ) → IsExpr brackets e → PatternsFit d v (λ n. reads n e) → (w : ℕ) (signed : Bool) → own_width d e ≤ w → (meaning d e).bits v w signed < 2 ^ w
