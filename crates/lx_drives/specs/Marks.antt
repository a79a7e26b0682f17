-- Which signals are marked so far.
use Rattle.std.specs.Prelude.{◌≡◌, ℕ, Bool, false, ◌<◌, ◌||◌, List, [], ◌∷◌, Option, length, map, option_map}
use Rattle.lx_circuit.specs.Circuit.{is_among, is_named}
use Rattle.lx_fhdl.specs.Designs.{signal_number}
use Rattle.lx_fhdl.specs.declared.exprs.SigId.{SigId}
use Rattle.lx_fhdl.specs.declared.design.Domain.{Domain}
use Rattle.lx_fhdl.specs.declared.design.Design.{Design}
use Rattle.lx_sheet.specs.Marks.{is_marked, AreMarksOf}

-- a signal more is marked, where there is one
pub record IsMarkedToo (old new : List Bool) (o : Option ℕ) : Type 0 where
  pub long : length new ≡ length old
  pub each : (x : ℕ) → x < length old → is_marked new x ≡ (is_marked old x || is_named x o)

-- a signal is the reset of one of these domains
abbrev pub some_reset : ℕ → List Domain → Bool
some_reset x [] = false
some_reset x (a ∷ as_) = is_named x (option_map signal_number a.reset) || some_reset x as_

-- it is one of these signals
abbrev pub AreAmong : Design → List SigId → List Bool → Type 0
AreAmong d ios marks = AreMarksOf d (λ x. is_among x (map signal_number ios)) marks

-- it is a port that the design names, or the reset of one of these domains
abbrev pub AreResetsToo : Design → List Domain → List Bool → Type 0
AreResetsToo d domains marks = AreMarksOf d (λ x. is_among x (map signal_number d.ios) || some_reset x domains) marks
