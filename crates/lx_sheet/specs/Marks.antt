-- Which signals are marked as ports.
use Rattle.std.specs.Prelude.{◌≡◌, ℕ, Bool, false, ◌<◌, List, length, slice_index_or}
use Rattle.lx_fhdl.specs.declared.design.Design.{Design}
use Rattle.lx_emission.specs.Emission.{is_port}

abbrev pub is_marked : List Bool → ℕ → Bool
is_marked marks x = slice_index_or marks x false

-- a mark for each signal, which is that of a test
pub record AreMarksOf (d : Design) (test : ℕ → Bool) (marks : List Bool) : Type 0 where
  pub long : length marks ≡ length d.signals
  pub each : (x : ℕ) → x < length d.signals → is_marked marks x ≡ test x

-- it is a port, or a domain's reset
abbrev pub AreMarks : Design → List Bool → Type 0
AreMarks d marks = AreMarksOf d (is_port d) marks
