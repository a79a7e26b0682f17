-- What holds of the answers of a trace.
use Rattle.std.specs.Prelude.{◌≡◌, ℕ, List}
use Rattle.lx_fhdl.specs.declared.design.Design.{Design}
use Rattle.lx_translate.specs.Translation.{IsFaultless}
use Rattle.lx_running.specs.Traced.{IsAnswerOf}

-- A circuit without a fault has one answer to a trace.
abbrev pub IsOneAnswerLaw : Type 0
IsOneAnswerLaw = (d : Design) (trace x y : List ℕ) → IsFaultless d → IsAnswerOf d trace x → IsAnswerOf d trace y → x ≡ y
