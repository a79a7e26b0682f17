-- The names of a design stay where it gains signals of generated hardware.
use Rattle.std.specs.Prelude.{◌≡◌, ℕ, ◌<◌, List, [], ◌++◌, Result, Ok, Err, length}
use Rattle.lx_text.specs.declared.faults.Fault.{Fault}
use Rattle.lx_vtext.specs.Tree.{Name}
use Rattle.lx_fhdl.specs.Keeping.{EachOf, Keeps}
use Rattle.lx_fhdl.specs.declared.design.Signal.{Signal}
use Rattle.lx_fhdl.specs.declared.design.Design.{Design}
use Rattle.lx_emission.specs.Naming.{memory_name, net}
use Rattle.lx_namer.specs.Names.{names_of}

-- the design gains these signals, which have no path; memories, domains and ports are the same
pub record Gains (d e : Design) : Type 0 where
  pub signals : List Signal
  pub are : e.signals ≡ d.signals ++ signals
  pub pathless : EachOf (λ (s : Signal). s.path ≡ []) signals
  pub memories : e.memories ≡ d.memories
  pub domains : e.domains ≡ d.domains
  pub ios : e.ios ≡ d.ios

-- each signal and each memory of the one has in the other the name that it had
pub record HaveStayed (d e : Design) (names more : List Name) : Type 0 where
  pub signals : (x : ℕ) → x < length d.signals → net more x ≡ net names x
  pub memories : (k : ℕ) → memory_name e more k ≡ memory_name d names k

-- the names stay, or the fault is the same
abbrev pub AnswersStay : Design → Design → Result (List Name) Fault → Result (List Name) Fault → Type 0
AnswersStay d e (Ok names) (Ok more) = HaveStayed d e names more
AnswersStay d e (Err f) (Err g) = f ≡ g
AnswersStay d e _ _ = ⊥

-- The names of generated hardware have a `$`, which no other name has: so they take none away.
abbrev pub NamesStay : Type 0
NamesStay = (d e : Design) → Keeps d → Gains d e → AnswersStay d e (names_of d) (names_of e)
