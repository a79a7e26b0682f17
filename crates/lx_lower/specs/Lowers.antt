-- Lowering of a design: the same signals, memories, domains, ports and runs, and one list of plain statements for each
-- signal.
use Rattle.std.specs.Prelude.{◌≡◌, ℕ, ◌<◌, length}
use Rattle.lx_fhdl.specs.Designs.{circuit_of, stmts_of}
use Rattle.lx_fhdl.specs.Keeping.{Keeps}
use Rattle.lx_fhdl.specs.Lowered.{IsLowered}
use Rattle.lx_fhdl.specs.declared.design.Design.{Design}
use Rattle.lx_lowering.specs.Lowering as lowering
use Rattle.lx_lowering.specs.Lowering.{Lowers}
use Rattle.lx_plain.specs.Lines.{lines}
use Rattle.lx_lower.specs.Lists.{folded_lines_of}

-- Each list assigns a signal from the same lines in the same order, and under conditions from the same lines. What assigns
-- it in comb and reads nothing is one assignment from the first of these lines, under no condition.
pub record HasLines (d e : Design) : Type 0 where
  pub comb : (x : ℕ) → x < length d.signals → lines e x e.comb ≡ folded_lines_of d d.comb x
  pub sync : (x k : ℕ) → x < length d.signals → k < length d.domains → lines e x (stmts_of k e.sync) ≡ lines d x (stmts_of k d.sync)

-- A lowered design keeps what a design keeps, has the signals, memories, domains and ports of the design, and means
-- exactly its lowered circuit: so it has every run of the design and no other, no signal has another driver, and its
-- reads have an order where the design's have one.
pub record IsLoweringOf (d e : Design) : Type 0 where
  pub keeps : Keeps e
  pub lowered : IsLowered e
  pub signals : e.signals ≡ d.signals
  pub memories : e.memories ≡ d.memories
  pub domains : e.domains ≡ d.domains
  pub ports : e.ports ≡ d.ports
  pub ios : e.ios ≡ d.ios
  pub circuit : circuit_of e ≡ lowering.lowered (circuit_of d)
  pub lowers : Lowers (circuit_of d) (circuit_of e)
  pub lines : HasLines d e
