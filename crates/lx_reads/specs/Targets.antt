-- What a target adds to an assignment.
use Rattle.std.specs.Prelude.{◌≡◌, ℕ, Bool, true, ◌||◌, ◌++◌, length, nat_lt, IsTrue}
use Rattle.std.specs.List.{list_all}
use Rattle.lx_circuit.specs.Places.{At}
use Rattle.lx_circuit.specs.Reads.{target_names, targets_name}
use Rattle.lx_circuit.specs.Statements.{Target, Targets}
use Rattle.lx_fhdl.specs.declared.design.Design.{Design}
use Rattle.lx_reads.specs.Drivings.{target_signals, targets_signals}
use Rattle.lx_reads.specs.Net.{row_below, row_hits, hits, signals_of}
use Rattle.lx_reads.specs.declared.net.Net.{Net}
use Rattle.lx_reads.specs.declared.targets.Parts.{Parts}

-- a row of numbers names signal y
abbrev pub reads_hit : Design → Net → ℕ → Parts → Bool
reads_hit d net y p = row_hits (signals_of d) y (hits (signals_of d) net.rows y) p.reads

-- its signals, and what its indices read
pub record AddsTarget (d : Design) (net : Net) (old new : Parts) (t : Target) : Type 0 where
  pub signals : new.signals ≡ old.signals ++ target_signals t
  pub there : IsTrue (list_all (λ x. nat_lt x (signals_of d)) (target_signals t))
  pub reads : (y : ℕ) → reads_hit d net y new ≡ (reads_hit d net y old || target_names (At y) t)
  pub below : row_below (signals_of d) old.reads (length net.rows) ≡ true → row_below (signals_of d) new.reads (length net.rows) ≡ true

pub record AddsTargets (d : Design) (net : Net) (old new : Parts) (ts : Targets) : Type 0 where
  pub signals : new.signals ≡ old.signals ++ targets_signals ts
  pub there : IsTrue (list_all (λ x. nat_lt x (signals_of d)) (targets_signals ts))
  pub reads : (y : ℕ) → reads_hit d net y new ≡ (reads_hit d net y old || targets_name (At y) ts)
  pub below : row_below (signals_of d) old.reads (length net.rows) ≡ true → row_below (signals_of d) new.reads (length net.rows) ≡ true
