-- What drives the net of each signal, as the code has it.
use Rattle.std.specs.Prelude.{◌≡◌, ℕ, ◌<◌, List, Some, length, slice_get, IsTrue}
use Rattle.lx_fhdl.specs.Below.{all_stmts_below}
use Rattle.lx_fhdl.specs.Designs.{block}
use Rattle.lx_fhdl.specs.Lowered.{is_plain_target, ArePlain}
use Rattle.lx_fhdl.specs.declared.design.Design.{Design}
use Rattle.lx_sheet.specs.declared.drive.Drive.{Drive}
use Rattle.lx_sheet.specs.declared.drive.Drive.TheVariants.{Input, Undriven, CombAssign, CombBlock, Sync}
use Rattle.lx_circuit.specs.Statements as tree
use Rattle.lx_emission.specs.Signals as signals

-- a signal, or some of its bits
pub record IsPlainTarget (t : tree.Target) : Type 0 where
  pub signal : ℕ
  pub alone : IsTrue (is_plain_target signal t)

-- what an answer means
abbrev pub drive_of : Drive → signals.Drive
drive_of Input = signals.Input
drive_of Undriven = signals.Undriven
drive_of (CombAssign value) = signals.CombAssign value
drive_of (CombBlock body) = signals.CombBlock body
drive_of (Sync domain body) = signals.Sync domain body

-- the expression, the statements and the domain of a drive are there
abbrev pub IsThere : Design → signals.Drive → Type 0
IsThere d signals.Input = Unit {0}
IsThere d signals.Undriven = Unit {0}
IsThere d (signals.CombAssign value) = value.place < length d.exprs
IsThere d (signals.CombBlock body) = IsTrue (all_stmts_below (length d.stmts) body)
IsThere d (signals.Sync domain body) = (domain < length d.domains) × IsTrue (all_stmts_below (length d.stmts) body)

-- its statements are for one signal each
abbrev pub IsPlainDrive : Design → signals.Drive → Type 0
IsPlainDrive d signals.Input = Unit {0}
IsPlainDrive d signals.Undriven = Unit {0}
IsPlainDrive d (signals.CombAssign value) = Unit {0}
IsPlainDrive d (signals.CombBlock body) = ArePlain (block d body)
IsPlainDrive d (signals.Sync domain body) = ArePlain (block d body)

-- how the net of each signal is driven
pub record AreDrives (d : Design) (drives : List Drive) : Type 0 where
  pub long : length drives ≡ length d.signals
  pub each : (k : ℕ) (r : Drive) → slice_get drives k ≡ Some r → drive_of r ≡ signals.drive d k
