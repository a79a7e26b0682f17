-- What a sheet holds, and the plan that it stands for.
use Rattle.std.specs.Prelude.{◌≡◌, ◌+◌, length}
use Rattle.lx_sheet.specs.Lowered.{IsFit}
use Rattle.lx_sheet.specs.Plans.{Plan, plan}
use Rattle.lx_sheet.specs.Tables.{AreTables}
use Rattle.lx_sheet.specs.declared.tables.Sheet.TheInside.{Inside}

abbrev pub plan_of : Inside → Plan
plan_of s = plan s.design.now s.names.now

-- a lowered design that keeps what it must, a name for each signal and memory, and the tables of its nodes and signals
pub record IsSheet (s : Inside) : Type 0 where
  pub fit : IsFit s.design.now
  pub named : length s.names.now ≡ length s.design.now.signals + length s.design.now.memories
  pub tables : AreTables s.design.now s.tables
