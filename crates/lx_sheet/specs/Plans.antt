-- A design whose module is made, with the names of its nets.
use Rattle.std.specs.Prelude.{ℕ, List}
use Rattle.lx_vtext.specs.Tree.{Name, VExpr}
use Rattle.lx_fhdl.specs.declared.design.Design.{Design}
use Rattle.lx_emission.specs.Naming.{memory_name, net}
use Rattle.lx_emission.specs.Nodes.{operand}
use Rattle.lx_emission.specs.Signals.{reset_text}

pub record Plan : Type 0 where
  pub design : Design
  pub names : List Name

abbrev pub plan : Design → List Name → Plan
plan d names = record { design = d; names = names }

-- the net of a signal
abbrev pub net_in : Plan → ℕ → Name
net_in p x = net p.names x

-- the name of a memory
abbrev pub memory_in : Plan → ℕ → Name
memory_in p k = memory_name p.design p.names k

-- the text of an expression where it is read, and that of a node
abbrev pub operand_in : Plan → ℕ → VExpr
operand_in p k = operand p.design p.names k

-- the reset value of a signal
abbrev pub reset_in : Plan → ℕ → VExpr
reset_in p x = reset_text p.design x
