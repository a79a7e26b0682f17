-- What the check of a graph answers.
use Rattle.std.specs.Prelude.{ℕ, List}
use Rattle.lx_graph.specs.Graph.{Nodes}
use Rattle.lx_graph.specs.Order.{IsOrder}
use Rattle.lx_graph.specs.Cycle.{OnCycle, IsTold}
use Rattle.lx_graph.specs.Through.{Links}
use Rattle.lx_graph.specs.declared.check.Checked.{Checked}
use Rattle.lx_graph.specs.declared.check.Checked.TheVariants.{Order, Loop}

-- an order of all nodes, or the told cycle of the plain ones
abbrev pub IsChecked : Nodes → Checked → Type 0
IsChecked g (Order nodes) = IsOrder g nodes
IsChecked g (Loop cycle) = IsTold (Links g) cycle

-- where there is an order, no plain node lies on a cycle
abbrev pub OrderHasNoCycle : Type 0
OrderHasNoCycle = (g : Nodes) (nodes : List ℕ) (a : ℕ) → IsOrder g nodes → OnCycle (Links g) a → ⊥
