-- What plain nodes read through inner ones.
use Rattle.std.specs.Prelude.{ℕ, zero, suc, ◌<◌, ◌≤◌}
use Rattle.lx_graph.specs.Graph.{Nodes, Reads}

-- a walk from a to b with so many nodes between, all inner
abbrev pub Within : Nodes → ℕ → ℕ → ℕ → Type 0
Within g a b zero = Reads g a b
Within g a b (suc between) = (c : ℕ) × (g.plain ≤ c) × Reads g a c × Within g c b between

-- a reads b, or inner nodes that lead to b
abbrev pub Through : Nodes → ℕ → ℕ → Type 0
Through g a b = (between : ℕ) × Within g a b between

-- of two plain nodes one reads the other, maybe through inner nodes
abbrev pub Links : Nodes → ℕ → ℕ → Type 0
Links g a b = (a < g.plain) × (b < g.plain) × Through g a b
