-- How a moment settles, from place to place of the order.
use Rattle.std.specs.Prelude.{◌≡◌, ℕ, ℤ, true, List, ◌+◌, ◌<◌, length}
use Rattle.lx_circuit.specs.Places.{Values, At}
use Rattle.lx_circuit.specs.Values.{value_of}
use Rattle.lx_circuit.specs.Circuit.{IsSettled, role}
use Rattle.lx_fhdl.specs.Designs.{circuit_of, shapes, term}
use Rattle.lx_fhdl.specs.Nodes.{value_at}
use Rattle.lx_fhdl.specs.declared.design.Design.{Design}
use Rattle.lx_sim.specs.Orders.{HasBuckets, place_of}
use Rattle.lx_sim.specs.Settled.{AllFit, is_comb}
use Rattle.lx_sim.specs.Words.{AreWords}
use Rattle.lx_sim.specs.declared.plan.Plan.{Plan}

-- the expressions of lower rank have their values
abbrev pub RightTo : Design → Values → List ℕ → ℕ → List ℤ → Type 0
RightTo d v ranks p known = (k : ℕ) → k < length d.exprs → place_of ranks k < p → value_at known k ≡ value_of (shapes d) v (term d k)

-- the signals at earlier places have their values
abbrev pub SignalsTo : Design → Values → List ℕ → ℕ → List ℤ → Type 0
SignalsTo d v places p vals = (y : ℕ) → y < length d.signals → place_of places y < p → value_at vals y ≡ v (At y)

-- combinatorial signals at the first n places, all others, and expressions of rank below n have their values
pub record SettledTo (p : Plan) (b : HasBuckets p.design p.order p.buckets) (v : Values) (n : ℕ) (vals known : List ℤ) : Type 0 where
  pub signals : (y : ℕ) → y < length p.design.signals → (is_comb (role (circuit_of p.design) y) ≡ true → place_of b.places y < n) → value_at vals y ≡ v (At y)
  pub exprs : RightTo p.design v b.ranks n known

-- the expressions of lower rank have the values that follow from the words and from those of the signals at earlier places
abbrev pub IsKeptTo : (p : Plan) → HasBuckets p.design p.order p.buckets → ℕ → List (List ℤ) → List ℤ → List ℤ → Type 0
IsKeptTo p b n words vals known = (v : Values) → AreWords words v → SignalsTo p.design v b.places n vals → RightTo p.design v b.ranks n known

-- one place more
pub record MovesOn (p : Plan) (n : ℕ) (words : List (List ℤ)) (old_vals old_known vals known : List ℤ) : Type 0 where
  pub fit : AllFit p vals known
  pub is : (b : HasBuckets p.design p.order p.buckets) (state inputs v : Values) → IsSettled (circuit_of p.design) state inputs v → AreWords words v → SettledTo p b v n old_vals old_known → SettledTo p b v (n + 1) vals known
  pub kept : (b : HasBuckets p.design p.order p.buckets) → IsKeptTo p b n words old_vals old_known → IsKeptTo p b (n + 1) words vals known
