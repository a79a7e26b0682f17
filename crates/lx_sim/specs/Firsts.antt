-- The first values of a circuit's signals.
use Rattle.std.specs.Prelude.{◌≡◌, ℕ, ℤ, pos, List, ◌<◌, length}
use Rattle.lx_num.specs.Ints.{Fits}
use Rattle.lx_circuit.specs.Circuit as circuit
use Rattle.lx_circuit.specs.Circuit.{made, role}
use Rattle.lx_fhdl.specs.Designs.{circuit_of, shapes}
use Rattle.lx_fhdl.specs.Nodes.{value_at}
use Rattle.lx_sim.specs.declared.plan.Plan.{Plan}

-- 0 for an input, else the reset value
pub record IsFirst (p : Plan) (x : ℕ) (z : ℤ) : Type 0 where
  pub fits : Fits (shapes p.design x) z
  pub input : role (circuit_of p.design) x ≡ circuit.Input → z ≡ pos 0
  pub other : (role (circuit_of p.design) x ≡ circuit.Input → ⊥) → z ≡ (made (circuit_of p.design) x).reset

pub record AreFirst (p : Plan) (n : ℕ) (vals : List ℤ) : Type 0 where
  pub long : length vals ≡ n
  pub each : (x : ℕ) → x < n → IsFirst p x (value_at vals x)
