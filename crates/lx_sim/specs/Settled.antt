-- The values of a moment, before and after they settle.
use Rattle.std.specs.Prelude.{◌≡◌, ℕ, ℤ, Bool, true, false, List, ◌<◌, length}
use Rattle.lx_num.specs.Ints.{Fits}
use Rattle.lx_circuit.specs.Places.{Values, At}
use Rattle.lx_circuit.specs.Circuit as circuit
use Rattle.lx_circuit.specs.Circuit.{Role, IsSettled, next_state, role}
use Rattle.lx_fhdl.specs.Designs.{circuit_of, shapes}
use Rattle.lx_fhdl.specs.Nodes.{IsFit, value_at}
use Rattle.lx_fhdl.specs.declared.design.Design.{Design}
use Rattle.lx_sim.specs.Blocks.{AreRight}
use Rattle.lx_sim.specs.Moments.{AreValues}
use Rattle.lx_sim.specs.Words.{AreWords}
use Rattle.lx_sim.specs.declared.plan.Plan.{Plan}
use Rattle.lx_trace.specs.Traces.{rises_of}

-- a value of its shape for each signal, and for each expression
pub record AllFit (p : Plan) (vals known : List ℤ) : Type 0 where
  pub signals : length vals ≡ length p.design.signals
  pub signals_fit : (x : ℕ) → x < length p.design.signals → Fits (shapes p.design x) (value_at vals x)
  pub exprs : length known ≡ length p.design.exprs
  pub exprs_fit : (k : ℕ) → k < length p.design.exprs → IsFit p.shapes known k

abbrev pub is_comb : Role → Bool
is_comb circuit.Comb = true
is_comb _ = false

-- the signals that no combinatorial statement drives have their values
pub record AreSourced (d : Design) (v : Values) (vals : List ℤ) : Type 0 where
  pub each : (x : ℕ) → x < length d.signals → is_comb (role (circuit_of d) x) ≡ false → value_at vals x ≡ v (At x)

-- all signals and expressions have their values
pub record HaveSettled (d : Design) (v : Values) (vals known : List ℤ) : Type 0 where
  pub signals : AreValues d vals v
  pub exprs : AreRight d v known (λ y. true)

-- From sources and words that have their values all come to have them, whatever the state.
pub record Settles (p : Plan) (words : List (List ℤ)) (old vals known : List ℤ) : Type 0 where
  pub fit : AllFit p vals known
  pub is : (state inputs v : Values) → IsSettled (circuit_of p.design) state inputs v → AreSourced p.design v old → AreWords words v → HaveSettled p.design v vals known
  pub right : (v : Values) → AreValues p.design vals v → AreWords words v → AreRight p.design v known (λ y. true)

-- From values that have settled come the sources of the moment after a rise of these domains.
pub record Advances (p : Plan) (rises : ℕ) (vals known next : List ℤ) : Type 0 where
  pub fit : AllFit p next known
  pub is : (state inputs v w : Values) → IsSettled (circuit_of p.design) state inputs v → HaveSettled p.design v vals known
      → IsSettled (circuit_of p.design) (next_state (circuit_of p.design) state v (rises_of rises)) inputs w → AreSourced p.design w next
