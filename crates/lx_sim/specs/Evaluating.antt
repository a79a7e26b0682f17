-- Single values: of expressions, of signals under their statements, and after a rise.
use Rattle.std.specs.Prelude.{◌≡◌, ℕ, ℤ, Bool, true, false, List, ◌<◌, ◌&&◌, not, Option, Some, None, length, slice_get, if◌then◌else◌}
use Rattle.lx_num.specs.Ints.{Fits}
use Rattle.lx_circuit.specs.Places.{Values, At}
use Rattle.lx_circuit.specs.Values.{is_zero}
use Rattle.lx_circuit.specs.Statements.{result, taken_block}
use Rattle.lx_circuit.specs.Circuit as circuit
use Rattle.lx_circuit.specs.Circuit.{by_role, domain_at, made, next, role}
use Rattle.lx_fhdl.specs.Below.{StmtId}
use Rattle.lx_fhdl.specs.Designs.{block, circuit_of, shapes}
use Rattle.lx_fhdl.specs.Nodes.{node_value, value_at}
use Rattle.lx_fhdl.specs.declared.design.Domain.{Domain}
use Rattle.lx_fhdl.specs.declared.design.Design.{Design}
use Rattle.lx_fhdl.specs.declared.exprs.Expr.{Expr}
use Rattle.lx_fhdl.specs.declared.exprs.SigId.{SigId}
use Rattle.lx_sim.specs.Blocks.{AreRight, BlockReads}
use Rattle.lx_sim.specs.Orders.{StandsAt}
use Rattle.lx_sim.specs.Settled.{AllFit}
use Rattle.lx_sim.specs.Words.{placed}
use Rattle.lx_sim.specs.declared.plan.Plan.{Plan}
use Rattle.lx_trace.specs.Traces.{rises_of}

-- lower places come first
pub record IsRising (places : List ℕ) : Type 0 where
  pub each : (i j a b : ℕ) → i < j → slice_get places i ≡ Some a → slice_get places j ≡ Some b → a < b

-- the expressions at these places are evaluated, one after another, and the others stay
pub record Evaluates (p : Plan) (places : List ℕ) (vals : List ℤ) (words : List (List ℤ)) (old known : List ℤ) : Type 0 where
  pub fit : AllFit p vals known
  pub others : (k : ℕ) → (StandsAt places k → ⊥) → value_at known k ≡ value_at old k
  pub each : (k : ℕ) → k < length p.design.exprs → StandsAt places k → (x : Expr) → slice_get p.design.exprs k ≡ Some x → value_at known k ≡ node_value p.shapes (placed vals words) known x

-- the value of a signal after statements
pub record IsBlockValue (d : Design) (x : ℕ) (known : List ℤ) (body : List StmtId) (start z : ℤ) : Type 0 where
  pub fits : Fits (shapes d x) z
  pub is : (v : Values) (test : ℕ → Bool) → AreRight d v known test → BlockReads x (block d body) test → z ≡ result (shapes d) x start (taken_block (shapes d) v (block d body))

-- the value of a signal: where it is combinatorial that of its statements, else its own
pub record IsCombValue (d : Design) (x : ℕ) (vals known : List ℤ) (z : ℤ) : Type 0 where
  pub fits : Fits (shapes d x) z
  pub comb : (v : Values) (test : ℕ → Bool) → role (circuit_of d) x ≡ circuit.Comb → AreRight d v known test → BlockReads x (block d d.comb) test
      → z ≡ result (shapes d) x (made (circuit_of d) x).reset (taken_block (shapes d) v (block d d.comb))
  pub other : (role (circuit_of d) x ≡ circuit.Comb → ⊥) → z ≡ value_at vals x

-- the reset of a domain is set
abbrev pub is_reset_by : List ℤ → Option SigId → Bool
is_reset_by vals None = false
is_reset_by vals (Some r) = not (is_zero (value_at vals r.0))

abbrev pub domain_reset : Option Domain → Option SigId
domain_reset None = None
domain_reset (Some x) = x.reset

abbrev pub reset_of : Design → ℕ → Option SigId
reset_of d k = domain_reset (slice_get d.domains k)

-- the value of a signal after a rise of its domain
pub record IsRisen (d : Design) (x k : ℕ) (vals known : List ℤ) (body : List StmtId) (z : ℤ) : Type 0 where
  pub fits : Fits (shapes d x) z
  pub is : (v : Values) → AreRight d v known (λ y. true)
      → z ≡ (if is_reset_by vals (reset_of d k) && not (made (circuit_of d) x).reset_less then (made (circuit_of d) x).reset
      else result (shapes d) x (value_at vals x) (taken_block (shapes d) v (block d body)))

-- the value of a signal after these domains rose, before the signals settle
pub record IsNextValue (d : Design) (x rises : ℕ) (vals known : List ℤ) (z : ℤ) : Type 0 where
  pub fits : Fits (shapes d x) z
  pub clocked : (state v : Values) (k : ℕ) → role (circuit_of d) x ≡ circuit.Sync k → AreRight d v known (λ y. true) → ((y : ℕ) → y < length d.signals → value_at vals y ≡ v (At y))
      → state (At x) ≡ v (At x) → z ≡ next (circuit_of d) state v (rises_of rises) x (role (circuit_of d) x)
  pub other : ((k : ℕ) → role (circuit_of d) x ≡ circuit.Sync k → ⊥) → z ≡ value_at vals x
