-- An FSM of a description in the circuit of its flat design.
use Rattle.std.specs.Prelude.{◌≡◌, ℕ, [], Some, slice_get}
use Rattle.lx_circuit.specs.Circuit.{Circuit, domain_at, shapes}
use Rattle.lx_fhdl.specs.Designs.{circuit_of}
use Rattle.lx_description.specs.declared.description.Description.{Description}
use Rattle.lx_description.specs.declared.fsms.FsmDecl.{FsmDecl}
use Rattle.lx_description.specs.declared.fsms.FsmPlace.{FsmPlace}
use Rattle.lx_fsm.specs.Decls.{fsm_of}
use Rattle.lx_fsm.specs.Flattened.{CanFlatten, IsWithout, sys_number}
use Rattle.lx_fsm.specs.Lists.{comb_list, sync_list}
use Rattle.lx_fsm.specs.Machine.{Fsm, faults}
use Rattle.lx_fsm.specs.Runs.{HasFsm, IsAlone, IsRegister, StandsIn}

-- the machine of a declaration, and the number of the domain that FSMs run in
abbrev pub machine : Description → FsmDecl → Fsm
machine d f = fsm_of d.design d.fsm_stmts f

abbrev pub clock : Description → ℕ
clock d = sys_number d.design.domains

-- it has no fault, and its two lists stand in comb and in `sys`
pub record Stands (c : Circuit) (d : ℕ) (m : Fsm) : Type 0 where
  pub known : faults m 0 ≡ []
  pub comb : StandsIn (comb_list (shapes c) m) c.comb
  pub sync : StandsIn (sync_list (shapes c) m) (domain_at c d).stmts

-- Each FSM that was added stands in the circuit; where its `state` is a register that no other statement assigns, the circuit
-- has the FSM, and so the laws of machines speak of it: over every list of steps `state` follows the machine.
abbrev pub StandLaw : Type 0
StandLaw = (d e : Description) → CanFlatten d → IsWithout d e → (j : ℕ) (f : FsmDecl) (p : FsmPlace) → slice_get d.fsms j ≡ Some f → f.place ≡ Some p
    → (s : Stands (circuit_of e.design) (clock d) (machine d f))
    × (IsRegister (circuit_of e.design) (clock d) (machine d f) → IsAlone f.state.0 s.sync → HasFsm (circuit_of e.design) (clock d) (machine d f))
