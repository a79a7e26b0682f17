-- The FSMs of a description: their statements are there, and each name that they go by is that of a state.
use Rattle.std.specs.Prelude.{ℕ, Bool, List, Option, Some, None, Result, Ok, Err, flat_map, length}
use Rattle.std.specs.List.{list_all}
use Rattle.lx_text.specs.declared.faults.Fault.{Fault}
use Rattle.lx_description.specs.Below.{all_fsm_below}
use Rattle.lx_description.specs.declared.description.Description.{Description}
use Rattle.lx_description.specs.declared.fsms.FsmDecl.{FsmDecl}
use Rattle.lx_description.specs.declared.fsms.StateDecl.{StateDecl}
use Rattle.lx_fsm.specs.Decls.{fsm_of}
use Rattle.lx_fsm.specs.Machine.{faults}

-- the statements of all states are among n
abbrev pub has_bodies : ℕ → FsmDecl → Bool
has_bodies n f = list_all (λ (s : StateDecl). all_fsm_below n s.body) f.states

abbrev pub bodies_there : Description → Bool
bodies_there d = list_all (has_bodies (length d.fsm_stmts)) d.fsms

-- the faults of all FSMs in their order
abbrev pub fsm_faults : Description → List Fault
fsm_faults d = flat_map (λ (f : FsmDecl). faults (fsm_of d.design d.fsm_stmts f) f.line) d.fsms

-- the description, unless there is a fault
abbrev pub unless : Description → Option Fault → Result Description Fault
unless d None = Ok d
unless d (Some f) = Err f
