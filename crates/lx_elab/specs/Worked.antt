-- Descriptions that are tested, and FSMs that are checked, worked by hand.
use Rattle.std.specs.Prelude.{◌≡◌, ℕ, false, List, [], ◌∷◌, Option, Some, None, Ok, Err, codes}
use Rattle.lx_text.specs.declared.faults.Kind.TheVariants as kind
use Rattle.lx_fhdl.specs.Instance.{the_signal}
use Rattle.lx_fhdl.specs.declared.design.PortMode.TheVariants as mode
use Rattle.lx_description.specs.Below.{FsmStmtId}
use Rattle.lx_description.specs.Instance.{and_description, and_design, signal_of, the_fsm_stmt}
use Rattle.lx_description.specs.declared.description.Description.{Description}
use Rattle.lx_description.specs.declared.fsms.FsmDecl.{FsmDecl}
use Rattle.lx_description.specs.declared.fsms.FsmStmt.TheVariants as fsm
use Rattle.lx_description.specs.declared.fsms.StateDecl.{StateDecl}
use Rattle.lx_elab.specs.Elaboration.{checked, kept, parted, stood}

-- of three signals the fourth as a port
abbrev pub no_such_port : Description
no_such_port = record and_description { design = record and_design { ios = the_signal 3 ∷ [] } }

abbrev pub a_state : List ℕ → List FsmStmtId → StateDecl
a_state name body = record { name = name; body = body }

abbrev pub an_fsm : ℕ → Option (List ℕ) → List StateDecl → FsmDecl
an_fsm line start states = record { state = the_signal 0; start = start; states = states; asked = []; place = None; line = line }

-- `A` goes to `C`, which is there or isn't
abbrev pub known : ℕ → FsmDecl
known line = an_fsm line None (a_state (codes "A") (the_fsm_stmt 0 ∷ []) ∷ a_state (codes "C") [] ∷ [])

abbrev pub unknown : ℕ → FsmDecl
unknown line = an_fsm line None (a_state (codes "A") (the_fsm_stmt 0 ∷ []) ∷ [])

abbrev pub with_fsms : List FsmDecl → Description
with_fsms fsms = record and_description { fsm_stmts = fsm.NextState (codes "C") 4 ∷ []; fsms = fsms }

-- a clock for them, and a state of one bit
abbrev pub clocked : List FsmDecl → Description
clocked fsms = record (with_fsms fsms) { design = record and_design { signals = signal_of (codes "s" ∷ []) 1 false ∷ []; domains = record { name = codes "sys"; reset = None } ∷ [] } }

-- a memory of nine words of four bits, the first of which is z, and a port of the memory k, which reads at once
abbrev pub with_memory : (z k : ℕ) → Description
with_memory z k = record and_description {
  design = record and_design {
    memories = record { path = codes "m" ∷ []; width = 4; depth = 9; init = z ∷ []; line = 5 } ∷ [];
    ports = record { memory = k; domain = None; adr = the_signal 0; dat_r = Some (the_signal 1); dat_w = None; we = None; part = 2; mode = mode.Async } ∷ [];
  };
}

-- What is answered for them.
pub record AreTested : Type 0 where
  pub kept_as_it_is : kept and_description ≡ Ok and_description
  pub not_built : kept no_such_port ≡ Err (record { line = 0; kind = kind.NotYetBuilt })
  -- a state whose statement isn't there
  pub no_statement : kept (with_fsms (an_fsm 7 None (a_state (codes "A") (the_fsm_stmt 1 ∷ []) ∷ []) ∷ [])) ≡ Err (record { line = 0; kind = kind.NotYetBuilt })
  pub memory_stands : kept (with_memory 15 0) ≡ Ok (with_memory 15 0)
  pub word_too_wide : kept (with_memory 16 0) ≡ Err (record { line = 0; kind = kind.NotYetBuilt })
  pub no_such_memory : kept (with_memory 15 1) ≡ Err (record { line = 0; kind = kind.NotYetBuilt })
  pub no_fsm : checked and_description ≡ Ok and_description
  pub all_known : checked (with_fsms (known 7 ∷ [])) ≡ Ok (with_fsms (known 7 ∷ []))
  pub no_states : checked (with_fsms (an_fsm 7 (Some (codes "R")) [] ∷ [])) ≡ Err (record { line = 7; kind = kind.NoStates })
  pub unknown_state : checked (with_fsms (unknown 7 ∷ [])) ≡ Err (record { line = 7; kind = kind.UnknownState (codes "C") })
  -- the reset state comes first
  pub unknown_start : checked (with_fsms (record (unknown 7) { start = Some (codes "R") } ∷ [])) ≡ Err (record { line = 7; kind = kind.UnknownState (codes "R") })
  -- the first FSM with a fault, in order of creation
  pub first_of_all : checked (with_fsms (known 7 ∷ unknown 8 ∷ an_fsm 9 None [] ∷ [])) ≡ Err (record { line = 8; kind = kind.UnknownState (codes "C") })
  pub fsm_stands : stood (clocked (known 7 ∷ [])) ≡ Ok (clocked (known 7 ∷ []))
  pub no_clock : stood (with_fsms (known 7 ∷ [])) ≡ Err (record { line = 0; kind = kind.NotYetBuilt })
  -- one bit for the numbers of three states
  pub too_few_bits : stood (clocked (an_fsm 7 None (a_state (codes "A") [] ∷ a_state (codes "B") [] ∷ a_state (codes "C") [] ∷ []) ∷ [])) ≡ Err (record { line = 0; kind = kind.NotYetBuilt })
  pub parts_stand : parted and_description ≡ Ok and_description
  -- the top is the first of the modules
  pub no_top : parted (record and_description { modules = [] }) ≡ Err (record { line = 0; kind = kind.NotYetBuilt })
