-- Statements laid out, worked by hand.
use Rattle.std.specs.Prelude.{◌≡◌, ℕ, false, true, pos, List, [], ◌∷◌, Some, None, Result, Ok, Err, codes}
use Rattle.lx_text.specs.declared.faults.Fault.{Fault}
use Rattle.lx_text.specs.declared.faults.Kind.TheVariants as kind
use Rattle.lx_text.specs.declared.faults.LimitKind.TheVariants as limit
use Rattle.lx_fhdl.specs.Drafts.{started}
use Rattle.lx_fhdl.specs.Instance.{signal_of, the_expr, the_signal, the_stmt, the_target}
use Rattle.lx_fhdl.specs.declared.design.Design.{Design}
use Rattle.lx_fhdl.specs.declared.exprs.Expr.TheVariants as expr
use Rattle.lx_fhdl.specs.declared.stmts.Stmt.{Stmt}
use Rattle.lx_fhdl.specs.declared.stmts.Stmt.TheVariants as stmt
use Rattle.lx_fhdl.specs.declared.stmts.Target.TheVariants as target
use Rattle.lx_state.specs.declared.machine.Form.{Form}
use Rattle.lx_state.specs.declared.machine.Form.TheVariants as form
use Rattle.lx_description.specs.Instance.{the_fsm_stmt}
use Rattle.lx_description.specs.declared.fsms.FsmStmt.{FsmStmt}
use Rattle.lx_description.specs.declared.fsms.FsmStmt.TheVariants as fsm
use Rattle.lx_state.specs.declared.machine.Fsm.{Fsm}
use Rattle.lx_state.specs.declared.machine.Machine.{Machine}
use Rattle.lx_state.specs.declared.machine.Made.{Made}
use Rattle.lx_state.specs.declared.machine.Module.{Module}
use Rattle.lx_state.specs.declared.machine.ModuleKind.TheVariants as bases
use Rattle.lx_state.specs.declared.machine.Submodule.{Submodule}
use Rattle.lx_state.specs.declared.machine.SyncItem.{SyncItem}
use Rattle.lx_state.specs.Step.{Outcome}
use Rattle.lx_state.specs.Worked.{seen, start}
use Rattle.lx_fragments.specs.Domains.{domains_made}
use Rattle.lx_fragments.specs.Fragments.{fragments_of, under}
use Rattle.lx_fragments.specs.Laying.{lay_out}
use Rattle.lx_fragments.specs.Places.{place_of}
use Rattle.lx_fragments.specs.States.{bodies_of, states_of}

-- ---- what is seen

abbrev pub stmts : Machine → List Stmt
stmts m = m.shaped.stmts

abbrev pub value_of : {A : Type 0} → Outcome A → Result A Fault
value_of (Ok r) = Ok r.0
value_of (Err f) = Err f

-- ---- machines

-- a signal of one bit, two expressions and a target
abbrev pub design : Design
design = record (started (signal_of (codes "a") 1 0 ∷ []) []) {
  exprs = expr.Sig (the_signal 0) ∷ expr.Const (pos 1) 1 false ∷ [];
  targets = target.Whole (the_signal 0) ∷ [];
}

abbrev pub on_line : ℕ → Form → Made
on_line line form_ = record { form = form_; line = line; size = 1; depth = 1; in_state = false }

-- an assignment of the expression at a place
abbrev pub assigned : ℕ → Form
assigned k = form.Assign (the_target 0) (the_expr k)

-- three assignments, `If(..).Elif(..).Else(..)` over them, and the `If` alone
abbrev pub branches : Machine
branches = record start {
  shaped = design;
  made = on_line 3 (assigned 0) ∷ on_line 4 (assigned 1) ∷ on_line 5 (assigned 0) ∷ on_line 2 (form.If None (the_expr 0) (0 ∷ [])) ∷ on_line 2 (form.If (Some 3) (the_expr 1) (1 ∷ [])) ∷ on_line 2 (form.Else 4 (2 ∷ [])) ∷ [];
}

-- two assignments, a `Case` over them, and an `If` that stands in itself
abbrev pub cases : Machine
cases = record start {
  shaped = design;
  made = on_line 3 (assigned 0) ∷ on_line 4 (assigned 1) ∷ on_line 2 (form.Case (the_expr 0) (record { key = pos 1; body = 0 ∷ [] } ∷ []) (1 ∷ [])) ∷ on_line 5 (form.If None (the_expr 0) (3 ∷ [])) ∷ [];
}

abbrev pub submodules : List ℕ → List Submodule
submodules [] = []
submodules (x ∷ xs) = record { place = x; named = true } ∷ submodules xs

abbrev pub a_module : List ℕ → List SyncItem → List ℕ → Module
a_module comb sync below = record { object = 0; class = 0; kind = bases.Plain; attributes = []; bound = []; comb = comb; sync = sync; submodules = submodules below; added = None; room = 63 }

-- the top has the modules 2 and 1, and 2 has 3; each has statements of its own
abbrev pub modules : Machine
modules = record branches {
  modules = a_module (2 ∷ []) [] (2 ∷ 1 ∷ []) ∷ a_module (0 ∷ []) (record { domain = 1; made = 1 } ∷ []) [] ∷ a_module [] (record { domain = 0; made = 0 } ∷ []) (3 ∷ []) ∷ a_module (1 ∷ 0 ∷ []) [] [] ∷ [];
}

-- a module with statements of its own, and three that stand for what takes part once it is made, one of them for a field
abbrev pub equipped : Machine
equipped = record branches {
  modules = a_module (2 ∷ []) (record { domain = 0; made = 0 } ∷ []) [] ∷ [];
  specials = record { fields = 0 ∷ []; comb = 1 ∷ []; sync = record { domain = 0; made = 2 } ∷ [] };
}

-- `x.eq(..)`, `NextState("B")`, an `If` over both with an `Else`, a `Case` over the second, and a `NextValue`
abbrev pub stated : Machine
stated = record start {
  shaped = design;
  texts = codes "B" ∷ [];
  made = on_line 3 (assigned 0) ∷ on_line 4 (form.NextState 0) ∷ on_line 2 (form.If None (the_expr 0) (0 ∷ 1 ∷ [])) ∷ on_line 2 (form.Else 2 (0 ∷ [])) ∷ on_line 5 (form.Case (the_expr 1) (record { key = pos 1; body = 1 ∷ [] } ∷ []) []) ∷ on_line 6 (form.NextValue (the_target 0) (the_expr 1)) ∷ [];
}

-- its states, of which the second has statements of two `act`s
abbrev pub an_fsm : Fsm
an_fsm = record { object = 0; «module» = 2; state = the_signal 0; start = None; names = (codes "A", 0) ∷ (codes "B", 1) ∷ []; bodies = (3 ∷ []) ∷ (4 ∷ 5 ∷ []) ∷ []; asked = [] }

abbrev pub nodes : Machine → List FsmStmt
nodes m = m.fsm_stmts

-- a module with two FSMs, of which the second stands in a module behind another, and a third one that was added nowhere
abbrev pub added : Machine
added = record equipped {
  modules = a_module (2 ∷ 0 ∷ []) (record { domain = 0; made = 0 } ∷ []) (1 ∷ 2 ∷ 3 ∷ []) ∷ a_module [] [] [] ∷ a_module (1 ∷ []) [] [] ∷ a_module (0 ∷ []) (record { domain = 1; made = 1 } ∷ []) (4 ∷ []) ∷ a_module [] [] [] ∷ a_module [] [] [] ∷ [];
}

-- What comes of them.
pub record AreLaidOut : Type 0 where
  -- one statement with all branches in the order of the text
  pub all_branches : seen stmts (lay_out (5 ∷ []) branches) ≡ Ok (stmt.Assign (the_target 0) (the_expr 0) 3 ∷ stmt.Assign (the_target 0) (the_expr 1) 4 ∷ stmt.Assign (the_target 0) (the_expr 0) 5 ∷ stmt.If (record { cond = the_expr 0; body = the_stmt 0 ∷ [] } ∷ record { cond = the_expr 1; body = the_stmt 1 ∷ [] } ∷ []) (the_stmt 2 ∷ []) 2 ∷ [])
  -- the first branch stays as it is
  pub first_branch : seen stmts (lay_out (3 ∷ []) branches) ≡ Ok (stmt.Assign (the_target 0) (the_expr 0) 3 ∷ stmt.If (record { cond = the_expr 0; body = the_stmt 0 ∷ [] } ∷ []) [] 2 ∷ [])
  pub no_statement : seen stmts (lay_out (6 ∷ []) branches) ≡ Err (record { line = 0; kind = kind.WrongKind })
  pub case : seen stmts (lay_out (2 ∷ []) cases) ≡ Ok (stmt.Assign (the_target 0) (the_expr 0) 3 ∷ stmt.Assign (the_target 0) (the_expr 1) 4 ∷ stmt.Case (the_expr 0) (record { key = pos 1; body = the_stmt 0 ∷ [] } ∷ []) (the_stmt 1 ∷ []) 2 ∷ [])
  pub too_deep : seen stmts (lay_out (3 ∷ []) cases) ≡ Err (record { line = 5; kind = kind.Limit limit.Depth })
  -- a module, then its submodules, each with those below it
  pub order : under modules.modules 64 0 ≡ 0 ∷ 2 ∷ 3 ∷ 1 ∷ []
  pub statements : value_of (fragments_of 0 modules) ≡ Ok (record { comb = the_stmt 0 ∷ the_stmt 1 ∷ the_stmt 2 ∷ the_stmt 3 ∷ []; sync = record { domain = 0; stmts = the_stmt 4 ∷ [] } ∷ record { domain = 1; stmts = the_stmt 5 ∷ [] } ∷ [] })
  pub in_order : seen stmts (fragments_of 0 modules) ≡ Ok (stmt.Assign (the_target 0) (the_expr 0) 5 ∷ stmt.Assign (the_target 0) (the_expr 1) 4 ∷ stmt.Assign (the_target 0) (the_expr 0) 3 ∷ stmt.Assign (the_target 0) (the_expr 0) 3 ∷ stmt.Assign (the_target 0) (the_expr 0) 3 ∷ stmt.Assign (the_target 0) (the_expr 1) 4 ∷ [])
  -- what takes part once it is made stands before all modules, fields first; the modules' own statements stand behind it
  pub specials_first : seen stmts (fragments_of 0 equipped) ≡ Ok (stmt.Assign (the_target 0) (the_expr 0) 3 ∷ stmt.Assign (the_target 0) (the_expr 1) 4 ∷ stmt.Assign (the_target 0) (the_expr 0) 5 ∷ stmt.Assign (the_target 0) (the_expr 0) 5 ∷ stmt.Assign (the_target 0) (the_expr 0) 3 ∷ [])
  pub special_statements : value_of (fragments_of 0 equipped) ≡ Ok (record { comb = the_stmt 0 ∷ the_stmt 1 ∷ the_stmt 2 ∷ []; sync = record { domain = 0; stmts = the_stmt 3 ∷ [] } ∷ record { domain = 0; stmts = the_stmt 4 ∷ [] } ∷ [] })
  -- the domains with their resets
  pub resets : value_of (domains_made (record { name = codes "sys"; reset = true } ∷ record { name = codes "pix"; reset = false } ∷ []) branches) ≡ Ok (record { name = codes "sys"; reset = Some (the_signal 1) } ∷ record { name = codes "pix"; reset = None } ∷ [])
  -- the states in the order of their numbers, and their statements
  pub bodies : bodies_of (Some an_fsm) ≡ record { name = codes "A"; places = 3 ∷ [] } ∷ record { name = codes "B"; places = 4 ∷ 5 ∷ [] } ∷ []
  pub states : value_of (states_of (bodies_of (Some an_fsm)) stated) ≡ Ok (record { name = codes "A"; body = the_fsm_stmt 3 ∷ [] } ∷ record { name = codes "B"; body = the_fsm_stmt 5 ∷ the_fsm_stmt 6 ∷ [] } ∷ [])
  pub state_statements : seen nodes (states_of (bodies_of (Some an_fsm)) stated) ≡ Ok (
      fsm.Assign (the_target 0) (the_expr 0) 3 ∷ fsm.NextState (codes "B") 4 ∷ fsm.Assign (the_target 0) (the_expr 0) 3
      ∷ fsm.If (record { cond = the_expr 0; body = the_fsm_stmt 0 ∷ the_fsm_stmt 1 ∷ [] } ∷ []) (the_fsm_stmt 2 ∷ []) 2
      ∷ fsm.NextState (codes "B") 4 ∷ fsm.Case (the_expr 1) (record { key = pos 1; body = the_fsm_stmt 4 ∷ [] } ∷ []) [] 5
      ∷ fsm.NextValue (the_target 0) (the_expr 1) 6 ∷ [])
  pub state_too_deep : seen nodes (states_of (record { name = []; places = 3 ∷ [] } ∷ []) cases) ≡ Err (record { line = 5; kind = kind.Limit limit.Depth })
  pub next_state_elsewhere : seen stmts (lay_out (1 ∷ []) stated) ≡ Err (record { line = 4; kind = kind.WrongKind })
  -- an FSM stands behind what stands before it
  pub place_of_first : place_of added 0 1 ≡ Some (record { comb = 4; sync = 2 })
  pub place_of_second : place_of added 0 4 ≡ Some (record { comb = 6; sync = 3 })
  pub place_of_none : place_of added 0 5 ≡ None
  pub place_elsewhere : place_of added 3 1 ≡ None
