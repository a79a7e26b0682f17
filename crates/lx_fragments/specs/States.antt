-- The statements of a state of an FSM become nodes of the arena that a description has for them, with all that stands in them.
use Rattle.std.specs.Prelude.{ℕ, zero, suc, List, [], ◌∷◌, ◌++◌, length, map, slice_get, Option, Some, None, if◌then◌else◌}
use Rattle.lx_text.specs.declared.faults.LimitKind.TheVariants as limit
use Rattle.lx_text.specs.declared.faults.Kind.TheVariants as kind
use Rattle.lx_fhdl.specs.Below.{ExprId}
use Rattle.lx_description.specs.Below.{FsmStmtId, fsm_below}
use Rattle.lx_description.specs.Instance.{the_fsm_stmt}
use Rattle.lx_description.specs.declared.fsms.FsmArm.{FsmArm}
use Rattle.lx_description.specs.declared.fsms.FsmBranch.{FsmBranch}
use Rattle.lx_description.specs.declared.fsms.FsmStmt.{FsmStmt}
use Rattle.lx_description.specs.declared.fsms.FsmStmt.TheVariants as fsm
use Rattle.lx_description.specs.declared.fsms.StateDecl.{StateDecl}
use Rattle.lx_state.specs.declared.machine.Form.{Form}
use Rattle.lx_state.specs.declared.machine.Form.TheVariants as form
use Rattle.lx_state.specs.declared.machine.Fsm.{Fsm}
use Rattle.lx_state.specs.declared.machine.MadeArm.{MadeArm}
use Rattle.lx_state.specs.Step.{Step, give, fault, or_fault, reads, ◌>>=◌}
use Rattle.lx_fragments.specs.Laying.{branches_to, statement_at}
use Rattle.lx_fragments.specs.declared.states.Body.{Body}

-- a node at the end of the arena, where what stands in it is there
unfoldable pub put_fsm_stmt : ℕ → FsmStmt → Step FsmStmtId
put_fsm_stmt line node m =
    if fsm_below node (length m.fsm_stmts)
    then give (the_fsm_stmt (length m.fsm_stmts)) (record m { fsm_stmts = m.fsm_stmts ++ node ∷ [] })
    else fault line kind.WrongKind m

-- the state that a NextState goes to
unfoldable pub text_at : ℕ → ℕ → Step (List ℕ)
text_at line at m = or_fault (slice_get m.texts at) line kind.WrongKind m

-- ---- laying out, where the statements inside are laid out by `block`

abbrev pub Block : Type 0
Block = List ℕ → Step (List FsmStmtId)

abbrev pub branch_of : ℕ → Block → Form → Step FsmBranch
branch_of line block (form.If before cond body) = do
  ids ← block body
  give (record { cond = cond; body = ids })
branch_of line block _ = fault line kind.WrongKind

-- a branch of an `If` on this line
unfoldable pub act_branch : ℕ → Block → ℕ → Step FsmBranch
act_branch line block at = do
  s ← statement_at line at
  branch_of line block s.form

unfoldable pub act_branches : ℕ → Block → List ℕ → Step (List FsmBranch)
act_branches line block [] = give []
act_branches line block (at ∷ ats) = do
  branch ← act_branch line block at
  branches ← act_branches line block ats
  give (branch ∷ branches)

-- the branches up to one, and the rest
unfoldable pub act_if : ℕ → Block → ℕ → List ℕ → Step FsmStmtId
act_if line block last rest = do
  places ← reads (λ m. branches_to m last)
  branches ← act_branches line block places
  others ← block rest
  put_fsm_stmt line (fsm.If branches others line)

unfoldable pub act_arms : Block → List MadeArm → Step (List FsmArm)
act_arms block [] = give []
act_arms block (arm ∷ arms) = do
  ids ← block arm.body
  more ← act_arms block arms
  give (record { key = arm.key; body = ids } ∷ more)

unfoldable pub act_case : ℕ → Block → ExprId → List MadeArm → List ℕ → Step FsmStmtId
act_case line block on arms rest = do
  laid ← act_arms block arms
  others ← block rest
  put_fsm_stmt line (fsm.Case on laid others line)

unfoldable pub act_next : ℕ → ℕ → Step FsmStmtId
act_next line at = do
  name ← text_at line at
  put_fsm_stmt line (fsm.NextState name line)

-- by the form of a statement at a place
abbrev pub act_form : ℕ → Block → ℕ → Form → Step FsmStmtId
act_form line block at (form.Assign target source) = put_fsm_stmt line (fsm.Assign target source line)
act_form line block at (form.If before cond body) = act_if line block at []
act_form line block at (form.Else before body) = act_if line block before body
act_form line block at (form.Case on arms rest) = act_case line block on arms rest
act_form line block at (form.NextState name) = act_next line name
act_form line block at (form.NextValue target source) = put_fsm_stmt line (fsm.NextValue target source line)

unfoldable pub act_all : (ℕ → Step FsmStmtId) → List ℕ → Step (List FsmStmtId)
act_all f [] = give []
act_all f (at ∷ ats) = do
  id ← f at
  ids ← act_all f ats
  give (id ∷ ids)

-- the statement at a place, within so many levels; it stands in one on this line
unfoldable pub act : ℕ → ℕ → ℕ → Step FsmStmtId
act zero line at = fault line (kind.Limit limit.Depth)
act (suc levels) line at = do
  s ← statement_at line at
  act_form s.line (act_all (act levels s.line)) at s.form

-- ---- states

abbrev pub places_of : Option (List ℕ) → List ℕ
places_of None = []
places_of (Some places) = places

-- a state's name with its statements
abbrev pub body_of : Fsm → List ℕ × ℕ → Body
body_of f e = record { name = e.0; places = places_of (slice_get f.bodies e.1) }

abbrev pub body_at : Fsm → Option (List ℕ × ℕ) → List Body
body_at f None = []
body_at f (Some e) = body_of f e ∷ []

-- of all states, in the order of their numbers
abbrev pub bodies_of : Option Fsm → List Body
bodies_of None = []
bodies_of (Some f) = map (body_of f) f.names

-- its statements stand in no other; none has more levels
unfoldable pub state_of : Body → Step StateDecl
state_of x = do
  ids ← act_all (act 64 0) x.places
  give (record { name = x.name; body = ids })

unfoldable pub states_of : List Body → Step (List StateDecl)
states_of [] = give []
states_of (x ∷ xs) = do
  state ← state_of x
  states ← states_of xs
  give (state ∷ states)
