-- A statement that a description has made becomes one of the design, with all that stands in it.
use Rattle.std.specs.Prelude.{ℕ, zero, suc, List, [], ◌∷◌, length, reverse, slice_get, Option, Some, None}
use Rattle.lx_text.specs.declared.faults.LimitKind.TheVariants as limit
use Rattle.lx_text.specs.declared.faults.Kind.TheVariants as kind
use Rattle.lx_fhdl.specs.Below.{ExprId, StmtId}
use Rattle.lx_fhdl.specs.declared.stmts.Arm.{Arm}
use Rattle.lx_fhdl.specs.declared.stmts.Branch.{Branch}
use Rattle.lx_fhdl.specs.declared.stmts.Stmt.TheVariants as stmt
use Rattle.lx_state.specs.declared.machine.Form.{Form}
use Rattle.lx_state.specs.declared.machine.Form.TheVariants as form
use Rattle.lx_state.specs.declared.machine.Machine.{Machine}
use Rattle.lx_state.specs.declared.machine.Made.{Made}
use Rattle.lx_state.specs.declared.machine.MadeArm.{MadeArm}
use Rattle.lx_state.specs.Step.{Step, give, fault, or_fault, reads, ◌>>=◌}
use Rattle.lx_objects.specs.Exprs.{put_stmt}

-- the statement at a place
unfoldable pub statement_at : ℕ → ℕ → Step Made
statement_at line at m = or_fault (slice_get m.made at) line kind.WrongKind m

-- ---- the branches of an `If`

-- the branch before an `Elif`
abbrev pub before : Option Made → Option ℕ
before None = None
before (Some s) = elim s.form as (λ _. Option ℕ) [ form.Assign t v ↦ None | form.If b c body ↦ b | form.Else b body ↦ None | form.Case on arms rest ↦ None | form.NextState name ↦ None | form.NextValue t v ↦ None ]

-- a branch and those before it, at most n
unfoldable pub chain : List Made → ℕ → Option ℕ → List ℕ
chain made zero at = []
chain made (suc n) None = []
chain made (suc n) (Some at) = at ∷ chain made n (before (slice_get made at))

-- the branches up to one, in the order of the text
abbrev pub branches_to : Machine → ℕ → List ℕ
branches_to m at = reverse (chain m.made (length m.made) (Some at))

-- ---- laying out, where the statements inside are laid out by `block`

abbrev pub Block : Type 0
Block = List ℕ → Step (List StmtId)

abbrev pub branch_of : ℕ → Block → Form → Step Branch
branch_of line block (form.If before cond body) = do
  ids ← block body
  give (record { cond = cond; body = ids })
branch_of line block _ = fault line kind.WrongKind

-- a branch of an `If` on this line
unfoldable pub lay_branch : ℕ → Block → ℕ → Step Branch
lay_branch line block at = do
  s ← statement_at line at
  branch_of line block s.form

unfoldable pub lay_branches : ℕ → Block → List ℕ → Step (List Branch)
lay_branches line block [] = give []
lay_branches line block (at ∷ ats) = do
  branch ← lay_branch line block at
  branches ← lay_branches line block ats
  give (branch ∷ branches)

-- the branches up to one, and the rest
unfoldable pub lay_if : ℕ → Block → ℕ → List ℕ → Step StmtId
lay_if line block last rest = do
  places ← reads (λ m. branches_to m last)
  branches ← lay_branches line block places
  others ← block rest
  put_stmt line (stmt.If branches others line)

unfoldable pub lay_arms : Block → List MadeArm → Step (List Arm)
lay_arms block [] = give []
lay_arms block (arm ∷ arms) = do
  ids ← block arm.body
  more ← lay_arms block arms
  give (record { key = arm.key; body = ids } ∷ more)

unfoldable pub lay_case : ℕ → Block → ExprId → List MadeArm → List ℕ → Step StmtId
lay_case line block on arms rest = do
  laid ← lay_arms block arms
  others ← block rest
  put_stmt line (stmt.Case on laid others line)

-- by the form of a statement at a place
abbrev pub lay_form : ℕ → Block → ℕ → Form → Step StmtId
lay_form line block at (form.Assign target source) = put_stmt line (stmt.Assign target source line)
lay_form line block at (form.If before cond body) = lay_if line block at []
lay_form line block at (form.Else before body) = lay_if line block before body
lay_form line block at (form.Case on arms rest) = lay_case line block on arms rest
-- what stands in a state of an FSM alone
lay_form line block at _ = fault line kind.WrongKind

unfoldable pub lay_all : (ℕ → Step StmtId) → List ℕ → Step (List StmtId)
lay_all f [] = give []
lay_all f (at ∷ ats) = do
  id ← f at
  ids ← lay_all f ats
  give (id ∷ ids)

-- the statement at a place, within so many levels; it stands in one on this line
unfoldable pub lay : ℕ → ℕ → ℕ → Step StmtId
lay zero line at = fault line (kind.Limit limit.Depth)
lay (suc levels) line at = do
  s ← statement_at line at
  lay_form s.line (lay_all (lay levels s.line)) at s.form

-- statements that stand in no other; none has more levels
abbrev pub lay_out : List ℕ → Step (List StmtId)
lay_out made = lay_all (lay 64 0) made
