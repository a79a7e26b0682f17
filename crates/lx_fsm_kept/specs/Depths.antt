-- How deep the targets of a design and the statements of FSMs nest, as far as 65.
use Rattle.std.specs.Prelude.{ℕ, List, [], ◌∷◌, ◌+◌, ◌<◌, max, min, slice_index_or}
use Rattle.lx_circuit.specs.Statements.{Stmt}
use Rattle.lx_fhdl.specs.Below.{TargetId}
use Rattle.lx_fhdl.specs.Designs as design
use Rattle.lx_fhdl.specs.Keeping.{stmt_depth, target_depth}
use Rattle.lx_fhdl.specs.declared.design.Design.{Design}
use Rattle.lx_fhdl.specs.declared.stmts.Target.{Target}
use Rattle.lx_fhdl.specs.declared.stmts.Target.TheVariants as target
use Rattle.lx_description.specs.Below.{FsmStmtId}
use Rattle.lx_description.specs.Fsms.{assigned_at}
use Rattle.lx_description.specs.declared.fsms.FsmArm.{FsmArm}
use Rattle.lx_description.specs.declared.fsms.FsmBranch.{FsmBranch}
use Rattle.lx_description.specs.declared.fsms.FsmStmt.{FsmStmt}
use Rattle.lx_description.specs.declared.fsms.FsmStmt.TheVariants as fsm
use Rattle.lx_kept.specs.Tables.{IsTable}

-- one more than 64 stands for all that are more
abbrev pub capped : ℕ → ℕ
capped n = min n 65

abbrev pub depth_at : List ℕ → ℕ → ℕ
depth_at depths k = slice_index_or depths k 0

-- ---- targets

-- the deepest of some targets, of which depths are known
abbrev pub deepest_target : List ℕ → List TargetId → ℕ
deepest_target depths [] = 0
deepest_target depths (i ∷ is) = max (depth_at depths i.place) (deepest_target depths is)

-- a target, from its parts
abbrev pub target_deep : List ℕ → Target → ℕ
target_deep depths (target.Whole x) = 0
target_deep depths (target.Part x low len) = 0
target_deep depths (target.Cat parts) = deepest_target depths parts
target_deep depths (target.Pick items index) = capped (1 + deepest_target depths items)

-- ---- statements

abbrev pub deepest : List ℕ → List FsmStmtId → ℕ
deepest depths [] = 0
deepest depths (i ∷ is) = max (depth_at depths i.place) (deepest depths is)

abbrev pub deepest_branch : List ℕ → List FsmBranch → ℕ
deepest_branch depths [] = 0
deepest_branch depths (b ∷ bs) = max (deepest depths b.body) (deepest_branch depths bs)

abbrev pub deepest_arm : List ℕ → List FsmArm → ℕ
deepest_arm depths [] = 0
deepest_arm depths (a ∷ as_) = max (deepest depths a.body) (deepest_arm depths as_)

-- a statement, from its target and the statements inside
abbrev pub stmt_deep : (targets stmts : List ℕ) → FsmStmt → ℕ
stmt_deep targets stmts (fsm.Assign target value line) = capped (1 + depth_at targets target.place)
stmt_deep targets stmts (fsm.NextState name line) = 1
stmt_deep targets stmts (fsm.NextValue target value line) = capped (1 + depth_at targets target.place)
stmt_deep targets stmts (fsm.If branches rest line) = capped (1 + max (deepest_branch stmts branches) (deepest stmts rest))
stmt_deep targets stmts (fsm.Case on arms rest line) = capped (1 + max (deepest_arm stmts arms) (deepest stmts rest))

-- ---- tables

-- of the first n targets
abbrev pub AreTargetDepths : Design → ℕ → List ℕ → Type 0
AreTargetDepths d n depths = IsTable 0 (λ k. capped (target_depth (design.target d k))) n depths

-- the tree of the statement at a place
abbrev pub stmt_tree : Design → List FsmStmt → ℕ → Stmt
stmt_tree d xs k = assigned_at (design.term d) (design.target d) xs k

-- of the first n statements of FSMs
abbrev pub AreDepths : Design → List FsmStmt → ℕ → List ℕ → Type 0
AreDepths d xs n depths = IsTable 0 (λ k. capped (stmt_depth (stmt_tree d xs k))) n depths

-- the target of an assignment is one of the first n
abbrev pub TargetIsThere : ℕ → FsmStmt → Type 0
TargetIsThere n (fsm.Assign target value line) = target.place < n
TargetIsThere n (fsm.NextValue target value line) = target.place < n
TargetIsThere n _ = Unit {0}
