-- How deep the targets and the statements of a design nest, as far as 129.
use Rattle.std.specs.Prelude.{ℕ, List, [], ◌∷◌, ◌+◌, max, min, slice_index_or}
use Rattle.lx_fhdl.specs.Below.{StmtId, TargetId}
use Rattle.lx_fhdl.specs.Designs as design
use Rattle.lx_fhdl.specs.Keeping.{stmt_depth, target_depth}
use Rattle.lx_fhdl.specs.declared.design.Design.{Design}
use Rattle.lx_fhdl.specs.declared.stmts.Arm.{Arm}
use Rattle.lx_fhdl.specs.declared.stmts.Branch.{Branch}
use Rattle.lx_fhdl.specs.declared.stmts.Stmt.{Stmt}
use Rattle.lx_fhdl.specs.declared.stmts.Stmt.TheVariants as stmt
use Rattle.lx_fhdl.specs.declared.stmts.Target.{Target}
use Rattle.lx_fhdl.specs.declared.stmts.Target.TheVariants as target
use Rattle.lx_kept.specs.Tables.{IsTable}

-- one more than 128 stands for all that are more
abbrev pub capped : ℕ → ℕ
capped n = min n 129

abbrev pub depth_at : List ℕ → ℕ → ℕ
depth_at depths k = slice_index_or depths k 0

-- ---- targets

-- the deepest of some targets, of which depths are known
abbrev pub deepest_target : List ℕ → List TargetId → ℕ
deepest_target depths [] = 0
deepest_target depths (i ∷ is) = max (depth_at depths i.place) (deepest_target depths is)

-- a target, from its parts
abbrev pub target_deep : List ℕ → Target → ℕ
target_deep depths (target.Whole x) = 0
target_deep depths (target.Part x low len) = 0
target_deep depths (target.Cat parts) = deepest_target depths parts
target_deep depths (target.Pick items index) = capped (1 + deepest_target depths items)

-- ---- statements

abbrev pub deepest : List ℕ → List StmtId → ℕ
deepest depths [] = 0
deepest depths (i ∷ is) = max (depth_at depths i.place) (deepest depths is)

abbrev pub deepest_branch : List ℕ → List Branch → ℕ
deepest_branch depths [] = 0
deepest_branch depths (b ∷ bs) = max (deepest depths b.body) (deepest_branch depths bs)

abbrev pub deepest_arm : List ℕ → List Arm → ℕ
deepest_arm depths [] = 0
deepest_arm depths (a ∷ as_) = max (deepest depths a.body) (deepest_arm depths as_)

-- a statement, from its target and the statements inside
abbrev pub stmt_deep : (targets stmts : List ℕ) → Stmt → ℕ
stmt_deep targets stmts (stmt.Assign target value line) = capped (1 + depth_at targets target.place)
stmt_deep targets stmts (stmt.If branches rest line) = capped (1 + max (deepest_branch stmts branches) (deepest stmts rest))
stmt_deep targets stmts (stmt.Case on arms rest line) = capped (1 + max (deepest_arm stmts arms) (deepest stmts rest))

-- ---- tables

-- of the first n targets
abbrev pub AreTargetDepths : Design → ℕ → List ℕ → Type 0
AreTargetDepths d n depths = IsTable 0 (λ k. capped (target_depth (design.target d k))) n depths

-- of the first n statements
abbrev pub AreDepths : Design → ℕ → List ℕ → Type 0
AreDepths d n depths = IsTable 0 (λ k. capped (stmt_depth (design.stmt d k))) n depths
