-- The trees of targets and statements that hang in arenas.
use Rattle.std.specs.Prelude.{ℕ, List, [], ◌∷◌}
use Rattle.lx_arena.specs.Folds.{fold_at}
use Rattle.lx_circuit.specs.Terms.{Term}
use Rattle.lx_circuit.specs.Statements as tree
use Rattle.lx_fhdl.specs.Below.{TargetId, StmtId}
use Rattle.lx_fhdl.specs.declared.stmts.Target.{Target}
use Rattle.lx_fhdl.specs.declared.stmts.Target.TheVariants as target
use Rattle.lx_fhdl.specs.declared.stmts.Branch.{Branch}
use Rattle.lx_fhdl.specs.declared.stmts.Arm.{Arm}
use Rattle.lx_fhdl.specs.declared.stmts.Stmt.{Stmt}
use Rattle.lx_fhdl.specs.declared.stmts.Stmt.TheVariants as stmt

abbrev pub targets_at : (ℕ → tree.Target) → List TargetId → tree.Targets
targets_at g [] = tree.NoTarget
targets_at g (i ∷ is) = tree.MoreTargets (g i.place) (targets_at g is)

-- the tree of a target, from the trees of expressions and of its parts
abbrev pub node_target : (ℕ → Term) → (ℕ → tree.Target) → Target → tree.Target
node_target t g (target.Whole x) = tree.Whole x.0
node_target t g (target.Part x low len) = tree.Part x.0 low len
node_target t g (target.Cat parts) = tree.CatTarget (targets_at g parts)
node_target t g (target.Pick items index) = tree.PickTarget (targets_at g items) (t index.place)

-- what stands where no node is: it assigns nothing
abbrev pub no_target : tree.Target
no_target = tree.CatTarget tree.NoTarget

-- the target at a place
unfoldable pub target_at : (ℕ → Term) → List Target → ℕ → tree.Target
target_at t xs k = fold_at no_target (node_target t) xs k

abbrev pub block_at : (ℕ → tree.Stmt) → List StmtId → tree.Block
block_at s [] = tree.Done
block_at s (i ∷ is) = tree.Then (s i.place) (block_at s is)

abbrev pub branches_at : (ℕ → Term) → (ℕ → tree.Stmt) → List Branch → tree.Branches
branches_at t s [] = tree.NoBranch
branches_at t s (b ∷ bs) = tree.Branch (t b.cond.place) (block_at s b.body) (branches_at t s bs)

abbrev pub arms_at : (ℕ → tree.Stmt) → List Arm → tree.Arms
arms_at s [] = tree.NoArm
arms_at s (a ∷ as_) = tree.Arm a.key (block_at s a.body) (arms_at s as_)

-- the tree of a statement, from the trees of expressions, of targets, and of the statements inside
abbrev pub node_stmt : (ℕ → Term) → (ℕ → tree.Target) → (ℕ → tree.Stmt) → Stmt → tree.Stmt
node_stmt t g s (stmt.Assign target value line) = tree.Assign (g target.place) (t value.place)
node_stmt t g s (stmt.If branches rest line) = tree.If (branches_at t s branches) (block_at s rest)
node_stmt t g s (stmt.Case on arms rest line) = tree.Case (t on.place) (arms_at s arms) (block_at s rest)

-- what stands where no node is: it assigns nothing
abbrev pub no_stmt : tree.Stmt
no_stmt = tree.If tree.NoBranch tree.Done

-- the statement at a place
unfoldable pub stmt_at : (ℕ → Term) → (ℕ → tree.Target) → List Stmt → ℕ → tree.Stmt
stmt_at t g xs k = fold_at no_stmt (node_stmt t g) xs k
