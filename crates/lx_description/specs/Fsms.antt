-- The statements of FSMs as trees: what they assign beside the state.
use Rattle.std.specs.Prelude.{ℕ, List, [], ◌∷◌}
use Rattle.lx_arena.specs.Folds.{fold_at}
use Rattle.lx_circuit.specs.Terms.{Term}
use Rattle.lx_circuit.specs.Statements as tree
use Rattle.lx_fhdl.specs.Designs as design
use Rattle.lx_fhdl.specs.Stmts.{no_stmt}
use Rattle.lx_description.specs.Below.{FsmStmtId}
use Rattle.lx_description.specs.declared.fsms.FsmBranch.{FsmBranch}
use Rattle.lx_description.specs.declared.fsms.FsmArm.{FsmArm}
use Rattle.lx_description.specs.declared.fsms.FsmStmt.{FsmStmt}
use Rattle.lx_description.specs.declared.fsms.FsmStmt.TheVariants.{Assign, If, Case, NextState, NextValue}
use Rattle.lx_description.specs.declared.description.Description.{Description}

abbrev pub block_at : (ℕ → tree.Stmt) → List FsmStmtId → tree.Block
block_at s [] = tree.Done
block_at s (i ∷ is) = tree.Then (s i.place) (block_at s is)

abbrev pub branches_at : (ℕ → Term) → (ℕ → tree.Stmt) → List FsmBranch → tree.Branches
branches_at t s [] = tree.NoBranch
branches_at t s (b ∷ bs) = tree.Branch (t b.cond.place) (block_at s b.body) (branches_at t s bs)

abbrev pub arms_at : (ℕ → tree.Stmt) → List FsmArm → tree.Arms
arms_at s [] = tree.NoArm
arms_at s (a ∷ as_) = tree.Arm a.key (block_at s a.body) (arms_at s as_)

-- a NextValue is an assignment, and a NextState assigns nothing
abbrev pub node_assigned : (ℕ → Term) → (ℕ → tree.Target) → (ℕ → tree.Stmt) → FsmStmt → tree.Stmt
node_assigned t g s (Assign target value line) = tree.Assign (g target.place) (t value.place)
node_assigned t g s (If branches rest line) = tree.If (branches_at t s branches) (block_at s rest)
node_assigned t g s (Case on arms rest line) = tree.Case (t on.place) (arms_at s arms) (block_at s rest)
node_assigned t g s (NextState name line) = no_stmt
node_assigned t g s (NextValue target value line) = tree.Assign (g target.place) (t value.place)

-- the statement at a place
unfoldable pub assigned_at : (ℕ → Term) → (ℕ → tree.Target) → List FsmStmt → ℕ → tree.Stmt
assigned_at t g xs k = fold_at no_stmt (node_assigned t g) xs k

-- the statements of a state
abbrev pub assigned : Description → List FsmStmtId → tree.Block
assigned d ids = block_at (assigned_at (design.term d.design) (design.target d.design) d.fsm_stmts) ids
