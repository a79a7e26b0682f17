-- The levels of the trees of targets and statements, and of the texts of statements.
use Rattle.std.proofs.Common.{ℕ, Bool, List, Option}
use Rattle.lx_arena.specs.Folds.{level, fold_within}
use Rattle.lx_circuit.specs.Terms.{Term}
use Rattle.lx_circuit.specs.Statements as tree
use Rattle.lx_vtext.specs.Tree.{Name, VStmt}
use Rattle.lx_fhdl.specs.Stmts.{no_target, node_target, no_stmt, node_stmt}
use Rattle.lx_fhdl.specs.declared.stmts.Target.{Target}
use Rattle.lx_fhdl.specs.declared.stmts.Stmt.{Stmt}
use Rattle.lx_fhdl.specs.declared.design.Design.{Design}
use Rattle.lx_emission.specs.Texts.{no_text, node_stmt_text}

abbrev pub target_of : (ℕ → Term) → (ℕ → tree.Target) → Option Target → tree.Target
target_of t g o = level no_target (node_target t) g o

abbrev pub target_within : (ℕ → Term) → List Target → ℕ → ℕ → tree.Target
target_within t xs n k = fold_within no_target (node_target t) xs n k

abbrev pub stmt_of : (ℕ → Term) → (ℕ → tree.Target) → (ℕ → tree.Stmt) → Option Stmt → tree.Stmt
stmt_of t g s o = level no_stmt (node_stmt t g) s o

abbrev pub stmt_within : (ℕ → Term) → (ℕ → tree.Target) → List Stmt → ℕ → ℕ → tree.Stmt
stmt_within t g xs n k = fold_within no_stmt (node_stmt t g) xs n k

abbrev pub stmt_text_of : Design → List Name → Bool → (ℕ → VStmt) → Option Stmt → VStmt
stmt_text_of d names now g o = level no_text (node_stmt_text d names now) g o

abbrev pub stmt_text_within : Design → List Name → Bool → ℕ → ℕ → VStmt
stmt_text_within d names now n k = fold_within no_text (node_stmt_text d names now) d.stmts n k
