-- Targets and statements over more expressions and targets have the trees that they had.
use Rattle.std.proofs.Common.{◌≡◌, ℕ, ◌<◌, List, [], ◌∷◌, refl, ap, ◌∙◌}
use Rattle.std.specs.Prelude.{Some, slice_get}
use Rattle.lx_arena.specs.Folds.{Same}
use Rattle.lx_arena.specs.Lower.{EachLower}
use Rattle.lx_arena.proofs.Folds.{fold_at-same}
use Rattle.lx_circuit.specs.Terms.{Term}
use Rattle.lx_circuit.specs.Statements as tree
use Rattle.lx_fhdl.specs.Below.{target_below, stmt_below}
use Rattle.lx_fhdl.specs.Keeping.{BranchesStand, StmtStands}
use Rattle.lx_fhdl.specs.Stmts.{targets_at, node_target, no_target, target_at, block_at, branches_at, arms_at, node_stmt, no_stmt, stmt_at}
use Rattle.lx_fhdl.specs.declared.stmts.Branch.{Branch}
use Rattle.lx_fhdl.specs.declared.stmts.Target.{Target}
use Rattle.lx_fhdl.specs.declared.stmts.Target.TheVariants as target
use Rattle.lx_fhdl.specs.declared.stmts.Stmt.{Stmt}
use Rattle.lx_fhdl.specs.declared.stmts.Stmt.TheVariants as stmt
use Rattle.lx_fhdl.proofs.StmtTrees.{target_local, stmt_local}

-- ---- targets

-- the index of a target is one of the first n expressions
abbrev pub HasIndex : ℕ → Target → Type 0
HasIndex n (target.Whole x) = Unit {0}
HasIndex n (target.Part x low len) = Unit {0}
HasIndex n (target.Cat parts) = Unit {0}
HasIndex n (target.Pick items index) = index.place < n

target_terms : (n : ℕ) (f g : ℕ → Term) (w : ℕ → tree.Target) (x : Target) → HasIndex n x → Same f g n → node_target f w x ≡ node_target g w x
target_terms n f g w (target.Whole x) h e = refl
target_terms n f g w (target.Part x low len) h e = refl
target_terms n f g w (target.Cat parts) h e = refl
target_terms n f g w (target.Pick items index) h e = ap (tree.PickTarget (targets_at w items)) (e index.place h)

abbrev pub HaveIndices : ℕ → List Target → Type 0
HaveIndices n ts = (k : ℕ) (x : Target) → slice_get ts k ≡ Some x → HasIndex n x

pub target_kept : (n : ℕ) (f g : ℕ → Term) (ts : List Target) (k : ℕ) → HaveIndices n ts → EachLower target_below ts → Same f g n → target_at f ts k ≡ target_at g ts k
unfolding target_at
target_kept n f g ts k there low e =
    fold_at-same target_below no_target (node_target f) (node_target g) (target_local g) ts low (λ w j x at. target_terms n f g w x (there j x at) e) k

-- ---- statements

branches_terms : (n : ℕ) (f g : ℕ → Term) (h : ℕ → tree.Stmt) (bs : List Branch) → BranchesStand n bs → Same f g n → branches_at f h bs ≡ branches_at g h bs
branches_terms n f g h [] b e = refl
branches_terms n f g h (x ∷ xs) b e =
    ap (λ (t : Term). tree.Branch t (block_at h x.body) (branches_at f h xs)) (e x.cond.place b.0)
    ∙ ap (tree.Branch (g x.cond.place) (block_at h x.body)) (branches_terms n f g h xs b.1 e)

stmt_terms : (n m : ℕ) (f g : ℕ → Term) (v w : ℕ → tree.Target) (h : ℕ → tree.Stmt) (x : Stmt) → StmtStands n m x → Same f g n → Same v w m → node_stmt f v h x ≡ node_stmt g w h x
stmt_terms n m f g v w h (stmt.Assign target value line) b e q =
    ap (λ (t : tree.Target). tree.Assign t (f value.place)) (q target.place b.0) ∙ ap (tree.Assign (w target.place)) (e value.place b.1)
stmt_terms n m f g v w h (stmt.If branches rest line) b e q = ap (λ (bs : tree.Branches). tree.If bs (block_at h rest)) (branches_terms n f g h branches b e)
stmt_terms n m f g v w h (stmt.Case on arms rest line) b e q = ap (λ (t : Term). tree.Case t (arms_at h arms) (block_at h rest)) (e on.place b)

pub stmt_kept : (n m : ℕ) (f g : ℕ → Term) (v w : ℕ → tree.Target) (ss : List Stmt) (k : ℕ) → ((j : ℕ) (x : Stmt) → slice_get ss j ≡ Some x → StmtStands n m x) → EachLower stmt_below ss → Same f g n → Same v w m → stmt_at f v ss k ≡ stmt_at g w ss k
unfolding stmt_at
stmt_kept n m f g v w ss k there low e q =
    fold_at-same stmt_below no_stmt (node_stmt f v) (node_stmt g w) (stmt_local g w) ss low (λ h j x at. stmt_terms n m f g v w h x (there j x at) e q) k
