-- The target and the statement at a place are made of those at the places of their parts.
use Rattle.std.proofs.Common.{◌≡◌, ℕ, true, List, [], ◌∷◌, ◌++◌, length, Some, refl, ◌∙◌, ap, nat_lt}
use Rattle.std.specs.Prelude.{slice_get}
use Rattle.std.proofs.lemmas.Bool.{ltb-true, and_parts}
use Rattle.lx_arena.specs.Lower.{EachLower}
use Rattle.lx_arena.specs.Folds.{Same, IsLocal, Added}
use Rattle.lx_arena.proofs.Folds.{fold_at-is, added_by}
use Rattle.lx_circuit.specs.Terms.{Term}
use Rattle.lx_circuit.specs.Statements as tree
use Rattle.lx_fhdl.specs.Below.{TargetId, StmtId, all_targets_below, target_below, all_stmts_below, all_branches_below, all_arms_below, stmt_below}
use Rattle.lx_fhdl.specs.Stmts.{targets_at, node_target, no_target, target_at, block_at, branches_at, arms_at, node_stmt, no_stmt, stmt_at}
use Rattle.lx_fhdl.specs.declared.stmts.Target.{Target}
use Rattle.lx_fhdl.specs.declared.stmts.Target.TheVariants as target
use Rattle.lx_fhdl.specs.declared.stmts.Branch.{Branch}
use Rattle.lx_fhdl.specs.declared.stmts.Arm.{Arm}
use Rattle.lx_fhdl.specs.declared.stmts.Stmt.{Stmt}
use Rattle.lx_fhdl.specs.declared.stmts.Stmt.TheVariants as stmt

-- ---- targets

targets_same : (f g : ℕ → tree.Target) (n : ℕ) (is : List TargetId) → Same f g n → all_targets_below n is ≡ true → targets_at f is ≡ targets_at g is
targets_same f g n [] h e = refl
targets_same f g n (i ∷ is) h e =
    let p = and_parts (nat_lt i.place n) (all_targets_below n is) e in
    ap (λ (x : tree.Target). tree.MoreTargets x (targets_at f is)) (h i.place (ltb-true i.place n p.0))
    ∙ ap (tree.MoreTargets (g i.place)) (targets_same f g n is h p.1)

pub node_target_same : (t : ℕ → Term) (f g : ℕ → tree.Target) (n : ℕ) (x : Target) → Same f g n → target_below x n ≡ true → node_target t f x ≡ node_target t g x
node_target_same t f g n (target.Whole x) h e = refl
node_target_same t f g n (target.Part x low len) h e = refl
node_target_same t f g n (target.Cat parts) h e = ap tree.CatTarget (targets_same f g n parts h e)
node_target_same t f g n (target.Pick items index) h e = ap (λ (a : tree.Targets). tree.PickTarget a (t index.place)) (targets_same f g n items h e)

pub target_local : (t : ℕ → Term) → IsLocal target_below (node_target t)
target_local t = record { same = node_target_same t }

pub target_at-is : (t : ℕ → Term) (xs : List Target) → EachLower target_below xs → (k : ℕ) (x : Target) → slice_get xs k ≡ Some x → target_at t xs k ≡ node_target t (target_at t xs) x
unfolding target_at
target_at-is t xs low k x e = fold_at-is target_below no_target (node_target t) (target_local t) xs low k x e

-- a node that is pushed
pub target_added : (t : ℕ → Term) (old : List Target) (x : Target) → EachLower target_below (old ++ x ∷ []) → target_below x (length old) ≡ true → Added (target_at t) (node_target t) old (old ++ x ∷ []) (length old) x
unfolding target_at
target_added t old x low h = added_by target_below no_target (node_target t) (target_local t) old x low h

-- ---- statements

pub block_same : (f g : ℕ → tree.Stmt) (n : ℕ) (is : List StmtId) → Same f g n → all_stmts_below n is ≡ true → block_at f is ≡ block_at g is
block_same f g n [] h e = refl
block_same f g n (i ∷ is) h e =
    let p = and_parts (nat_lt i.place n) (all_stmts_below n is) e in
    ap (λ (x : tree.Stmt). tree.Then x (block_at f is)) (h i.place (ltb-true i.place n p.0))
    ∙ ap (tree.Then (g i.place)) (block_same f g n is h p.1)

branches_same : (t : ℕ → Term) (f g : ℕ → tree.Stmt) (n : ℕ) (bs : List Branch) → Same f g n → all_branches_below n bs ≡ true → branches_at t f bs ≡ branches_at t g bs
branches_same t f g n [] h e = refl
branches_same t f g n (b ∷ bs) h e =
    let p = and_parts (all_stmts_below n b.body) (all_branches_below n bs) e in
    ap (λ (x : tree.Block). tree.Branch (t b.cond.place) x (branches_at t f bs)) (block_same f g n b.body h p.0)
    ∙ ap (tree.Branch (t b.cond.place) (block_at g b.body)) (branches_same t f g n bs h p.1)

arms_same : (f g : ℕ → tree.Stmt) (n : ℕ) (bs : List Arm) → Same f g n → all_arms_below n bs ≡ true → arms_at f bs ≡ arms_at g bs
arms_same f g n [] h e = refl
arms_same f g n (b ∷ bs) h e =
    let p = and_parts (all_stmts_below n b.body) (all_arms_below n bs) e in
    ap (λ (x : tree.Block). tree.Arm b.key x (arms_at f bs)) (block_same f g n b.body h p.0)
    ∙ ap (tree.Arm b.key (block_at g b.body)) (arms_same f g n bs h p.1)

pub node_stmt_same : (t : ℕ → Term) (w : ℕ → tree.Target) (f g : ℕ → tree.Stmt) (n : ℕ) (x : Stmt) → Same f g n → stmt_below x n ≡ true → node_stmt t w f x ≡ node_stmt t w g x
node_stmt_same t w f g n (stmt.Assign a b line) h e = refl
node_stmt_same t w f g n (stmt.If branches rest line) h e =
    let p = and_parts (all_branches_below n branches) (all_stmts_below n rest) e in
    ap (λ (bs : tree.Branches). tree.If bs (block_at f rest)) (branches_same t f g n branches h p.0)
    ∙ ap (tree.If (branches_at t g branches)) (block_same f g n rest h p.1)
node_stmt_same t w f g n (stmt.Case on arms rest line) h e =
    let p = and_parts (all_arms_below n arms) (all_stmts_below n rest) e in
    ap (λ (bs : tree.Arms). tree.Case (t on.place) bs (block_at f rest)) (arms_same f g n arms h p.0)
    ∙ ap (tree.Case (t on.place) (arms_at g arms)) (block_same f g n rest h p.1)

pub stmt_local : (t : ℕ → Term) (w : ℕ → tree.Target) → IsLocal stmt_below (node_stmt t w)
stmt_local t w = record { same = node_stmt_same t w }

pub stmt_at-is : (t : ℕ → Term) (w : ℕ → tree.Target) (xs : List Stmt) → EachLower stmt_below xs → (k : ℕ) (x : Stmt) → slice_get xs k ≡ Some x → stmt_at t w xs k ≡ node_stmt t w (stmt_at t w xs) x
unfolding stmt_at
stmt_at-is t w xs low k x e = fold_at-is stmt_below no_stmt (node_stmt t w) (stmt_local t w) xs low k x e

-- a node that is pushed
pub stmt_added : (t : ℕ → Term) (w : ℕ → tree.Target) (old : List Stmt) (x : Stmt) → EachLower stmt_below (old ++ x ∷ []) → stmt_below x (length old) ≡ true → Added (stmt_at t w) (node_stmt t w) old (old ++ x ∷ []) (length old) x
unfolding stmt_at
stmt_added t w old x low h = added_by stmt_below no_stmt (node_stmt t w) (stmt_local t w) old x low h
