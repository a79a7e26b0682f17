-- A statement's tree hangs on the trees of its expressions and of the statements inside.
use Rattle.std.proofs.Common.{◌≡◌, ℕ, zero, suc, ◌≤◌, true, List, [], ◌∷◌, ◌++◌, length, Option, Some, None, IfSome, IsTrue, slice_get, refl, subst, arith, ltb-true, lt-ltb}
use Rattle.std.proofs.lemmas.Bool.{and_parts}
use Rattle.lx_arena.specs.Lower.{EachLower}
use Rattle.lx_arena.specs.Folds.{Same, IsLocal, Added, Grows}
use Rattle.lx_arena.proofs.Folds.{fold_at-is, fold_at-same, added_by}
use Rattle.lx_vtext.specs.Tree as tree
use Rattle.lx_vtree.specs.declared.nodes.VExpr.{VExpr}
use Rattle.lx_vtree.specs.declared.nodes.VStmt.{VStmt}
use Rattle.lx_vtree.specs.declared.nodes.VStmt.TheVariants as stmt
use Rattle.lx_vtree.specs.declared.nodes.VTarget.{VTarget}
use Rattle.lx_vtree.specs.declared.nodes.VTarget.TheVariants as target
use Rattle.lx_vtree.specs.Trees.{tree_at}
use Rattle.lx_vtree.specs.Stmts.{StmtRef, plant_target, plant_block, plant_else, plant_stmt, no_stmt, stmt_at, are_stmts_below, is_else_below, is_stmt_below, is_target_placed, is_stmt_placed, StmtsPlaced}

block_same : (g h : ℕ → tree.VStmt) (n : ℕ) (ids : List StmtRef) → Same g h n → are_stmts_below ids n ≡ true → plant_block g ids ≡ plant_block h ids
block_same g h n [] s b = refl
block_same g h n (id ∷ ids) s b = let k = and_parts _ _ b in rw (s id.place (ltb-true _ _ k.0), block_same g h n ids s k.1) refl

else_same : (g h : ℕ → tree.VStmt) (n : ℕ) (o : Option (List StmtRef)) → Same g h n → is_else_below o n ≡ true → plant_else g o ≡ plant_else h o
else_same g h n None s b = refl
else_same g h n (Some ids) s b = rw (block_same g h n ids s b) refl

plant_stmt_same : (f : ℕ → tree.VExpr) (g h : ℕ → tree.VStmt) (n : ℕ) (x : VStmt) → Same g h n → is_stmt_below x n ≡ true → plant_stmt f g x ≡ plant_stmt f h x
plant_stmt_same f g h n (stmt.Assign t blocking e) s b = refl
plant_stmt_same f g h n (stmt.When c so other) s b = let k = and_parts _ _ b in rw (block_same g h n so s k.0, else_same g h n other s k.1) refl

pub stmt_local : (f : ℕ → tree.VExpr) → IsLocal is_stmt_below (plant_stmt f)
stmt_local f = record { same = plant_stmt_same f }

-- the tree of the node at a place
pub stmt_is : (f : ℕ → tree.VExpr) (nodes : List VStmt) (id : ℕ) (s : VStmt) → EachLower is_stmt_below nodes → slice_get nodes id ≡ Some s → stmt_at f nodes id ≡ plant_stmt f (stmt_at f nodes) s
stmt_is f nodes id s low is = fold_at-is is_stmt_below no_stmt (plant_stmt f) (stmt_local f) nodes low id s is

-- a statement that is pushed hangs at the end, and the trees that were there stay
pub added_stmt : (f : ℕ → tree.VExpr) (old : List VStmt) (s : VStmt) → EachLower is_stmt_below (old ++ s ∷ []) → IsTrue (is_stmt_below s (length old)) → Added (stmt_at f) (plant_stmt f) old (old ++ s ∷ []) (length old) s
added_stmt f old s low below = added_by is_stmt_below no_stmt (plant_stmt f) (stmt_local f) old s low below

-- ---- expressions

pub none_placed : (n : ℕ) → StmtsPlaced n []
none_placed n = record { placed = λ k. tt }

pub placed_at : (n : ℕ) (nodes : List VStmt) (id : ℕ) (s : VStmt) → StmtsPlaced n nodes → slice_get nodes id ≡ Some s → IsTrue (is_stmt_placed n s)
placed_at n nodes id s p is = subst (λ o. IfSome o (λ x. IsTrue (is_stmt_placed n x))) is (p.placed id)

target_stays : (f g : ℕ → tree.VExpr) (n : ℕ) (t : VTarget) → is_target_placed n t ≡ true → Same f g n → plant_target f t ≡ plant_target g t
target_stays f g n (target.Whole name) b s = refl
target_stays f g n (target.Part name hi lo) b s = refl
target_stays f g n (target.WholeWord name index) b s = rw (s index.place (ltb-true _ _ b)) refl
target_stays f g n (target.PartWord name index hi lo) b s = rw (s index.place (ltb-true _ _ b)) refl

plant_stays : (f g : ℕ → tree.VExpr) (h : ℕ → tree.VStmt) (n : ℕ) (s : VStmt) → is_stmt_placed n s ≡ true → Same f g n → plant_stmt f h s ≡ plant_stmt g h s
plant_stays f g h n (stmt.Assign t blocking e) b s = let k = and_parts _ _ b in rw (target_stays f g n t k.0 s, s e.place (ltb-true _ _ k.1)) refl
plant_stays f g h n (stmt.When c so other) b s = rw (s c.place (ltb-true _ _ b)) refl

-- the trees of statements stay while their expressions' arena grows
pub stmts_stay : (old new : List VExpr) (nodes : List VStmt) (id : ℕ) → EachLower is_stmt_below nodes → StmtsPlaced (length old) nodes → Grows tree_at old new → stmt_at (tree_at new) nodes id ≡ stmt_at (tree_at old) nodes id
stmts_stay old new nodes id low p grows =
    fold_at-same is_stmt_below no_stmt (plant_stmt (tree_at new)) (plant_stmt (tree_at old)) (stmt_local (tree_at old)) nodes low
    (λ g k x at. plant_stays (tree_at new) (tree_at old) g (length old) x (placed_at (length old) nodes k x p at) grows.trees) id

placed_more_at : (n : ℕ) (old : List VStmt) (s : VStmt) (k : ℕ) → ((j : ℕ) → IfSome (slice_get old j) (λ x. IsTrue (is_stmt_placed n x))) → IsTrue (is_stmt_placed n s) → IfSome (slice_get (old ++ s ∷ []) k) (λ x. IsTrue (is_stmt_placed n x))
placed_more_at n [] s zero p h = h
placed_more_at n [] s (suc k) p h = tt
placed_more_at n (x ∷ xs) s zero p h = p zero
placed_more_at n (x ∷ xs) s (suc k) p h = placed_more_at n xs s k (λ j. p (suc j)) h

pub placed_more : (n : ℕ) (old : List VStmt) (s : VStmt) → StmtsPlaced n old → IsTrue (is_stmt_placed n s) → StmtsPlaced n (old ++ s ∷ [])
placed_more n old s p h = record { placed = λ k. placed_more_at n old s k p.placed h }

target_wider : (n m : ℕ) (t : VTarget) → n ≤ m → is_target_placed n t ≡ true → is_target_placed m t ≡ true
target_wider n m (target.Whole name) le b = refl
target_wider n m (target.Part name hi lo) le b = refl
target_wider n m (target.WholeWord name index) le b = let l = ltb-true index.place n b in lt-ltb index.place m (omega arith)
target_wider n m (target.PartWord name index hi lo) le b = let l = ltb-true index.place n b in lt-ltb index.place m (omega arith)

placed_wider : (n m : ℕ) (s : VStmt) → n ≤ m → is_stmt_placed n s ≡ true → is_stmt_placed m s ≡ true
placed_wider n m (stmt.Assign t blocking e) le b =
    let k = and_parts _ _ b in
    let l = ltb-true e.place n k.1 in
    rw (target_wider n m t le k.0, lt-ltb e.place m (omega arith)) refl
placed_wider n m (stmt.When c so other) le b = let l = ltb-true c.place n b in lt-ltb c.place m (omega arith)

some_wider : (n m : ℕ) (o : Option VStmt) → n ≤ m → IfSome o (λ x. IsTrue (is_stmt_placed n x)) → IfSome o (λ x. IsTrue (is_stmt_placed m x))
some_wider n m None le b = tt
some_wider n m (Some x) le b = placed_wider n m x le b

-- statements stay placed while their expressions' arena grows
pub stmts_wider : (n m : ℕ) (nodes : List VStmt) → n ≤ m → StmtsPlaced n nodes → StmtsPlaced m nodes
stmts_wider n m nodes le p = record { placed = λ k. some_wider n m (slice_get nodes k) le (p.placed k) }
