-- The trees of the statements of FSMs: each is made of those of its node's children.
use Rattle.std.proofs.Common.{◌≡◌, ℕ, List, [], ◌∷◌, true, refl, ap, ◌∙◌, nat_lt}
use Rattle.std.specs.Prelude.{Some, slice_get}
use Rattle.std.proofs.lemmas.Bool.{and_parts, ltb-true}
use Rattle.lx_arena.specs.Folds.{IsLocal, Same}
use Rattle.lx_arena.specs.Lower.{EachLower}
use Rattle.lx_arena.proofs.Folds.{fold_at-is}
use Rattle.lx_circuit.specs.Statements as tree
use Rattle.lx_circuit.specs.Terms.{Term}
use Rattle.lx_fhdl.specs.Designs as design
use Rattle.lx_fhdl.specs.Stmts.{no_stmt}
use Rattle.lx_fhdl.specs.declared.design.Design.{Design}
use Rattle.lx_description.specs.Below.{FsmStmtId, all_fsm_arms_below, all_fsm_below, all_fsm_branches_below, fsm_below}
use Rattle.lx_description.specs.Fsms.{arms_at, assigned_at, block_at, branches_at, node_assigned}
use Rattle.lx_description.specs.declared.fsms.FsmArm.{FsmArm}
use Rattle.lx_description.specs.declared.fsms.FsmBranch.{FsmBranch}
use Rattle.lx_description.specs.declared.fsms.FsmStmt.{FsmStmt}
use Rattle.lx_description.specs.declared.fsms.FsmStmt.TheVariants as fsm
use Rattle.lx_fsm_kept.specs.Depths.{stmt_tree}

-- ---- one level

block_same : (f g : ℕ → tree.Stmt) (n : ℕ) (is : List FsmStmtId) → Same f g n → all_fsm_below n is ≡ true → block_at f is ≡ block_at g is
block_same f g n [] h e = refl
block_same f g n (i ∷ is) h e =
    let p = and_parts (nat_lt i.place n) (all_fsm_below n is) e in
    ap (λ (x : tree.Stmt). tree.Then x (block_at f is)) (h i.place (ltb-true i.place n p.0)) ∙ ap (tree.Then (g i.place)) (block_same f g n is h p.1)

branches_same : (t : ℕ → Term) (f g : ℕ → tree.Stmt) (n : ℕ) (bs : List FsmBranch) → Same f g n → all_fsm_branches_below n bs ≡ true → branches_at t f bs ≡ branches_at t g bs
branches_same t f g n [] h e = refl
branches_same t f g n (b ∷ bs) h e =
    let p = and_parts (all_fsm_below n b.body) (all_fsm_branches_below n bs) e in
    ap (λ (x : tree.Block). tree.Branch (t b.cond.place) x (branches_at t f bs)) (block_same f g n b.body h p.0)
    ∙ ap (tree.Branch (t b.cond.place) (block_at g b.body)) (branches_same t f g n bs h p.1)

arms_same : (f g : ℕ → tree.Stmt) (n : ℕ) (as_ : List FsmArm) → Same f g n → all_fsm_arms_below n as_ ≡ true → arms_at f as_ ≡ arms_at g as_
arms_same f g n [] h e = refl
arms_same f g n (a ∷ as_) h e =
    let p = and_parts (all_fsm_below n a.body) (all_fsm_arms_below n as_) e in
    ap (λ (x : tree.Block). tree.Arm a.key x (arms_at f as_)) (block_same f g n a.body h p.0) ∙ ap (tree.Arm a.key (block_at g a.body)) (arms_same f g n as_ h p.1)

node_assigned_same : (t : ℕ → Term) (w : ℕ → tree.Target) (f g : ℕ → tree.Stmt) (n : ℕ) (x : FsmStmt) → Same f g n → fsm_below x n ≡ true → node_assigned t w f x ≡ node_assigned t w g x
node_assigned_same t w f g n (fsm.Assign target value line) h e = refl
node_assigned_same t w f g n (fsm.If branches rest line) h e =
    let p = and_parts (all_fsm_branches_below n branches) (all_fsm_below n rest) e in
    ap (λ (bs : tree.Branches). tree.If bs (block_at f rest)) (branches_same t f g n branches h p.0) ∙ ap (tree.If (branches_at t g branches)) (block_same f g n rest h p.1)
node_assigned_same t w f g n (fsm.Case on arms rest line) h e =
    let p = and_parts (all_fsm_arms_below n arms) (all_fsm_below n rest) e in
    ap (λ (bs : tree.Arms). tree.Case (t on.place) bs (block_at f rest)) (arms_same f g n arms h p.0) ∙ ap (tree.Case (t on.place) (arms_at g arms)) (block_same f g n rest h p.1)
node_assigned_same t w f g n (fsm.NextState name line) h e = refl
node_assigned_same t w f g n (fsm.NextValue target value line) h e = refl

assigned_local : (t : ℕ → Term) (w : ℕ → tree.Target) → IsLocal fsm_below (node_assigned t w)
assigned_local t w = record { same = node_assigned_same t w }

pub stmt_is : (d : Design) (xs : List FsmStmt) → EachLower fsm_below xs → (k : ℕ) (x : FsmStmt) → slice_get xs k ≡ Some x → stmt_tree d xs k ≡ node_assigned (design.term d) (design.target d) (stmt_tree d xs) x
unfolding assigned_at
stmt_is d xs low k x e = fold_at-is fsm_below no_stmt (node_assigned (design.term d) (design.target d)) (assigned_local (design.term d) (design.target d)) xs low k x e
