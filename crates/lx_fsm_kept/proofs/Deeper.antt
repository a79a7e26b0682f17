-- The depth of a node is made of those of its parts, as far as 65.
use Rattle.std.proofs.Common.{◌≡◌, ℕ, ◌+◌, ◌<◌, ◌≤◌, true, false, inl, inr, nat_le, List, [], ◌∷◌, ◌++◌, length, refl, sym, ap, ◌∙◌, arith, nat_lt}
use Rattle.std.specs.Prelude.{max, Some, slice_get}
use Rattle.std.proofs.lemmas.Bool.{and_parts, cases_lt, le-leb, lt-leb, ltb-true}
use Rattle.lx_arena.specs.Lower.{EachLower}
use Rattle.lx_arena.proofs.Places.{lower_at}
use Rattle.lx_circuit.specs.Terms.{Term}
use Rattle.lx_circuit.specs.Statements as tree
use Rattle.lx_fhdl.specs.Below.{TargetId, all_targets_below, target_below}
use Rattle.lx_fhdl.specs.Designs as design
use Rattle.lx_fhdl.specs.Keeping.{EachOf, arms_depth, block_depth, branches_depth, stmt_depth, target_depth, targets_depth}
use Rattle.lx_fhdl.specs.Stmts.{node_target, targets_at}
use Rattle.lx_fhdl.specs.declared.design.Design.{Design}
use Rattle.lx_fhdl.specs.declared.stmts.Target.{Target}
use Rattle.lx_fhdl.specs.declared.stmts.Target.TheVariants as target
use Rattle.lx_fhdl.proofs.StmtTrees.{target_at-is}
use Rattle.lx_description.specs.Below.{FsmStmtId, all_fsm_arms_below, all_fsm_below, all_fsm_branches_below, fsm_below}
use Rattle.lx_description.specs.Fsms.{arms_at, assigned_at, block_at, branches_at, node_assigned}
use Rattle.lx_description.specs.Keeping.{FsmStmtStands}
use Rattle.lx_description.specs.declared.fsms.FsmArm.{FsmArm}
use Rattle.lx_description.specs.declared.fsms.FsmBranch.{FsmBranch}
use Rattle.lx_description.specs.declared.fsms.FsmStmt.{FsmStmt}
use Rattle.lx_description.specs.declared.fsms.FsmStmt.TheVariants as fsm
use Rattle.lx_fsm_kept.specs.Depths.{AreDepths, TargetIsThere, AreTargetDepths, capped, deepest, deepest_arm, deepest_branch, deepest_target, depth_at, stmt_deep, target_deep, stmt_tree}
use Rattle.lx_kept.specs.Tables.{IsTable}
use Rattle.lx_fsm_kept.proofs.Assigned.{stmt_is}
use Rattle.lx_fsm_kept.proofs.Tables.{table_more}

capped_max : (a b : ℕ) → max (capped a) (capped b) ≡ capped (max a b)
capped_max a b = omega arith

capped_more : (a : ℕ) → capped (1 + capped a) ≡ capped (1 + a)
capped_more a = omega arith

-- the greater of two
both : (a b x y : ℕ) → x ≡ capped a → y ≡ capped b → max x y ≡ capped (max a b)
both a b x y e f = rw (e, f) (capped_max a b)

-- a level more
over : (a x : ℕ) → x ≡ capped a → capped (1 + x) ≡ capped (1 + a)
over a x e = rw e (capped_more a)

-- ---- targets

-- what a table says of targets
abbrev pub TellsTargets : (ℕ → tree.Target) → ℕ → List ℕ → Type 0
TellsTargets g n depths = IsTable 0 (λ k. capped (target_depth (g k))) n depths

targets_told : (g : ℕ → tree.Target) (n : ℕ) (depths : List ℕ) (is : List TargetId) → TellsTargets g n depths → all_targets_below n is ≡ true → deepest_target depths is ≡ capped (targets_depth (targets_at g is))
targets_told g n depths [] h low = refl
targets_told g n depths (i ∷ is) h low =
    let p = and_parts (nat_lt i.place n) (all_targets_below n is) low in
    both (target_depth (g i.place)) (targets_depth (targets_at g is)) (depth_at depths i.place) (deepest_target depths is) (h.each i.place (ltb-true i.place n p.0)) (targets_told g n depths is h p.1)

target_told : (t : ℕ → Term) (g : ℕ → tree.Target) (n : ℕ) (depths : List ℕ) (x : Target) → TellsTargets g n depths → target_below x n ≡ true → target_deep depths x ≡ capped (target_depth (node_target t g x))
target_told t g n depths (target.Whole x) h low = refl
target_told t g n depths (target.Part x low_ len) h low = refl
target_told t g n depths (target.Cat parts) h low = targets_told g n depths parts h low
target_told t g n depths (target.Pick items index) h low = over (targets_depth (targets_at g items)) (deepest_target depths items) (targets_told g n depths items h low)

pub target_next : (d : Design) (n : ℕ) (depths : List ℕ) (x : Target) (deep : ℕ) → EachLower target_below d.targets → AreTargetDepths d n depths → slice_get d.targets n ≡ Some x → deep ≡ target_deep depths x → AreTargetDepths d (n + 1) (depths ++ deep ∷ [])
target_next d n depths x deep low h at e =
    table_more 0 (λ k. capped (target_depth (design.target d k))) n depths deep h
    (e ∙ target_told (design.term d) (design.target d) n depths x h (lower_at target_below d.targets low n x at)
    ∙ ap (λ (a : tree.Target). capped (target_depth a)) (sym (target_at-is (design.term d) d.targets low n x at)))

-- ---- statements

abbrev pub Tells : (ℕ → tree.Stmt) → ℕ → List ℕ → Type 0
Tells g n depths = IsTable 0 (λ k. capped (stmt_depth (g k))) n depths

pub block_told : (g : ℕ → tree.Stmt) (n : ℕ) (depths : List ℕ) (is : List FsmStmtId) → Tells g n depths → all_fsm_below n is ≡ true → deepest depths is ≡ capped (block_depth (block_at g is))
block_told g n depths [] h low = refl
block_told g n depths (i ∷ is) h low =
    let p = and_parts (nat_lt i.place n) (all_fsm_below n is) low in
    both (stmt_depth (g i.place)) (block_depth (block_at g is)) (depth_at depths i.place) (deepest depths is) (h.each i.place (ltb-true i.place n p.0)) (block_told g n depths is h p.1)

branches_told : (t : ℕ → Term) (g : ℕ → tree.Stmt) (n : ℕ) (depths : List ℕ) (bs : List FsmBranch) → Tells g n depths → all_fsm_branches_below n bs ≡ true → deepest_branch depths bs ≡ capped (branches_depth (branches_at t g bs))
branches_told t g n depths [] h low = refl
branches_told t g n depths (b ∷ bs) h low =
    let p = and_parts (all_fsm_below n b.body) (all_fsm_branches_below n bs) low in
    both (block_depth (block_at g b.body)) (branches_depth (branches_at t g bs)) (deepest depths b.body) (deepest_branch depths bs) (block_told g n depths b.body h p.0) (branches_told t g n depths bs h p.1)

arms_told : (g : ℕ → tree.Stmt) (n : ℕ) (depths : List ℕ) (bs : List FsmArm) → Tells g n depths → all_fsm_arms_below n bs ≡ true → deepest_arm depths bs ≡ capped (arms_depth (arms_at g bs))
arms_told g n depths [] h low = refl
arms_told g n depths (b ∷ bs) h low =
    let p = and_parts (all_fsm_below n b.body) (all_fsm_arms_below n bs) low in
    both (block_depth (block_at g b.body)) (arms_depth (arms_at g bs)) (deepest depths b.body) (deepest_arm depths bs) (block_told g n depths b.body h p.0) (arms_told g n depths bs h p.1)

-- the target of an assignment among the first m, where it stands
pub target_there : (n m : ℕ) (x : FsmStmt) → FsmStmtStands n m x → TargetIsThere m x
target_there n m (fsm.Assign target value line) h = h.0
target_there n m (fsm.NextState name line) h = tt
target_there n m (fsm.NextValue target value line) h = h.0
target_there n m (fsm.If branches rest line) h = tt
target_there n m (fsm.Case on arms rest line) h = tt

stmt_told : (t : ℕ → Term) (w : ℕ → tree.Target) (g : ℕ → tree.Stmt) (m n : ℕ) (targets depths : List ℕ) (x : FsmStmt) → TellsTargets w m targets → TargetIsThere m x → Tells g n depths → fsm_below x n ≡ true
    → stmt_deep targets depths x ≡ capped (stmt_depth (node_assigned t w g x))
stmt_told t w g m n targets depths (fsm.Assign target value line) k there h low = over (target_depth (w target.place)) (depth_at targets target.place) (k.each target.place there)
stmt_told t w g m n targets depths (fsm.NextState name line) k there h low = refl
stmt_told t w g m n targets depths (fsm.NextValue target value line) k there h low = over (target_depth (w target.place)) (depth_at targets target.place) (k.each target.place there)
stmt_told t w g m n targets depths (fsm.If branches rest line) k there h low =
    let p = and_parts (all_fsm_branches_below n branches) (all_fsm_below n rest) low in
    over (max (branches_depth (branches_at t g branches)) (block_depth (block_at g rest))) (max (deepest_branch depths branches) (deepest depths rest))
    (both (branches_depth (branches_at t g branches)) (block_depth (block_at g rest)) (deepest_branch depths branches) (deepest depths rest) (branches_told t g n depths branches h p.0) (block_told g n depths rest h p.1))
stmt_told t w g m n targets depths (fsm.Case on arms rest line) k there h low =
    let p = and_parts (all_fsm_arms_below n arms) (all_fsm_below n rest) low in
    over (max (arms_depth (arms_at g arms)) (block_depth (block_at g rest))) (max (deepest_arm depths arms) (deepest depths rest))
    (both (arms_depth (arms_at g arms)) (block_depth (block_at g rest)) (deepest_arm depths arms) (deepest depths rest) (arms_told g n depths arms h p.0) (block_told g n depths rest h p.1))

pub stmt_next : (d : Design) (xs : List FsmStmt) (n : ℕ) (targets depths : List ℕ) (x : FsmStmt) (deep : ℕ) → EachLower fsm_below xs → FsmStmtStands (length d.exprs) (length d.targets) x → AreTargetDepths d (length d.targets) targets → AreDepths d xs n depths
    → slice_get xs n ≡ Some x → deep ≡ stmt_deep targets depths x → AreDepths d xs (n + 1) (depths ++ deep ∷ [])
stmt_next d xs n targets depths x deep lower stands k h at e =
    table_more 0 (λ j. capped (stmt_depth (stmt_tree d xs j))) n depths deep h
    (e
    ∙ stmt_told (design.term d) (design.target d) (stmt_tree d xs) (length d.targets) n targets depths x k (target_there (length d.exprs) (length d.targets) x stands) h (lower_at fsm_below xs lower n x at)
    ∙ ap (λ (a : tree.Stmt). capped (stmt_depth a)) (sym (stmt_is d xs lower n x at)))

-- ---- lists

pub depth_tells : (n : ℕ) → nat_le (capped n) 64 ≡ nat_le n 64
depth_tells n =
    elim (cases_lt 64 n) [
      | inl h ↦ let deep : 64 < capped n = omega arith in lt-leb (capped n) 64 deep ∙ sym (lt-leb n 64 h)
      | inr h ↦ let flat : capped n ≤ 64 = omega arith in le-leb (capped n) 64 flat ∙ sym (le-leb n 64 h)
    ]
