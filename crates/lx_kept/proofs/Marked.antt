-- A node assigns a signal where one of its parts does.
use Rattle.std.proofs.Common.{◌≡◌, ℕ, ◌+◌, Bool, true, false, List, [], ◌∷◌, ◌++◌, length, refl, sym, ap, ◌∙◌, nat_lt}
use Rattle.std.specs.Prelude.{◌||◌, Some, slice_get}
use Rattle.std.proofs.lemmas.Bool.{ltb-true, and_parts}
use Rattle.lx_arena.specs.Lower.{EachLower}
use Rattle.lx_arena.proofs.Places.{lower_at}
use Rattle.lx_circuit.specs.Terms.{Term}
use Rattle.lx_circuit.specs.Statements as tree
use Rattle.lx_circuit.specs.Statements.{drives, drives_arm, drives_block, drives_branch, is_target, some_target}
use Rattle.lx_fhdl.specs.Below.{StmtId, TargetId, all_arms_below, all_branches_below, all_stmts_below, all_targets_below, stmt_below, target_below}
use Rattle.lx_fhdl.specs.Designs as design
use Rattle.lx_fhdl.specs.Stmts.{arms_at, block_at, branches_at, node_stmt, node_target, targets_at}
use Rattle.lx_fhdl.specs.declared.design.Design.{Design}
use Rattle.lx_fhdl.specs.declared.stmts.Arm.{Arm}
use Rattle.lx_fhdl.specs.declared.stmts.Branch.{Branch}
use Rattle.lx_fhdl.specs.declared.stmts.Stmt.{Stmt}
use Rattle.lx_fhdl.specs.declared.stmts.Stmt.TheVariants as stmt
use Rattle.lx_fhdl.specs.declared.stmts.Target.{Target}
use Rattle.lx_fhdl.specs.declared.stmts.Target.TheVariants as target
use Rattle.lx_fhdl.proofs.StmtTrees.{stmt_at-is, target_at-is}
use Rattle.lx_kept.specs.Drivers.{AreMarks, AreTargetMarks, mark_at, some_arm_marked, some_branch_marked, some_marked, some_target_marked, stmt_assigns, target_has}
use Rattle.lx_kept.specs.Given.{HasArenas, TargetIsThere}
use Rattle.lx_kept.specs.Tables.{IsTable}
use Rattle.lx_kept.proofs.Deeper.{target_there}
use Rattle.lx_kept.proofs.Tables.{table_more}

either : (a b x y : Bool) → x ≡ a → y ≡ b → (x || y) ≡ (a || b)
either a b x y e f = rw (e, f) refl

-- ---- targets

-- which targets have the signal x
abbrev pub MarksTargets : ℕ → (ℕ → tree.Target) → ℕ → List Bool → Type 0
MarksTargets x g n marks = IsTable false (λ k. is_target x (g k)) n marks

targets_told : (x : ℕ) (g : ℕ → tree.Target) (n : ℕ) (marks : List Bool) (is : List TargetId) → MarksTargets x g n marks → all_targets_below n is ≡ true → some_target_marked marks is ≡ some_target x (targets_at g is)
targets_told x g n marks [] h low = refl
targets_told x g n marks (i ∷ is) h low =
    let p = and_parts (nat_lt i.place n) (all_targets_below n is) low in
    either (is_target x (g i.place)) (some_target x (targets_at g is)) (mark_at marks i.place) (some_target_marked marks is) (h.each i.place (ltb-true i.place n p.0)) (targets_told x g n marks is h p.1)

target_told : (x : ℕ) (t : ℕ → Term) (g : ℕ → tree.Target) (n : ℕ) (marks : List Bool) (o : Target) → MarksTargets x g n marks → target_below o n ≡ true → target_has x marks o ≡ is_target x (node_target t g o)
target_told x t g n marks (target.Whole y) h low = refl
target_told x t g n marks (target.Part y low_ len) h low = refl
target_told x t g n marks (target.Cat parts) h low = targets_told x g n marks parts h low
target_told x t g n marks (target.Pick items index) h low = targets_told x g n marks items h low

pub target_marked : (d : Design) (x n : ℕ) (marks : List Bool) (o : Target) (mark : Bool) → EachLower target_below d.targets → AreTargetMarks d x n marks → slice_get d.targets n ≡ Some o → mark ≡ target_has x marks o → AreTargetMarks d x (n + 1) (marks ++ mark ∷ [])
target_marked d x n marks o mark low h at e =
    table_more false (λ k. is_target x (design.target d k)) n marks mark h
    (e ∙ target_told x (design.term d) (design.target d) n marks o h (lower_at target_below d.targets low n o at)
    ∙ ap (λ (a : tree.Target). is_target x a) (sym (target_at-is (design.term d) d.targets low n o at)))

-- ---- statements

abbrev pub Marks : ℕ → (ℕ → tree.Stmt) → ℕ → List Bool → Type 0
Marks x g n marks = IsTable false (λ k. drives x (g k)) n marks

pub block_told : (x : ℕ) (g : ℕ → tree.Stmt) (n : ℕ) (marks : List Bool) (is : List StmtId) → Marks x g n marks → all_stmts_below n is ≡ true → some_marked marks is ≡ drives_block x (block_at g is)
block_told x g n marks [] h low = refl
block_told x g n marks (i ∷ is) h low =
    let p = and_parts (nat_lt i.place n) (all_stmts_below n is) low in
    either (drives x (g i.place)) (drives_block x (block_at g is)) (mark_at marks i.place) (some_marked marks is) (h.each i.place (ltb-true i.place n p.0)) (block_told x g n marks is h p.1)

branches_told : (x : ℕ) (t : ℕ → Term) (g : ℕ → tree.Stmt) (n : ℕ) (marks : List Bool) (bs : List Branch) → Marks x g n marks → all_branches_below n bs ≡ true → some_branch_marked marks bs ≡ drives_branch x (branches_at t g bs)
branches_told x t g n marks [] h low = refl
branches_told x t g n marks (b ∷ bs) h low =
    let p = and_parts (all_stmts_below n b.body) (all_branches_below n bs) low in
    either (drives_block x (block_at g b.body)) (drives_branch x (branches_at t g bs)) (some_marked marks b.body) (some_branch_marked marks bs) (block_told x g n marks b.body h p.0) (branches_told x t g n marks bs h p.1)

arms_told : (x : ℕ) (g : ℕ → tree.Stmt) (n : ℕ) (marks : List Bool) (bs : List Arm) → Marks x g n marks → all_arms_below n bs ≡ true → some_arm_marked marks bs ≡ drives_arm x (arms_at g bs)
arms_told x g n marks [] h low = refl
arms_told x g n marks (b ∷ bs) h low =
    let p = and_parts (all_stmts_below n b.body) (all_arms_below n bs) low in
    either (drives_block x (block_at g b.body)) (drives_arm x (arms_at g bs)) (some_marked marks b.body) (some_arm_marked marks bs) (block_told x g n marks b.body h p.0) (arms_told x g n marks bs h p.1)

stmt_told : (x : ℕ) (t : ℕ → Term) (w : ℕ → tree.Target) (g : ℕ → tree.Stmt) (m n : ℕ) (targets marks : List Bool) (o : Stmt) → MarksTargets x w m targets → TargetIsThere m o → Marks x g n marks → stmt_below o n ≡ true
    → stmt_assigns targets marks o ≡ drives x (node_stmt t w g o)
stmt_told x t w g m n targets marks (stmt.Assign target value line) k there h low = k.each target.place there
stmt_told x t w g m n targets marks (stmt.If branches rest line) k there h low =
    let p = and_parts (all_branches_below n branches) (all_stmts_below n rest) low in
    either (drives_branch x (branches_at t g branches)) (drives_block x (block_at g rest)) (some_branch_marked marks branches) (some_marked marks rest) (branches_told x t g n marks branches h p.0) (block_told x g n marks rest h p.1)
stmt_told x t w g m n targets marks (stmt.Case on arms rest line) k there h low =
    let p = and_parts (all_arms_below n arms) (all_stmts_below n rest) low in
    either (drives_arm x (arms_at g arms)) (drives_block x (block_at g rest)) (some_arm_marked marks arms) (some_marked marks rest) (arms_told x g n marks arms h p.0) (block_told x g n marks rest h p.1)

pub stmt_marked : (d : Design) (x n : ℕ) (targets marks : List Bool) (o : Stmt) (mark : Bool) → HasArenas d → AreTargetMarks d x (length d.targets) targets → AreMarks d x n marks → slice_get d.stmts n ≡ Some o → mark ≡ stmt_assigns targets marks o
    → AreMarks d x (n + 1) (marks ++ mark ∷ [])
stmt_marked d x n targets marks o mark arenas k h at e =
    table_more false (λ j. drives x (design.stmt d j)) n marks mark h
    (e
    ∙ stmt_told x (design.term d) (design.target d) (design.stmt d) (length d.targets) n targets marks o k (target_there (length d.exprs) (length d.targets) o (arenas.stmts n o at)) h (lower_at stmt_below d.stmts arenas.stmts_lower n o at)
    ∙ ap (λ (a : tree.Stmt). drives x a) (sym (stmt_at-is (design.term d) (design.target d) d.stmts arenas.stmts_lower n o at)))
