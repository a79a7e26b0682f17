-- A signal that no target of a design names is assigned by no statement.
use Rattle.std.proofs.Common.{◌≡◌, ℕ, zero, suc, ◌+◌, Bool, true, false, ◌||◌, List, [], ◌∷◌, Option, Some, None, nat_eq, slice_get, refl}
use Rattle.std.specs.Prelude.{IfSome}
use Rattle.std.specs.List.{list_all, list_any}
use Rattle.std.proofs.lemmas.Bool.{and_parts, not-true, or_from}
use Rattle.lx_arena.specs.Folds.{fold_at, fold_within, level}
use Rattle.lx_circuit.specs.Circuit as circuit
use Rattle.lx_circuit.specs.Statements as tree
use Rattle.lx_circuit.specs.Statements.{drives, drives_arm, drives_block, drives_branch, is_target, some_target}
use Rattle.lx_circuit.specs.Terms.{Term}
use Rattle.lx_fhdl.specs.Below.{StmtId, TargetId}
use Rattle.lx_fhdl.specs.Designs as design
use Rattle.lx_fhdl.specs.Designs.{circuit_of, domains_from, stmts_of}
use Rattle.lx_fhdl.specs.Stmts as stmts
use Rattle.lx_fhdl.specs.Stmts.{no_stmt, no_target, node_stmt, node_target, stmt_at, target_at, targets_at}
use Rattle.lx_fhdl.specs.declared.design.Design.{Design}
use Rattle.lx_fhdl.specs.declared.design.Domain.{Domain}
use Rattle.lx_fhdl.specs.declared.stmts.Arm.{Arm}
use Rattle.lx_fhdl.specs.declared.stmts.Branch.{Branch}
use Rattle.lx_fhdl.specs.declared.stmts.Stmt.{Stmt}
use Rattle.lx_fhdl.specs.declared.stmts.Stmt.TheVariants as stmt
use Rattle.lx_fhdl.specs.declared.stmts.Target.{Target}
use Rattle.lx_fhdl.specs.declared.stmts.Target.TheVariants as target
use Rattle.lx_description.specs.Below.{FsmStmtId}
use Rattle.lx_description.specs.Fsms as fsms
use Rattle.lx_description.specs.Fsms.{assigned, assigned_at, node_assigned}
use Rattle.lx_description.specs.Keeping.{is_driven}
use Rattle.lx_description.specs.declared.description.Description.{Description}
use Rattle.lx_description.specs.declared.fsms.FsmArm.{FsmArm}
use Rattle.lx_description.specs.declared.fsms.FsmBranch.{FsmBranch}
use Rattle.lx_description.specs.declared.fsms.FsmDecl.{FsmDecl}
use Rattle.lx_description.specs.declared.fsms.FsmStmt.{FsmStmt}
use Rattle.lx_description.specs.declared.fsms.FsmStmt.TheVariants as fsm
use Rattle.lx_description.specs.declared.fsms.StateDecl.{StateDecl}
use Rattle.lx_fsm_kept.specs.Stand.{passes}

-- ---- what holds of all trees at the places of an arena

-- it holds where no node is, and of a node's tree where it holds of all trees that this may hang on
record Holds {N T : Type 0} (P : T → Type 0) (none : T) (node : (ℕ → T) → N → T) (Q : N → Type 0) : Type 0 where
  nowhere : P none
  over : (f : ℕ → T) (x : N) → Q x → ((j : ℕ) → P (f j)) → P (node f x)

level_holds : {N T : Type 0} (P : T → Type 0) (none : T) (node : (ℕ → T) → N → T) (Q : N → Type 0) → Holds P none node Q → (f : ℕ → T) → ((j : ℕ) → P (f j)) → (o : Option N) → IfSome o Q → P (level none node f o)
level_holds P none node Q h f each (Some x) q = h.over f x q each
level_holds P none node Q h f each None q = h.nowhere

within_holds : {N T : Type 0} (P : T → Type 0) (none : T) (node : (ℕ → T) → N → T) (Q : N → Type 0) → Holds P none node Q → (xs : List N) → ((k : ℕ) → IfSome (slice_get xs k) Q) → (n k : ℕ) → P (fold_within none node xs n k)
within_holds P none node Q h xs each zero k = h.nowhere
within_holds P none node Q h xs each (suc n) k = level_holds P none node Q h (fold_within none node xs n) (within_holds P none node Q h xs each n) (slice_get xs k) (each k)

fold_holds : {N T : Type 0} (P : T → Type 0) (none : T) (node : (ℕ → T) → N → T) (Q : N → Type 0) → Holds P none node Q → (xs : List N) → ((k : ℕ) → IfSome (slice_get xs k) Q) → (k : ℕ) → P (fold_at none node xs k)
unfolding fold_at
fold_holds P none node Q h xs each k = within_holds P none node Q h xs each (suc k) k

each_at : {N : Type 0} (test : N → Bool) (xs : List N) → list_all test xs ≡ true → (k : ℕ) → IfSome (slice_get xs k) (λ x. test x ≡ true)
each_at test [] h zero = tt
each_at test [] h (suc k) = tt
each_at test (x ∷ xs) h zero = (and_parts (test x) (list_all test xs) h).0
each_at test (x ∷ xs) h (suc k) = each_at test xs (and_parts (test x) (list_all test xs) h).1 k

-- nothing is asked of a node
any_at : {N : Type 0} (xs : List N) (k : ℕ) → IfSome (slice_get xs k) (λ x. Unit {0})
any_at [] zero = tt
any_at [] (suc k) = tt
any_at (x ∷ xs) zero = tt
any_at (x ∷ xs) (suc k) = any_at xs k

-- ---- targets

parts_none : (x : ℕ) (g : ℕ → tree.Target) → ((j : ℕ) → is_target x (g j) ≡ false) → (is : List TargetId) → some_target x (targets_at g is) ≡ false
parts_none x g h [] = refl
parts_none x g h (i ∷ is) = or_from (is_target x (g i.place)) (some_target x (targets_at g is)) (h i.place) (parts_none x g h is)

node_none : (x : ℕ) (t : ℕ → Term) (g : ℕ → tree.Target) (y : Target) → passes x y ≡ true → ((j : ℕ) → is_target x (g j) ≡ false) → is_target x (node_target t g y) ≡ false
node_none x t g (target.Whole y) e h = not-true (nat_eq y.0 x) e
node_none x t g (target.Part y low len) e h = not-true (nat_eq y.0 x) e
node_none x t g (target.Cat parts) e h = parts_none x g h parts
node_none x t g (target.Pick items index) e h = parts_none x g h items

target_none : (d : Design) (x : ℕ) → list_all (passes x) d.targets ≡ true → (k : ℕ) → is_target x (design.target d k) ≡ false
unfolding target_at
target_none d x all = fold_holds (λ t. is_target x t ≡ false) no_target (node_target (design.term d)) (λ y. passes x y ≡ true) (record { nowhere = refl; over = node_none x (design.term d) }) d.targets (each_at (passes x) d.targets all)

-- ---- statements of the design

block_none : (x : ℕ) (g : ℕ → tree.Stmt) → ((j : ℕ) → drives x (g j) ≡ false) → (is : List StmtId) → drives_block x (stmts.block_at g is) ≡ false
block_none x g h [] = refl
block_none x g h (i ∷ is) = or_from (drives x (g i.place)) (drives_block x (stmts.block_at g is)) (h i.place) (block_none x g h is)

branches_none : (x : ℕ) (t : ℕ → Term) (g : ℕ → tree.Stmt) → ((j : ℕ) → drives x (g j) ≡ false) → (bs : List Branch) → drives_branch x (stmts.branches_at t g bs) ≡ false
branches_none x t g h [] = refl
branches_none x t g h (b ∷ bs) = or_from (drives_block x (stmts.block_at g b.body)) (drives_branch x (stmts.branches_at t g bs)) (block_none x g h b.body) (branches_none x t g h bs)

arms_none : (x : ℕ) (g : ℕ → tree.Stmt) → ((j : ℕ) → drives x (g j) ≡ false) → (bs : List Arm) → drives_arm x (stmts.arms_at g bs) ≡ false
arms_none x g h [] = refl
arms_none x g h (b ∷ bs) = or_from (drives_block x (stmts.block_at g b.body)) (drives_arm x (stmts.arms_at g bs)) (block_none x g h b.body) (arms_none x g h bs)

stmt_none : (x : ℕ) (t : ℕ → Term) (w : ℕ → tree.Target) → ((j : ℕ) → is_target x (w j) ≡ false) → (g : ℕ → tree.Stmt) (y : Stmt) → ((j : ℕ) → drives x (g j) ≡ false) → drives x (node_stmt t w g y) ≡ false
stmt_none x t w f g (stmt.Assign target value line) h = f target.place
stmt_none x t w f g (stmt.If branches rest line) h = or_from (drives_branch x (stmts.branches_at t g branches)) (drives_block x (stmts.block_at g rest)) (branches_none x t g h branches) (block_none x g h rest)
stmt_none x t w f g (stmt.Case on arms rest line) h = or_from (drives_arm x (stmts.arms_at g arms)) (drives_block x (stmts.block_at g rest)) (arms_none x g h arms) (block_none x g h rest)

design_none : (d : Design) (x : ℕ) → list_all (passes x) d.targets ≡ true → (k : ℕ) → drives x (design.stmt d k) ≡ false
unfolding stmt_at
design_none d x all =
    fold_holds (λ s. drives x s ≡ false) no_stmt (node_stmt (design.term d) (design.target d)) (λ y. Unit {0})
    (record { nowhere = refl; over = λ g y u h. stmt_none x (design.term d) (design.target d) (target_none d x all) g y h }) d.stmts (any_at d.stmts)

domains_none : (d : Design) (x : ℕ) → ((k : ℕ) → drives x (design.stmt d k) ≡ false) → (n : ℕ) (ds : List Domain) → list_any (λ (y : circuit.Domain). drives_block x y.stmts) (domains_from d n ds) ≡ false
domains_none d x h n [] = refl
domains_none d x h n (y ∷ ys) =
    or_from (drives_block x (design.block d (stmts_of n d.sync))) (list_any (λ (z : circuit.Domain). drives_block x z.stmts) (domains_from d (n + 1) ys))
    (block_none x (design.stmt d) h (stmts_of n d.sync)) (domains_none d x h (n + 1) ys)

-- ---- statements of FSMs

fsm_block_none : (x : ℕ) (g : ℕ → tree.Stmt) → ((j : ℕ) → drives x (g j) ≡ false) → (is : List FsmStmtId) → drives_block x (fsms.block_at g is) ≡ false
fsm_block_none x g h [] = refl
fsm_block_none x g h (i ∷ is) = or_from (drives x (g i.place)) (drives_block x (fsms.block_at g is)) (h i.place) (fsm_block_none x g h is)

fsm_branches_none : (x : ℕ) (t : ℕ → Term) (g : ℕ → tree.Stmt) → ((j : ℕ) → drives x (g j) ≡ false) → (bs : List FsmBranch) → drives_branch x (fsms.branches_at t g bs) ≡ false
fsm_branches_none x t g h [] = refl
fsm_branches_none x t g h (b ∷ bs) = or_from (drives_block x (fsms.block_at g b.body)) (drives_branch x (fsms.branches_at t g bs)) (fsm_block_none x g h b.body) (fsm_branches_none x t g h bs)

fsm_arms_none : (x : ℕ) (g : ℕ → tree.Stmt) → ((j : ℕ) → drives x (g j) ≡ false) → (bs : List FsmArm) → drives_arm x (fsms.arms_at g bs) ≡ false
fsm_arms_none x g h [] = refl
fsm_arms_none x g h (b ∷ bs) = or_from (drives_block x (fsms.block_at g b.body)) (drives_arm x (fsms.arms_at g bs)) (fsm_block_none x g h b.body) (fsm_arms_none x g h bs)

fsm_stmt_none : (x : ℕ) (t : ℕ → Term) (w : ℕ → tree.Target) → ((j : ℕ) → is_target x (w j) ≡ false) → (g : ℕ → tree.Stmt) (y : FsmStmt) → ((j : ℕ) → drives x (g j) ≡ false) → drives x (node_assigned t w g y) ≡ false
fsm_stmt_none x t w f g (fsm.Assign target value line) h = f target.place
fsm_stmt_none x t w f g (fsm.NextValue target value line) h = f target.place
fsm_stmt_none x t w f g (fsm.NextState name line) h = refl
fsm_stmt_none x t w f g (fsm.If branches rest line) h = or_from (drives_branch x (fsms.branches_at t g branches)) (drives_block x (fsms.block_at g rest)) (fsm_branches_none x t g h branches) (fsm_block_none x g h rest)
fsm_stmt_none x t w f g (fsm.Case on arms rest line) h = or_from (drives_arm x (fsms.arms_at g arms)) (drives_block x (fsms.block_at g rest)) (fsm_arms_none x g h arms) (fsm_block_none x g h rest)

assigned_none : (d : Design) (xs : List FsmStmt) (x : ℕ) → list_all (passes x) d.targets ≡ true → (k : ℕ) → drives x (assigned_at (design.term d) (design.target d) xs k) ≡ false
unfolding assigned_at
assigned_none d xs x all =
    fold_holds (λ s. drives x s ≡ false) no_stmt (node_assigned (design.term d) (design.target d)) (λ y. Unit {0})
    (record { nowhere = refl; over = λ g y u h. fsm_stmt_none x (design.term d) (design.target d) (target_none d x all) g y h }) xs (any_at xs)

states_none : (d : Description) (x : ℕ) → list_all (passes x) d.design.targets ≡ true → (ss : List StateDecl) → list_any (λ (s : StateDecl). drives_block x (assigned d s.body)) ss ≡ false
states_none d x all [] = refl
states_none d x all (s ∷ ss) =
    or_from (drives_block x (assigned d s.body)) (list_any (λ (r : StateDecl). drives_block x (assigned d r.body)) ss)
    (fsm_block_none x (assigned_at (design.term d.design) (design.target d.design) d.fsm_stmts) (assigned_none d.design d.fsm_stmts x all) s.body) (states_none d x all ss)

fsms_none : (d : Description) (x : ℕ) → list_all (passes x) d.design.targets ≡ true → (fs : List FsmDecl) → list_any (λ (f : FsmDecl). list_any (λ (s : StateDecl). drives_block x (assigned d s.body)) f.states) fs ≡ false
fsms_none d x all [] = refl
fsms_none d x all (f ∷ fs) =
    or_from (list_any (λ (s : StateDecl). drives_block x (assigned d s.body)) f.states) (list_any (λ (g : FsmDecl). list_any (λ (s : StateDecl). drives_block x (assigned d s.body)) g.states) fs)
    (states_none d x all f.states) (fsms_none d x all fs)

-- ---- all of them

pub not_driven : (d : Description) (x : ℕ) → list_all (passes x) d.design.targets ≡ true → is_driven d x ≡ false
unfolding circuit_of
not_driven d x all =
    let none = design_none d.design x all in
    or_from (drives_block x (design.block d.design d.design.comb)) (list_any (λ (y : circuit.Domain). drives_block x y.stmts) (domains_from d.design 0 d.design.domains) || list_any (λ (f : FsmDecl). list_any (λ (s : StateDecl). drives_block x (assigned d s.body)) f.states) d.fsms)
    (block_none x (design.stmt d.design) none d.design.comb)
    (or_from (list_any (λ (y : circuit.Domain). drives_block x y.stmts) (domains_from d.design 0 d.design.domains)) (list_any (λ (f : FsmDecl). list_any (λ (s : StateDecl). drives_block x (assigned d s.body)) f.states) d.fsms)
    (domains_none d.design x none 0 d.design.domains) (fsms_none d x all d.fsms))
