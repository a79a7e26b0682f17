-- Arenas that keep what a design's arenas keep pass the test.
use Rattle.std.proofs.Common.{◌≡◌, ℕ, ◌+◌, Bool, true, List, [], ◌∷◌, Option, Some, None, length, slice_get, nat_lt, refl, subst, arith, zero, suc}
use Rattle.std.specs.Prelude.{IsSomeAnd, is_none}
use Rattle.std.specs.List.{list_all}
use Rattle.std.proofs.lemmas.Bool.{and_from, eq-eqb, le-leb, lt-ltb, not_from_false}
use Rattle.std.proofs.lemmas.Option.{slice_get_within}
use Rattle.lx_arena.specs.Lower.{all_at}
use Rattle.lx_arena.proofs.Places.{lower_at}
use Rattle.lx_circuit.specs.Shapes.{Shapes, fault_of, shape_of}
use Rattle.lx_circuit.specs.Statements.{target_bits}
use Rattle.lx_fhdl.specs.Below.{expr_below, stmt_below, target_below}
use Rattle.lx_fhdl.specs.Keeping.{ArenasKeep, BranchesStand, HasPlainIndex, NamesThere, StmtStands, TakesOperands, TargetStands}
use Rattle.lx_fhdl.specs.Kept.{are_lower, arenas_keep, expr_keeps, has_parts, has_plain_index, has_width, names_there, stmt_stands, takes_operands, target_keeps, target_stands}
use Rattle.lx_fhdl.specs.Nodes.{HasParts}
use Rattle.lx_fhdl.specs.Stmts.{target_at}
use Rattle.lx_fhdl.specs.Trees.{term_at}
use Rattle.lx_fhdl.specs.declared.exprs.Expr.{Expr}
use Rattle.lx_fhdl.specs.declared.exprs.Expr.TheVariants.{Const, Sig, Unary, Binary, Mux, Cat, Pick, Replicate, Slice, Fetch}
use Rattle.lx_fhdl.specs.declared.stmts.Branch.{Branch}
use Rattle.lx_fhdl.specs.declared.stmts.Stmt.{Stmt}
use Rattle.lx_fhdl.specs.declared.stmts.Stmt.TheVariants as stmt
use Rattle.lx_fhdl.specs.declared.stmts.Target.{Target}
use Rattle.lx_fhdl.specs.declared.stmts.Target.TheVariants as target
use Rattle.lx_fhdl.specs.declared.design.Memory.{Memory}

-- ---- tests of all items

pass_from : {X : Type 0} (test : X → ℕ → Bool) (xs : List X) (n : ℕ) → ((k : ℕ) (x : X) → slice_get xs k ≡ Some x → test x (n + k) ≡ true) → all_at test n xs ≡ true
pass_from test [] n h = refl
pass_from test (x ∷ xs) n h =
    let first : n + 0 ≡ n = omega arith in
    and_from (test x n) (all_at test (n + 1) xs) (subst (λ j. test x j ≡ true) first (h zero x refl))
    (pass_from test xs (n + 1) (λ k y e. let next : n + suc k ≡ n + 1 + k = omega arith in subst (λ j. test y j ≡ true) next (h (suc k) y e)))

all_pass : {X : Type 0} (test : X → ℕ → Bool) (xs : List X) → ((k : ℕ) (x : X) → slice_get xs k ≡ Some x → test x k ≡ true) → all_at test 0 xs ≡ true
all_pass test xs h = pass_from test xs 0 (λ k x e. let same : k ≡ 0 + k = omega arith in subst (λ j. test x j ≡ true) same (h k x e))

each_passes : {X : Type 0} (test : X → Bool) (xs : List X) → ((k : ℕ) (x : X) → slice_get xs k ≡ Some x → test x ≡ true) → list_all test xs ≡ true
each_passes test [] h = refl
each_passes test (x ∷ xs) h = and_from (test x) (list_all test xs) (h zero x refl) (each_passes test xs (λ k y e. h (suc k) y e))

-- ---- nodes

width_passes : (width : ℕ) (o : Option Memory) → IsSomeAnd o (λ m. width ≡ m.width) → has_width width o ≡ true
width_passes width (Some m) h = eq-eqb width m.width h
width_passes width None h = absurd h

names_pass : (n : ℕ) (ms : List Memory) (x : Expr) → NamesThere n ms x → names_there n ms x ≡ true
names_pass n ms (Const value bits signed) h = refl
names_pass n ms (Sig x) h = lt-ltb x.0 n h
names_pass n ms (Unary op of) h = refl
names_pass n ms (Binary op left right) h = refl
names_pass n ms (Mux cond then_ else_) h = refl
names_pass n ms (Cat parts) h = refl
names_pass n ms (Pick items index) h = refl
names_pass n ms (Replicate of count) h = refl
names_pass n ms (Slice of low high) h = refl
names_pass n ms (Fetch memory width at) h = width_passes width (slice_get ms memory) h

index_passes : (s : Shapes) (xs : List Expr) (x : Expr) → HasPlainIndex s xs x → has_plain_index s xs x ≡ true
index_passes s xs (Const value bits signed) h = refl
index_passes s xs (Sig x) h = refl
index_passes s xs (Unary op of) h = refl
index_passes s xs (Binary op left right) h = refl
index_passes s xs (Mux cond then_ else_) h = refl
index_passes s xs (Cat parts) h = refl
index_passes s xs (Pick items index) h = refl
index_passes s xs (Replicate of count) h = refl
index_passes s xs (Slice of low high) h = refl
index_passes s xs (Fetch memory width at) h = not_from_false (shape_of s (term_at xs at.place)).signed h

operands_pass : (x : Expr) → TakesOperands x → takes_operands x ≡ true
operands_pass (Const value bits signed) h = refl
operands_pass (Sig x) h = refl
operands_pass (Unary op of) h = h
operands_pass (Binary op left right) h = h
operands_pass (Mux cond then_ else_) h = refl
operands_pass (Cat parts) h = refl
operands_pass (Pick items index) h = refl
operands_pass (Replicate of count) h = refl
operands_pass (Slice of low high) h = refl
operands_pass (Fetch memory width at) h = refl

parts_pass : (x : Expr) → HasParts x → has_parts x ≡ true
parts_pass (Const value bits signed) h = refl
parts_pass (Sig x) h = refl
parts_pass (Unary op of) h = refl
parts_pass (Binary op left right) h = refl
parts_pass (Mux cond then_ else_) h = refl
parts_pass (Cat parts) h = lt-ltb 0 (length parts) h
parts_pass (Pick items index) h = lt-ltb 0 (length items) h
parts_pass (Replicate of count) h = refl
parts_pass (Slice of low high) h = refl
parts_pass (Fetch memory width at) h = refl

target_passes : (s : Shapes) (n : ℕ) (xs : List Expr) (x : Target) → TargetStands s n xs x → target_stands s n xs x ≡ true
target_passes s n xs (target.Whole x) h = lt-ltb x.0 n h
target_passes s n xs (target.Part x low len) h = and_from _ _ (lt-ltb x.0 n h.0) (and_from _ _ (le-leb 1 len h.1) (le-leb (low + len) (s x.0).bits h.2))
target_passes s n xs (target.Cat parts) h = lt-ltb 0 (length parts) h
target_passes s n xs (target.Pick items index) h = and_from _ _ (lt-ltb 0 (length items) h.0) (and_from _ _ (lt-ltb index.place (length xs) h.1) (not_from_false (shape_of s (term_at xs index.place)).signed h.2))

branches_pass : (n : ℕ) (bs : List Branch) → BranchesStand n bs → list_all (λ (b : Branch). nat_lt b.cond.place n) bs ≡ true
branches_pass n [] h = refl
branches_pass n (b ∷ bs) h = and_from _ _ (lt-ltb b.cond.place n h.0) (branches_pass n bs h.1)

stmt_passes : (n m : ℕ) (x : Stmt) → StmtStands n m x → stmt_stands n m x ≡ true
stmt_passes n m (stmt.Assign target value line) h = and_from _ _ (lt-ltb target.place m h.0) (lt-ltb value.place n h.1)
stmt_passes n m (stmt.If branches rest line) h = branches_pass n branches h
stmt_passes n m (stmt.Case on arms rest line) h = lt-ltb on.place n h

none_passes : {X : Type 0} (o : Option X) → o ≡ None → is_none o ≡ true
none_passes None h = refl
none_passes (Some x) h = absurd (cc)

-- ---- arenas

pub arenas_pass : (s : Shapes) (n : ℕ) (ms : List Memory) (xs : List Expr) (ts : List Target) (ss : List Stmt) → ArenasKeep s n ms xs ts ss → arenas_keep s n ms xs ts ss ≡ true
arenas_pass s n ms xs ts ss h =
    let lower : are_lower xs ts ss ≡ true = and_from _ _ (all_pass expr_below xs (lower_at expr_below xs h.exprs_lower)) (and_from _ _ (all_pass target_below ts (lower_at target_below ts h.targets_lower)) (all_pass stmt_below ss (lower_at stmt_below ss h.stmts_lower))) in
    let expr : (k : ℕ) (x : Expr) → slice_get xs k ≡ Some x → expr_keeps s n ms xs x k ≡ true = λ k x e.
    and_from _ _ (none_passes (fault_of s (term_at xs k)) (h.shaped k (slice_get_within xs k x e)))
    (and_from _ _ (operands_pass x (h.operands k x e)) (and_from _ _ (parts_pass x (h.parts k x e)) (and_from _ _ (names_pass n ms x (h.named k x e)) (index_passes s xs x (h.indices k x e))))) in
    let target_ : (k : ℕ) (x : Target) → slice_get ts k ≡ Some x → target_keeps s n xs ts x k ≡ true = λ k x e.
    and_from _ _ (target_passes s n xs x (h.targets k x e)) (le-leb (target_bits s (target_at (term_at xs) ts k)) 127 (h.target_bits k (slice_get_within ts k x e))) in
    and_from _ _ lower
    (and_from _ _ (all_pass (expr_keeps s n ms xs) xs expr)
    (and_from _ _ (all_pass (target_keeps s n xs ts) ts target_) (each_passes (stmt_stands (length xs) (length ts)) ss (λ k x e. stmt_passes (length xs) (length ts) x (h.stmts k x e)))))
