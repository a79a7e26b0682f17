-- Flat statements of blocks, branches and arms that are put one after the other.
use Rattle.std.proofs.Common.{◌≡◌, ℕ, ℤ, Bool, true, false, nat_eq, ne_eqb, ◌+◌, ◌-◌, ◌<◌, ◌≤◌, List, [], ◌∷◌, ◌++◌, append_assoc, Option, Some, None, length, take, drop, get_or, refl, sym, ap, subst, ◌∙◌, arith, cond, length-drop}
use Rattle.std.specs.Prelude.{IsTrue}
use Rattle.std.proofs.lemmas.Bool.{and_parts, true≢false}
use Rattle.std.proofs.lemmas.List.{append-nil, drop_all}
use Rattle.std.proofs.Math.Seq.{take-length}
use Rattle.lx_num.specs.Ints.{unsigned}
use Rattle.lx_tables.specs.declared.operators.Op.TheVariants as op
use Rattle.lx_circuit.specs.Shapes.{Shapes, shape_of, joined}
use Rattle.lx_circuit.specs.Statements as tree
use Rattle.lx_circuit.specs.Statements.{Block, Done, Then}
use Rattle.lx_circuit.specs.Terms.{Term, Binary}
use Rattle.lx_fhdl.specs.Below.{ExprId, StmtId, all_stmts_below, all_branches_below, all_arms_below, stmt_below}
use Rattle.lx_fhdl.specs.Keeping.{BranchesStand, StmtStands}
use Rattle.lx_fhdl.specs.Stmts.{block_at, branches_at, arms_at, node_stmt}
use Rattle.lx_fhdl.specs.declared.stmts.Arm.{Arm}
use Rattle.lx_fhdl.specs.declared.stmts.Branch.{Branch}
use Rattle.lx_fhdl.specs.declared.stmts.Stmt.{Stmt}
use Rattle.lx_fhdl.specs.declared.stmts.Stmt.TheVariants as stmt
use Rattle.lx_lowering.specs.Flat.{append, key_of, some_when, holds, fails, first_branch, is_key, no_key, otherwise, flat, flat_if, flat_chain, flat_arms, flat_block}
use Rattle.lx_lowering.specs.Terms.{lower_term, never}
use Rattle.lx_fhdl.specs.Designs.{shapes, term}
use Rattle.lx_fhdl.specs.declared.design.Design.{Design}
use Rattle.lx_flat.specs.Keys.{AreBits, NonePut, arms_block, none_after, none_of, seen_keys}
use Rattle.lx_plain.specs.Lines.{Assigned, arm_lines, both_lines, branch_lines, has_branch, lines, lines_at, lines_in, under, under_each}
use Rattle.lx_plain.specs.Owned.{node_lines_of, AreOwned, Put, PutSome, PutUnder}
use Rattle.lx_plain.specs.Plain.{IsBit, TermPut}
use Rattle.lx_plain.specs.declared.owned.Own.{Own}
use Rattle.lx_flat.proofs.Arms.{keys_next}
use Rattle.lx_flat.specs.Puts.{branches_inside, branches_of, flat_of, lines_for, lines_inside, lowered_at}
use Rattle.lx_flat.proofs.Items.{next_item}
use Rattle.lx_plain.proofs.Lining.{lines_under}
use Rattle.lx_plain.proofs.Puts.{holds_kept, holds_new, put_is, put_lines, put_then, put_after, some_is, some_lines, some_more, some_grown, some_all, under_put}
use Rattle.lx_plain.proofs.Sound.{grows_then, same_shapes, term_kept}
use Rattle.lx_lowering.proofs.Appends.{append_all}

-- ---- parts of a statement are lower

pub if_lower : (k : ℕ) (x : Stmt) (branches : List Branch) (rest : List StmtId) (line : ℕ) → IsTrue (stmt_below x k) → x ≡ stmt.If branches rest line → IsTrue (all_branches_below k branches) × IsTrue (all_stmts_below k rest)
if_lower k x branches rest line l e =
    let own = subst (λ (y : Stmt). IsTrue (stmt_below y k)) e l in
    let parts = and_parts (all_branches_below k branches) (all_stmts_below k rest) (search own) in
    (search parts.0, search parts.1)

pub case_lower : (k : ℕ) (x : Stmt) (on : ExprId) (arms : List Arm) (rest : List StmtId) (line : ℕ) → IsTrue (stmt_below x k) → x ≡ stmt.Case on arms rest line → IsTrue (all_arms_below k arms) × IsTrue (all_stmts_below k rest)
case_lower k x on arms rest line l e =
    let own = subst (λ (y : Stmt). IsTrue (stmt_below y k)) e l in
    let parts = and_parts (all_arms_below k arms) (all_stmts_below k rest) (search own) in
    (search parts.0, search parts.1)

-- a node that is known
pub node_stmt_as : (n m : ℕ) (x y : Stmt) → StmtStands n m x → x ≡ y → StmtStands n m y
node_stmt_as n m x y h e = subst (λ (z : Stmt). StmtStands n m z) e h

pub node_stmt_is : (f : ℕ → Term) (g : ℕ → tree.Target) (h : ℕ → tree.Stmt) (t : tree.Stmt) (x y : Stmt) → t ≡ node_stmt f g h x → x ≡ y → t ≡ node_stmt f g h y
node_stmt_is f g h t x y e d = e ∙ ap (node_stmt f g h) d

-- the lines of a node
pub node_lines_is : (d : Design) (k : ℕ) (x y : Stmt) → ((s : ℕ) → lines_at d s k ≡ node_lines_of d s x) → x ≡ y → (s : ℕ) → node_lines_of d s y ≡ lines_at d s k
node_lines_is d k x y e f s = sym (e s ∙ ap (node_lines_of d s) f)

pub if_stands : (n m : ℕ) (x : Stmt) (branches : List Branch) (rest : List StmtId) (line : ℕ) → StmtStands n m x → x ≡ stmt.If branches rest line → BranchesStand n branches
if_stands n m x branches rest line h e = node_stmt_as n m x (stmt.If branches rest line) h e

pub case_stands : (n m : ℕ) (x : Stmt) (on : ExprId) (arms : List Arm) (rest : List StmtId) (line : ℕ) → StmtStands n m x → x ≡ stmt.Case on arms rest line → on.place < n
case_stands n m x on arms rest line h e = node_stmt_as n m x (stmt.Case on arms rest line) h e

-- a list that isn't empty
pub some_item : {X : Type 0} (r : Bool) (xs : List X) → r ≡ nat_eq (length xs) 0 → r ≡ false → 0 < length xs
some_item r [] e h = absurd (true≢false (sym e ∙ h))
some_item r (x ∷ xs) e h = omega arith

-- ---- blocks

pub block_more : (s : Shapes) (h : ℕ → tree.Stmt) (f : ℕ → ℕ → List Assigned) (ids : List StmtId) (k : ℕ) (z : StmtId) {u x y : Design} {a b c : List Own} {whole : Block} {ls : ℕ → List Assigned} → k < length ids
    → PutSome u x a b whole (flat_block s (block_at h (drop k ids))) ls (λ i. lines_in (f i) (drop k ids)) → Put x y b c (flat s (h (get_or ids k z).place)) (λ i. f i (get_or ids k z).place)
    → PutSome u y a c whole (flat_block s (block_at h (drop (k + 1) ids))) ls (λ i. lines_in (f i) (drop (k + 1) ids))
block_more s h f ids k z l p q = some_more (some_lines (λ i. ap (lines_in (f i)) (next_item ids k z l)) (some_is (ap (λ (is : List StmtId). flat_block s (block_at h is)) (next_item ids k z l)) p)) q

pub block_done : (s : Shapes) (h : ℕ → tree.Stmt) (f : ℕ → ℕ → List Assigned) (ids : List StmtId) (k : ℕ) {u x : Design} {a b : List Own} {whole : Block} {ls : ℕ → List Assigned} → length ids ≤ k
    → PutSome u x a b whole (flat_block s (block_at h (drop k ids))) ls (λ i. lines_in (f i) (drop k ids)) → Put u x a b whole ls
block_done s h f ids k l p = some_all (λ i. ap (lines_in (f i)) (drop_all k ids l)) (some_is (ap (λ (is : List StmtId). flat_block s (block_at h is)) (drop_all k ids l)) p)

-- ---- branches

-- a branch that keeps its rest needs no condition for further ones
pub lone_chain : (c : Term) (b chained rest : Block) → first_branch c b tree.NoBranch Done rest ≡ first_branch c b tree.NoBranch chained rest
lone_chain c Done chained Done = refl
lone_chain c Done chained (Then x xs) = refl
lone_chain c (Then y ys) chained rest = refl

bits_joined : (d : Design) (k : ℕ) (a : Term) → IsBit d k → shape_of (shapes d) a ≡ unsigned 1 → shape_of (shapes d) (Binary op.And (term d k) a) ≡ unsigned 1
bits_joined d k a b e = ap (λ x. joined x (shape_of (shapes d) a)) b.bit ∙ ap (λ x. joined (unsigned 1) x) e

-- the condition that none was taken so far is one bit
pub none_bit : {x y : Design} {k id : ℕ} (c : Term) → IsBit x k → TermPut x y id (Binary op.And (term x k) (fails (shapes x) c)) → IsBit y id
none_bit {x} {y} {k} {id} c b p = record {
  there = p.within;
  bit = ap (λ (s : Shapes). shape_of s (term y id)) (same_shapes x y p.grows.signals) ∙ ap (shape_of (shapes x)) p.tree ∙ bits_joined x k (fails (shapes x) c) b refl;
}

-- one branch more
pub chain_more : (s : Shapes) (t : ℕ → Term) (h : ℕ → tree.Stmt) (f : ℕ → ℕ → List Assigned) (bs : List Branch) (k : ℕ) (b : Branch) (r : Block) (rl : ℕ → List Assigned) (none cond here next : ℕ) {u x y v w : Design} {a c e : List Own} {whole : Block} {ls : ℕ → List Assigned} → k < length bs → b ≡ get_or bs k b
    → shapes x ≡ s → shapes v ≡ s → term x cond ≡ lower_term s (t b.cond.place) → cond < length x.exprs → none < length x.exprs
    → PutSome u x a c whole (flat_chain s (term x none) (branches_at t h (drop k bs)) r) ls (both_lines (λ i. branch_lines (f i) (drop k bs)) rl)
    → TermPut x y here (Binary op.And (term x none) (holds (shapes x) (term x cond)))
    → Put y v c e (some_when (term y here) (flat_block s (block_at h b.body))) (λ i. lines_in (f i) b.body)
    → TermPut v w next (Binary op.And (term v none) (fails (shapes v) (term v cond)))
    → PutSome u w a e whole (flat_chain s (term w next) (branches_at t h (drop (k + 1) bs)) r) ls (both_lines (λ i. branch_lines (f i) (drop (k + 1) bs)) rl)
chain_more s t h f bs k b r rl none cond here next {x = x} {y = y} {v = v} {w = w} l same sx sv tree cond_there none_there p i q j =
    let n = term x none in
    let g = i.grows in
    let step = grows_then g q.grows in
    let rest = λ (i : ℕ). branch_lines (f i) (drop (k + 1) bs) in
    let line = λ (i : ℕ).
    ap (λ (xs : List Branch). branch_lines (f i) xs ++ rl i) (next_item bs k b l) ∙ append_assoc (lines_in (f i) (get_or bs k b).body) (rest i) (rl i) ∙ ap (λ (z : Branch). lines_in (f i) z.body ++ (rest i ++ rl i)) (sym same) in
    let at = some_lines line (some_is (ap (λ (xs : List Branch). flat_chain s n (branches_at t h xs) r) (next_item bs k b l)) p) in
    let here_is : term y here ≡ Binary op.And n (holds s (lower_term s (t b.cond.place))) = i.tree ∙ ap (λ (z : Shapes). Binary op.And n (holds z (term x cond))) sx ∙ ap (λ (z : Term). Binary op.And n (holds s z)) tree in
    let body : some_when (term y here) (flat_block s (block_at h b.body)) ≡ some_when (Binary op.And n (holds s (lower_term s (t (get_or bs k b).cond.place)))) (flat_block s (block_at h (get_or bs k b).body)) =
    ap (λ (z : Term). some_when z (flat_block s (block_at h b.body))) here_is
    ∙ ap (λ (z : Branch). some_when (Binary op.And n (holds s (lower_term s (t z.cond.place)))) (flat_block s (block_at h z.body))) same in
    let after : term v cond ≡ lower_term s (t (get_or bs k b).cond.place) = term_kept cond step cond_there ∙ tree ∙ ap (λ (z : Branch). lower_term s (t z.cond.place)) same in
    let none_is : Binary op.And n (fails s (lower_term s (t (get_or bs k b).cond.place))) ≡ term w next =
    sym (j.tree ∙ ap (λ (z : Shapes). Binary op.And (term v none) (fails z (term v cond))) sv ∙ ap (λ (z : Term). Binary op.And z (fails s (term v cond))) (term_kept none step none_there) ∙ ap (λ (z : Term). Binary op.And n (fails s z)) after) in
    some_grown (some_is (ap (λ (z : Term). flat_chain s z (branches_at t h (drop (k + 1) bs)) r) none_is) (some_more at (put_after g p.owned (put_is body q)))) j.grows

pub chain_done : (s : Shapes) (t : ℕ → Term) (h : ℕ → tree.Stmt) (f : ℕ → ℕ → List Assigned) (bs : List Branch) (k : ℕ) (n : Term) (r : Block) (rl : ℕ → List Assigned) {u x : Design} {a b : List Own} {whole : Block} {ls : ℕ → List Assigned} → length bs ≤ k
    → PutSome u x a b whole (flat_chain s n (branches_at t h (drop k bs)) r) ls (both_lines (λ i. branch_lines (f i) (drop k bs)) rl) → PutSome u x a b whole (some_when n r) ls rl
chain_done s t h f bs k n r rl l p =
    some_lines (λ i. ap (λ (xs : List Branch). branch_lines (f i) xs ++ rl i) (drop_all k bs l)) (some_is (ap (λ (xs : List Branch). flat_chain s n (branches_at t h xs) r) (drop_all k bs l)) p)

-- the first of several branches, and the further ones
pub several_are : (s : Shapes) (t : ℕ → Term) (h : ℕ → tree.Stmt) (bs : List Branch) (z : Branch) (r : Block) → 2 ≤ length bs
    → append (some_when (lower_term s (t (get_or bs 0 z).cond.place)) (flat_block s (block_at h (get_or bs 0 z).body))) (flat_chain s (fails s (lower_term s (t (get_or bs 0 z).cond.place))) (branches_at t h (drop 1 bs)) r) ≡ flat_if s (branches_at t h bs) r
several_are s t h [] z r l = absurd (omega arith)
several_are s t h (x ∷ []) z r l = absurd (omega arith)
several_are s t h (x ∷ (y ∷ more)) z r l = refl

-- ---- arms

-- one arm more
pub arms_more : (s : Shapes) (h : ℕ → tree.Stmt) (f : ℕ → ℕ → List Assigned) (arms : List Arm) (k : ℕ) (z : Arm) (o : Term) (on here : ℕ) (fresh : Bool) {u x y v : Design} {a b c : List Own} {whole : Block} {ls : ℕ → List Assigned} → k < length arms → z ≡ get_or arms k z
    → shapes x ≡ s → term x on ≡ o → cond fresh (Binary op.Eq o (key_of s o z.key)) never ≡ is_key s o (seen_keys (take k arms)) z.key
    → PutSome u x a b whole (arms_block s h o (seen_keys (take k arms)) (drop k arms)) ls (λ j. arm_lines (f j) (drop k arms))
    → TermPut x y here (cond fresh (Binary op.Eq (term x on) (key_of (shapes x) (term x on) z.key)) never)
    → Put y v b c (some_when (term y here) (flat_block s (block_at h z.body))) (λ j. lines_in (f j) z.body)
    → PutSome u v a c whole (arms_block s h o (seen_keys (take (k + 1) arms)) (drop (k + 1) arms)) ls (λ j. arm_lines (f j) (drop (k + 1) arms))
arms_more s h f arms k z o on here fresh {x = x} {y = y} l same sx i is p e q =
    let seen = seen_keys (take k arms) in
    let rest = λ (j : ℕ). arm_lines (f j) (drop (k + 1) arms) in
    let line = λ (j : ℕ). ap (arm_lines (f j)) (next_item arms k z l) ∙ ap (λ (w : Arm). lines_in (f j) w.body ++ rest j) (sym same) in
    let at = some_lines line (some_is (ap (arms_block s h o seen) (next_item arms k z l)) p) in
    let tree : term y here ≡ is_key s o seen z.key =
    e.tree ∙ ap (λ (r : Shapes). cond fresh (Binary op.Eq (term x on) (key_of r (term x on) z.key)) never) sx ∙ ap (λ (w : Term). cond fresh (Binary op.Eq w (key_of s w z.key)) never) i ∙ is in
    let body : some_when (term y here) (flat_block s (block_at h z.body)) ≡ some_when (is_key s o seen (get_or arms k z).key) (flat_block s (block_at h (get_or arms k z).body)) =
    ap (λ (w : Term). some_when w (flat_block s (block_at h z.body))) tree
    ∙ ap (λ (w : Arm). some_when (is_key s o seen w.key) (flat_block s (block_at h w.body))) same in
    some_is (ap (λ (keys : List ℤ). arms_block s h o keys (drop (k + 1) arms)) (sym (keys_next arms k z l))) (some_more at (put_after e.grows p.owned (put_is body q)))

pub arms_done : (s : Shapes) (h : ℕ → tree.Stmt) (f : ℕ → ℕ → List Assigned) (arms : List Arm) (k : ℕ) (o : Term) (seen : List ℤ) {u x : Design} {a b : List Own} {whole : Block} {ls : ℕ → List Assigned} → length arms ≤ k
    → PutSome u x a b whole (arms_block s h o seen (drop k arms)) ls (λ j. arm_lines (f j) (drop k arms)) → Put u x a b whole ls
arms_done s h f arms k o seen l p = some_all (λ j. ap (arm_lines (f j)) (drop_all k arms l)) (some_is (ap (arms_block s h o seen) (drop_all k arms l)) p)

-- the arms alone, and the rest where no key is the value
pub arms_are : (s : Shapes) (h : ℕ → tree.Stmt) (on : Term) (seen : List ℤ) (before : Option Term) (arms : List Arm) (r : Block) → append (arms_block s h on seen arms) (otherwise (none_after s on seen before arms) r) ≡ flat_arms s on seen before (arms_at h arms) r
arms_are s h on seen before [] r = refl
arms_are s h on seen before (a ∷ more) r =
    append_all (some_when (is_key s on seen a.key) (flat_block s (block_at h a.body))) (arms_block s h on (a.key ∷ seen) more) (otherwise (none_after s on (a.key ∷ seen) (no_key s on seen before a.key) more) r)
    ∙ ap (append (some_when (is_key s on seen a.key) (flat_block s (block_at h a.body)))) (arms_are s h on (a.key ∷ seen) (no_key s on seen before a.key) more r)

pub otherwise_none : (before : Option Term) → otherwise before Done ≡ Done
otherwise_none None = refl
otherwise_none (Some c) = refl

-- ---- lists of branches

pub after_first : {X : Type 0} (xs : List X) → take (length xs - 1) (drop 1 xs) ≡ drop 1 xs
after_first {X} xs = let n : length xs - 1 ≡ length (drop 1 xs) = omega (arith, length-drop 1 xs) in ap (λ (k : ℕ). take k (drop 1 xs)) n ∙ take-length (drop 1 xs)

-- ---- several branches, and a lone one

-- under a condition from a line
pub put_under : (d : Design) (line : ℕ) (ids : List StmtId) {x y : Design} {a b : List Own} {s : Block} → Put x y a b s (under_each line (lines_for d ids)) → Put x y a b s (lines_inside d true line ids)
put_under d line ids p = put_lines (λ k. sym (lines_under line (lines_at d k) ids)) p

pub put_both_under : (d : Design) (line : ℕ) (ids is : List StmtId) {x y : Design} {a b : List Own} {s : Block} → Put x y a b s (both_lines (under_each line (lines_for d ids)) (under_each line (lines_for d is)))
    → Put x y a b s (both_lines (lines_inside d true line ids) (lines_inside d true line is))
put_both_under d line ids is p =
    put_lines (λ k. ap (λ (xs : List Assigned). xs ++ under line (lines d k is)) (sym (lines_under line (lines_at d k) ids)) ∙ ap (λ (xs : List Assigned). lines_inside d true line ids k ++ xs) (sym (lines_under line (lines_at d k) is))) p

-- under one or none
pub put_where : (d : Design) (line : ℕ) (ids : List StmtId) {x y : Design} {a b : List Own} {s : Block} {r t : Bool} → r ≡ t → Put x y a b s (lines_inside d r line ids) → Put x y a b s (lines_inside d t line ids)
put_where d line ids {x} {y} {a} {b} {s} e p = subst (λ (c : Bool). Put x y a b s (lines_inside d c line ids)) e p

-- some branches are a condition
some_branch : (bs : List Branch) → 1 ≤ length bs → true ≡ has_branch bs
some_branch [] l = absurd (omega arith)
some_branch (b ∷ bs) l = refl

pub put_branches : (d : Design) (line : ℕ) (bs : List Branch) (rest : List StmtId) {x y : Design} {a b : List Own} {s : Block} → 1 ≤ length bs → Put x y a b s (both_lines (branches_inside d true line bs) (lines_inside d true line rest))
    → Put x y a b s (both_lines (branches_inside d (has_branch bs) line bs) (lines_inside d (has_branch bs) line rest))
put_branches d line bs rest {x} {y} {a} {b} {s} l p = subst (λ (c : Bool). Put x y a b s (both_lines (branches_inside d c line bs) (lines_inside d c line rest))) (some_branch bs l) p

-- no branch
pub put_no_branch : (d : Design) (line : ℕ) (bs : List Branch) (rest : List StmtId) {x y : Design} {a b : List Own} → bs ≡ [] → Put x y a b (flat_of d rest) (lines_for d rest)
    → Put x y a b (flat_if (shapes d) (branches_of d bs) (flat_of d rest)) (both_lines (branches_inside d (has_branch bs) line bs) (lines_inside d (has_branch bs) line rest))
put_no_branch d line bs rest {x} {y} {a} {b} e p =
    subst (λ (cs : List Branch). Put x y a b (flat_if (shapes d) (branches_of d cs) (flat_of d rest)) (both_lines (branches_inside d (has_branch cs) line cs) (lines_inside d (has_branch cs) line rest))) (sym e) (put_lines (λ k. refl) p)

-- one branch
pub put_one_branch : (d : Design) (line : ℕ) (bs : List Branch) (c : Branch) (rest : List StmtId) {x y : Design} {a b : List Own} → bs ≡ c ∷ []
    → Put x y a b (first_branch (lowered_at d c.cond.place) (flat_of d c.body) tree.NoBranch Done (flat_of d rest)) (both_lines (lines_inside d true line c.body) (lines_inside d true line rest))
    → Put x y a b (flat_if (shapes d) (branches_of d bs) (flat_of d rest)) (both_lines (branches_inside d (has_branch bs) line bs) (lines_inside d (has_branch bs) line rest))
put_one_branch d line bs c rest {x} {y} {a} {b} e p =
    let r = flat_of d rest in
    let t = lowered_at d c.cond.place in
    let further = flat_chain (shapes d) (fails (shapes d) t) tree.NoBranch r in
    let body = λ (k : ℕ). ap (λ (xs : List Assigned). xs ++ lines_inside d true line rest k) (sym (append-nil (lines_inside d true line c.body k))) in
    subst (λ (cs : List Branch). Put x y a b (flat_if (shapes d) (branches_of d cs) r) (both_lines (branches_inside d (has_branch cs) line cs) (lines_inside d (has_branch cs) line rest))) (sym e)
    (put_lines body (put_is (lone_chain t (flat_of d c.body) further r) p))

pub only_item : {X : Type 0} (xs : List X) (x : X) → length xs ≡ 1 → x ≡ get_or xs 0 x → xs ≡ x ∷ []
only_item [] x l e = absurd (omega arith)
only_item (y ∷ []) x l e = ap (λ z. z ∷ []) (sym e)
only_item (y ∷ z ∷ more) x l e = absurd (omega arith)

pub fails_bit : {x y : Design} {id : ℕ} (c : Term) → TermPut x y id (fails (shapes x) c) → IsBit y id
fails_bit {x} {y} {id} c p = record { there = p.within; bit = ap (λ (s : Shapes). shape_of s (term y id)) (same_shapes x y p.grows.signals) ∙ ap (shape_of (shapes x)) p.tree }

pub holds_bit : {x y : Design} {id : ℕ} (c : Term) → TermPut x y id (holds (shapes x) c) → IsBit y id
holds_bit {x} {y} {id} c p = record { there = p.within; bit = ap (λ (s : Shapes). shape_of s (term y id)) (same_shapes x y p.grows.signals) ∙ ap (shape_of (shapes x)) p.tree }

pub and_put : (x y z : Design) (left right id : ℕ) (t : Term) → left < length x.exprs → TermPut x y right t → TermPut y z id (Binary op.And (term y left) (term y right)) → TermPut x z id (Binary op.And (term x left) t)
and_put x y z left right id t l p q = record {
  grows = grows_then p.grows q.grows;
  within = q.within;
  tree = q.tree ∙ ap (λ (u : Term). Binary op.And u (term y right)) (term_kept left p.grows l) ∙ ap (Binary op.And (term x left)) p.tree;
}

-- the lines of the first branch, and of the others
first_lines : (f : ℕ → List Assigned) (bs : List Branch) (b : Branch) (rl : List Assigned) → 1 ≤ length bs → b ≡ get_or bs 0 b → lines_in f b.body ++ (branch_lines f (drop 1 bs) ++ rl) ≡ branch_lines f bs ++ rl
first_lines f [] b rl l e = absurd (omega arith)
first_lines f (x ∷ xs) b rl l e = ap (λ (z : Branch). lines_in f z.body ++ (branch_lines f xs ++ rl)) e ∙ sym (append_assoc (lines_in f x.body) (branch_lines f xs) rl)

pub several_put : (s : Shapes) (t : ℕ → Term) (h : ℕ → tree.Stmt) (f : ℕ → ℕ → List Assigned) (bs : List Branch) (b : Branch) (r : Block) (rl : ℕ → List Assigned) (cond none : ℕ) {x y v w : Design} {a c e : List Own} → 2 ≤ length bs → b ≡ get_or bs 0 b → cond < length x.exprs
    → shapes y ≡ s → term x cond ≡ lower_term s (t b.cond.place) → Put x y a c (some_when (term x cond) (flat_block s (block_at h b.body))) (λ i. lines_in (f i) b.body)
    → TermPut y v none (fails (shapes y) (term y cond)) → Put v w c e (flat_chain s (term v none) (branches_at t h (drop 1 bs)) r) (both_lines (λ i. branch_lines (f i) (drop 1 bs)) rl)
    → Put x w a e (flat_if s (branches_at t h bs) r) (both_lines (λ i. branch_lines (f i) bs) rl)
several_put s t h f bs b r rl cond none {x = x} {y = y} l same there sy tree p i q =
    let first : some_when (term x cond) (flat_block s (block_at h b.body)) ≡ some_when (lower_term s (t (get_or bs 0 b).cond.place)) (flat_block s (block_at h (get_or bs 0 b).body)) =
    ap (λ (z : Term). some_when z (flat_block s (block_at h b.body))) tree ∙ ap (λ (z : Branch). some_when (lower_term s (t z.cond.place)) (flat_block s (block_at h z.body))) same in
    let further = ap (λ (z : Term). flat_chain s z (branches_at t h (drop 1 bs)) r) (i.tree ∙ ap (λ (z : Shapes). fails z (term y cond)) sy ∙ ap (fails s) (term_kept cond p.grows there ∙ tree) ∙ ap (λ (z : Branch). fails s (lower_term s (t z.cond.place))) same) in
    put_lines (λ j. first_lines (f j) bs b (rl j) (omega arith) same) (put_is (several_are s t h bs b r l) (put_then (put_is first p) (put_after i.grows p.owned (put_is further q))))

-- a branch that keeps its rest beside it
pub lone_put : (cond : ℕ) (p q : Block) {x y z w : Design} {a b then_ else_ : List Own} {c : Term} {line : ℕ} {ls ms : ℕ → List Assigned} → AreOwned x a → term z cond ≡ c → Put x y [] then_ p ls → Put y z [] else_ q ms
    → PutUnder z w a b (term z cond) then_ else_ line → Put x w a b (first_branch c p tree.NoBranch Done q) (both_lines (under_each line ls) (under_each line ms))
lone_put cond p q there e f g h = under_put cond p q (grows_then f.grows g.grows) there (holds_kept g.grows (holds_new f)) (holds_new g) e h

-- ---- the rest of arms

pub no_items : {X : Type 0} (r : Bool) (xs : List X) → r ≡ nat_eq (length xs) 0 → r ≡ true → xs ≡ []
no_items r [] e f = refl
no_items r (x ∷ xs) e f = absurd (true≢false (sym f ∙ e ∙ ne_eqb (length (x ∷ xs)) 0 (λ q. omega arith)))

pub otherwise_empty : (s : Shapes) (h : ℕ → tree.Stmt) (before : Option Term) (ids : List StmtId) → ids ≡ [] → Done ≡ otherwise before (flat_block s (block_at h ids))
otherwise_empty s h before ids e = sym (ap (λ (is : List StmtId). otherwise before (flat_block s (block_at h is))) e ∙ otherwise_none before)

pub some_none : {x y : Design} {o : Option ExprId} {t : Option Term} (i : ExprId) → NonePut x y o t → o ≡ Some i → (IsBit y i.place) × (Some (term y i.place) ≡ t)
some_none {x} {y} i p e = (subst (λ (o : Option ExprId). AreBits y o) e p.bit, ap (none_of y) (sym e) ∙ p.tree)

pub no_none : {x y : Design} {o : Option ExprId} {t : Option Term} → NonePut x y o t → o ≡ None → None ≡ t
no_none {x} {y} p e = ap (none_of y) (sym e) ∙ p.tree
