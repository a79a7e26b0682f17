-- What the test says where it is true.
use Rattle.std.proofs.Common.{◌≡◌, ℕ, zero, suc, ◌+◌, ◌<◌, ◌≤◌, Bool, true, false, not, ◌&&◌, ◌||◌, nat_le, nat_lt, nat_eq, List, [], ◌∷◌, ◌++◌, length, refl, sym, ap, subst, ◌∙◌, arith, inl, inr}
use Rattle.std.specs.Prelude.{Option, Some, None, IfSome, flat_map, map, slice_get}
use Rattle.std.specs.List.{list_all, list_any}
use Rattle.std.proofs.lemmas.Bool.{and_left, and_parts, eqb-true, leb-true, ltb-true, or_cases}
use Rattle.lx_arena.specs.Lower.{EachLower}
use Rattle.lx_arena.proofs.Places.{by_places, lower_at}
use Rattle.lx_circuit.specs.Circuit.{is_among}
use Rattle.lx_circuit.specs.Statements as tree
use Rattle.lx_circuit.specs.Statements.{drives, drives_arm, drives_block, drives_branch, is_target, some_target}
use Rattle.lx_circuit.specs.Terms.{Term}
use Rattle.lx_fhdl.specs.Below.{TargetId, all_targets_below, target_below}
use Rattle.lx_fhdl.specs.Designs as design
use Rattle.lx_fhdl.specs.Keeping.{EachOf, IsAddress, IsUnsigned, block_depth}
use Rattle.lx_fhdl.specs.Kept.{is_address, is_unsigned}
use Rattle.lx_fhdl.specs.Stmts.{node_target, target_at, targets_at}
use Rattle.lx_fhdl.specs.declared.design.Design.{Design}
use Rattle.lx_fhdl.specs.declared.design.Domain.{Domain}
use Rattle.lx_fhdl.specs.declared.exprs.SigId.{SigId}
use Rattle.lx_fhdl.specs.declared.stmts.Target.{Target}
use Rattle.lx_fhdl.specs.declared.stmts.Target.TheVariants as target
use Rattle.lx_fhdl.proofs.Kept.{each_of, is_address-is, is_unsigned-is}
use Rattle.lx_fhdl.proofs.Resets.{each_of_at}
use Rattle.lx_fhdl.proofs.StmtTrees.{target_at-is}
use Rattle.lx_description.specs.Below.{FsmStmtId, all_fsm_arms_below, all_fsm_below, all_fsm_branches_below, fsm_below}
use Rattle.lx_description.specs.Fsms.{arms_at, assigned, block_at, branches_at, node_assigned}
use Rattle.lx_description.specs.Keeping.{FsmBranchesStand, FsmStmtStands, FsmsKeep, IsBody, IsFsm, IsPlace, fsms_drive, have_clock}
use Rattle.lx_description.specs.Kept.{fsm_stmt_stands, is_body, is_fsm, is_place}
use Rattle.lx_description.specs.Wires.{fsm_signals, resets, some_number}
use Rattle.lx_description.specs.declared.description.Description.{Description}
use Rattle.lx_description.specs.declared.fsms.Asked.{Asked}
use Rattle.lx_description.specs.declared.fsms.FsmArm.{FsmArm}
use Rattle.lx_description.specs.declared.fsms.FsmBranch.{FsmBranch}
use Rattle.lx_description.specs.declared.fsms.FsmDecl.{FsmDecl}
use Rattle.lx_description.specs.declared.fsms.FsmPlace.{FsmPlace}
use Rattle.lx_description.specs.declared.fsms.FsmStmt.{FsmStmt}
use Rattle.lx_description.specs.declared.fsms.FsmStmt.TheVariants as fsm
use Rattle.lx_description.specs.declared.fsms.StateDecl.{StateDecl}
use Rattle.lx_fsm_kept.specs.Depths.{stmt_tree}
use Rattle.lx_fsm_kept.specs.Stand.{FsmsStand, fsms_stand, has_signal, is_left, passes, some_left}
use Rattle.lx_fsm_kept.proofs.Assigned.{stmt_is}

-- ---- FSMs

fsm_branches-is : (n : ℕ) (bs : List FsmBranch) → list_all (λ (b : FsmBranch). nat_lt b.cond.place n) bs ≡ true → FsmBranchesStand n bs
fsm_branches-is n [] h = tt
fsm_branches-is n (b ∷ bs) h = let p = and_parts _ _ h in (ltb-true b.cond.place n p.0, fsm_branches-is n bs p.1)

fsm_stmt-is : (n m : ℕ) (x : FsmStmt) → fsm_stmt_stands n m x ≡ true → FsmStmtStands n m x
fsm_stmt-is n m (fsm.Assign target value line) h = let p = and_parts _ _ h in (ltb-true target.place m p.0, ltb-true value.place n p.1)
fsm_stmt-is n m (fsm.If branches rest line) h = fsm_branches-is n branches h
fsm_stmt-is n m (fsm.Case on arms rest line) h = ltb-true on.place n h
fsm_stmt-is n m (fsm.NextState name line) h = tt
fsm_stmt-is n m (fsm.NextValue target value line) h = let p = and_parts _ _ h in (ltb-true target.place m p.0, ltb-true value.place n p.1)

is_body-is : (d : Description) (s : StateDecl) → is_body d s ≡ true → IsBody d s
is_body-is d s h = let p = and_parts _ _ h in record { there = p.0; depth = leb-true (block_depth (assigned d s.body)) 64 p.1 }

is_place-is : (d : Design) (o : Option FsmPlace) → is_place d o ≡ true → IfSome o (IsPlace d)
is_place-is d None h = tt
is_place-is d (Some p) h = let q = and_parts _ _ h in record { comb = leb-true p.comb (length d.comb) q.0; sync = leb-true p.sync (length d.sync) q.1 }

state-is : (d : Design) (n : ℕ) (x : SigId) → (nat_eq n 0 || is_address d n x) ≡ true → 0 < n → IsAddress d n x
state-is d n x h some =
    elim (or_cases (nat_eq n 0) (is_address d n x) h) [
      | inl e ↦ absurd (omega (arith, eqb-true n 0 e, some))
      | inr e ↦ is_address-is d n x e
    ]

is_fsm-is : (d : Description) (f : FsmDecl) → is_fsm d f ≡ true → IsFsm d f
is_fsm-is d f h =
    let p = and_parts _ _ h in
    let names = and_parts _ _ p.0 in
    let q = and_parts _ _ p.1 in
    let states = and_parts _ _ q.0 in
    let r = and_parts _ _ q.1 in
    let asked = and_parts _ _ r.0 in
    record {
      most = leb-true (length f.states) 256 names.0;
      distinct = names.1;
      bodies = each_of (IsBody d) (is_body d) f.states (is_body-is d) states.0;
      state = state-is d.design (length f.states) f.state states.1;
      asked = each_of (λ (a : Asked). IsUnsigned d.design 1 a.signal) (λ (a : Asked). is_unsigned d.design 1 a.signal) f.asked (λ a e. is_unsigned-is d.design 1 a.signal e) asked.0;
      asked_once = asked.1;
      place = is_place-is d.design f.place r.1;
    }

-- ---- targets and statements that name a signal nowhere

is_not : (b : Bool) → not b ≡ true → b ≡ false
is_not true e = absurd (cc)
is_not false e = refl

neither : (a b : Bool) → a ≡ false → b ≡ false → (a || b) ≡ false
neither a b e f = rw (e, f) refl

parts_none : (x k : ℕ) (g : ℕ → tree.Target) (is : List TargetId) → all_targets_below k is ≡ true → ((j : ℕ) → j < k → is_target x (g j) ≡ false) → some_target x (targets_at g is) ≡ false
parts_none x k g [] l h = refl
parts_none x k g (i ∷ is) l h =
    let p = and_parts (nat_lt i.place k) (all_targets_below k is) l in
    neither (is_target x (g i.place)) (some_target x (targets_at g is)) (h i.place (ltb-true i.place k p.0)) (parts_none x k g is p.1 h)

node_none : (x k : ℕ) (t : ℕ → Term) (g : ℕ → tree.Target) (y : Target) → passes x y ≡ true → target_below y k ≡ true → ((j : ℕ) → j < k → is_target x (g j) ≡ false) → is_target x (node_target t g y) ≡ false
node_none x k t g (target.Whole y) a l h = is_not (nat_eq y.0 x) a
node_none x k t g (target.Part y low len) a l h = is_not (nat_eq y.0 x) a
node_none x k t g (target.Cat parts) a l h = parts_none x k g parts l h
node_none x k t g (target.Pick items index) a l h = parts_none x k g items l h

all_at : {T : Type 0} (f : T → Bool) (xs : List T) → list_all f xs ≡ true → (k : ℕ) (x : T) → slice_get xs k ≡ Some x → f x ≡ true
all_at f [] all k x e = absurd (cc)
all_at f (y ∷ ys) all zero x e = let p = and_parts (f y) (list_all f ys) all in let same : y ≡ x = cc in subst (λ z. f z ≡ true) same p.0
all_at f (y ∷ ys) all (suc k) x e = all_at f ys (and_parts (f y) (list_all f ys) all).1 k x e

targets_none : (d : Design) (x : ℕ) → EachLower target_below d.targets → list_all (passes x) d.targets ≡ true → (k : ℕ) → k < length d.targets → is_target x (design.target d k) ≡ false
targets_none d x low all = by_places (λ k. is_target x (design.target d k) ≡ false) d.targets (λ k y found below.
    ap (is_target x) (target_at-is (design.term d) d.targets low k y found)
    ∙ node_none x k (design.term d) (design.target d) y (all_at (passes x) d.targets all k y found) (lower_at target_below d.targets low k y found) below)

block_none : (x k : ℕ) (g : ℕ → tree.Stmt) (is : List FsmStmtId) → all_fsm_below k is ≡ true → ((j : ℕ) → j < k → drives x (g j) ≡ false) → drives_block x (block_at g is) ≡ false
block_none x k g [] l h = refl
block_none x k g (i ∷ is) l h =
    let p = and_parts (nat_lt i.place k) (all_fsm_below k is) l in
    neither (drives x (g i.place)) (drives_block x (block_at g is)) (h i.place (ltb-true i.place k p.0)) (block_none x k g is p.1 h)

branches_none : (x k : ℕ) (t : ℕ → Term) (g : ℕ → tree.Stmt) (bs : List FsmBranch) → all_fsm_branches_below k bs ≡ true → ((j : ℕ) → j < k → drives x (g j) ≡ false) → drives_branch x (branches_at t g bs) ≡ false
branches_none x k t g [] l h = refl
branches_none x k t g (b ∷ bs) l h =
    let p = and_parts (all_fsm_below k b.body) (all_fsm_branches_below k bs) l in
    neither (drives_block x (block_at g b.body)) (drives_branch x (branches_at t g bs)) (block_none x k g b.body p.0 h) (branches_none x k t g bs p.1 h)

arms_none : (x k : ℕ) (g : ℕ → tree.Stmt) (bs : List FsmArm) → all_fsm_arms_below k bs ≡ true → ((j : ℕ) → j < k → drives x (g j) ≡ false) → drives_arm x (arms_at g bs) ≡ false
arms_none x k g [] l h = refl
arms_none x k g (b ∷ bs) l h =
    let p = and_parts (all_fsm_below k b.body) (all_fsm_arms_below k bs) l in
    neither (drives_block x (block_at g b.body)) (drives_arm x (arms_at g bs)) (block_none x k g b.body p.0 h) (arms_none x k g bs p.1 h)

stmt_none : (x n m k : ℕ) (t : ℕ → Term) (w : ℕ → tree.Target) (g : ℕ → tree.Stmt) (y : FsmStmt) → FsmStmtStands n m y → fsm_below y k ≡ true → ((j : ℕ) → j < m → is_target x (w j) ≡ false) → ((j : ℕ) → j < k → drives x (g j) ≡ false)
    → drives x (node_assigned t w g y) ≡ false
stmt_none x n m k t w g (fsm.Assign target value line) s l f h = f target.place s.0
stmt_none x n m k t w g (fsm.NextValue target value line) s l f h = f target.place s.0
stmt_none x n m k t w g (fsm.NextState name line) s l f h = refl
stmt_none x n m k t w g (fsm.If branches rest line) s l f h =
    let p = and_parts (all_fsm_branches_below k branches) (all_fsm_below k rest) l in
    neither (drives_branch x (branches_at t g branches)) (drives_block x (block_at g rest)) (branches_none x k t g branches p.0 h) (block_none x k g rest p.1 h)
stmt_none x n m k t w g (fsm.Case on arms rest line) s l f h =
    let p = and_parts (all_fsm_arms_below k arms) (all_fsm_below k rest) l in
    neither (drives_arm x (arms_at g arms)) (drives_block x (block_at g rest)) (arms_none x k g arms p.0 h) (block_none x k g rest p.1 h)

stmts_none : (d : Design) (xs : List FsmStmt) (x : ℕ) → EachLower fsm_below xs → EachOf (FsmStmtStands (length d.exprs) (length d.targets)) xs → ((j : ℕ) → j < length d.targets → is_target x (design.target d j) ≡ false)
    → (k : ℕ) → k < length xs → drives x (stmt_tree d xs k) ≡ false
stmts_none d xs x low stand none = by_places (λ k. drives x (stmt_tree d xs k) ≡ false) xs (λ k y found below.
    ap (drives x) (stmt_is d xs low k y found)
    ∙ stmt_none x (length d.exprs) (length d.targets) k (design.term d) (design.target d) (stmt_tree d xs) y (each_of_at (FsmStmtStands (length d.exprs) (length d.targets)) xs stand k y found) (lower_at fsm_below xs low k y found) none below)

states_none : (d : Description) (x : ℕ) (ss : List StateDecl) → EachOf (IsBody d) ss → ((k : ℕ) → k < length d.fsm_stmts → drives x (stmt_tree d.design d.fsm_stmts k) ≡ false) → list_any (λ (s : StateDecl). drives_block x (assigned d s.body)) ss ≡ false
states_none d x [] are none = refl
states_none d x (s ∷ ss) are none =
    neither (drives_block x (assigned d s.body)) (list_any (λ (t : StateDecl). drives_block x (assigned d t.body)) ss)
    (block_none x (length d.fsm_stmts) (stmt_tree d.design d.fsm_stmts) s.body are.0.there none) (states_none d x ss are.1 none)

fsms_none : (d : Description) (x : ℕ) (fs : List FsmDecl) → EachOf (IsFsm d) fs → ((k : ℕ) → k < length d.fsm_stmts → drives x (stmt_tree d.design d.fsm_stmts k) ≡ false)
    → list_any (λ (f : FsmDecl). list_any (λ (s : StateDecl). drives_block x (assigned d s.body)) f.states) fs ≡ false
fsms_none d x [] are none = refl
fsms_none d x (f ∷ fs) are none =
    neither (list_any (λ (s : StateDecl). drives_block x (assigned d s.body)) f.states) (list_any (λ (g : FsmDecl). list_any (λ (s : StateDecl). drives_block x (assigned d s.body)) g.states) fs)
    (states_none d x f.states are.0.bodies none) (fsms_none d x fs are.1 none)

-- ---- signals of FSMs

left_false : (a b : Bool) → (a || b) ≡ false → a ≡ false
left_false true b e = absurd (cc)
left_false false b e = refl

right_false : (a b : Bool) → (a || b) ≡ false → b ≡ false
right_false true b e = absurd (cc)
right_false false b e = e

among_both : (x : ℕ) (xs ys : List ℕ) → is_among x xs ≡ false → is_among x ys ≡ false → is_among x (xs ++ ys) ≡ false
among_both x [] ys e f = f
among_both x (z ∷ zs) ys e f =
    neither (nat_eq z x) (is_among x (zs ++ ys)) (left_false (nat_eq z x) (is_among x zs) e) (among_both x zs ys (right_false (nat_eq z x) (is_among x zs) e) f)

asked_same : (x : ℕ) (as_ : List Asked) → list_any (λ (a : Asked). nat_eq a.signal.0 x) as_ ≡ is_among x (map (λ (a : Asked). a.signal.0) as_)
asked_same x [] = refl
asked_same x (a ∷ as_) = ap (λ b. nat_eq a.signal.0 x || b) (asked_same x as_)

own_none : (x : ℕ) (f : FsmDecl) → has_signal x f ≡ false → is_among x (fsm_signals f) ≡ false
own_none x f e =
    let asked = list_any (λ (a : Asked). nat_eq a.signal.0 x) f.asked in
    neither (nat_eq f.state.0 x) (is_among x (map (λ (a : Asked). a.signal.0) f.asked)) (left_false (nat_eq f.state.0 x) asked e) (sym (asked_same x f.asked) ∙ right_false (nat_eq f.state.0 x) asked e)

signals_none : (x : ℕ) (fs : List FsmDecl) → list_any (has_signal x) fs ≡ false → is_among x (flat_map fsm_signals fs) ≡ false
signals_none x [] e = refl
signals_none x (f ∷ fs) e =
    among_both x (fsm_signals f) (flat_map fsm_signals fs) (own_none x f (left_false (has_signal x f) (list_any (has_signal x) fs) e)) (signals_none x fs (right_false (has_signal x f) (list_any (has_signal x) fs) e))

-- ---- resets

left_one : (d : Description) (o : Option SigId) (rest : List ℕ) (x : ℕ) → some_left d o ≡ true → (is_among x rest ≡ true → is_left d x ≡ true) → is_among x (some_number o ++ rest) ≡ true → is_left d x ≡ true
left_one d None rest x s h e = h e
left_one d (Some y) rest x s h e =
    elim (or_cases (nat_eq y.0 x) (is_among x rest) e) [
      | inl p ↦ subst (λ (k : ℕ). is_left d k ≡ true) (eqb-true y.0 x p) s
      | inr q ↦ h q
    ]

left_at : (d : Description) (xs : List Domain) (x : ℕ) → list_all (λ (a : Domain). some_left d a.reset) xs ≡ true → is_among x (resets xs) ≡ true → is_left d x ≡ true
left_at d [] x all e = absurd (cc)
left_at d (a ∷ as_) x all e =
    let p = and_parts (some_left d a.reset) (list_all (λ (b : Domain). some_left d b.reset) as_) all in
    left_one d a.reset (resets as_) x p.0 (left_at d as_ x p.1) e

-- ---- the whole

all_stand : (n m : ℕ) (xs : List FsmStmt) → list_all (fsm_stmt_stands n m) xs ≡ true → EachOf (FsmStmtStands n m) xs
all_stand n m xs e = each_of (FsmStmtStands n m) (fsm_stmt_stands n m) xs (fsm_stmt-is n m) e

pub stand_there : (d : Description) (b : Bool) (n m : ℕ) (xs : List FsmStmt) → n ≡ length d.design.exprs → m ≡ length d.design.targets → xs ≡ d.fsm_stmts → b ≡ list_all (fsm_stmt_stands n m) xs → b ≡ true
    → EachOf (FsmStmtStands (length d.design.exprs) (length d.design.targets)) d.fsm_stmts
stand_there d b n m xs e f g is holds =
    all_stand (length d.design.exprs) (length d.design.targets) d.fsm_stmts
    (ap (λ (k : ℕ). list_all (fsm_stmt_stands k (length d.design.targets)) d.fsm_stmts) (sym e) ∙ ap (λ (k : ℕ). list_all (fsm_stmt_stands n k) d.fsm_stmts) (sym f) ∙ ap (list_all (fsm_stmt_stands n m)) (sym g) ∙ sym is ∙ holds)

pub none_stand : (d : Description) → list_all (fsm_stmt_stands (length d.design.exprs) (length d.design.targets)) d.fsm_stmts ≡ false → fsms_stand d ≡ false
none_stand d e = and_left (list_all (fsm_stmt_stands (length d.design.exprs) (length d.design.targets)) d.fsm_stmts) _ e

pub others_stand : (d : Description) → list_all (fsm_stmt_stands (length d.design.exprs) (length d.design.targets)) d.fsm_stmts ≡ true
    → fsms_stand d ≡ (list_all (is_fsm d) d.fsms && (have_clock d && list_all (λ (x : Domain). some_left d x.reset) d.design.domains))
others_stand d e = rw e refl

pub stands : (d : Description) (b : Bool) → EachLower target_below d.design.targets → EachLower fsm_below d.fsm_stmts → b ≡ fsms_stand d → b ≡ true → FsmsStand d
stands d b low lower is holds =
    let n = length d.design.exprs in
    let m = length d.design.targets in
    let p = and_parts (list_all (fsm_stmt_stands n m) d.fsm_stmts) (list_all (is_fsm d) d.fsms && (have_clock d && list_all (λ (a : Domain). some_left d a.reset) d.design.domains)) (sym is ∙ holds) in
    let q = and_parts (list_all (is_fsm d) d.fsms) (have_clock d && list_all (λ (a : Domain). some_left d a.reset) d.design.domains) p.1 in
    let r = and_parts (have_clock d) (list_all (λ (a : Domain). some_left d a.reset) d.design.domains) q.1 in
    let stmts = all_stand n m d.fsm_stmts p.0 in
    let fsms : EachOf (IsFsm d) d.fsms = each_of (IsFsm d) (is_fsm d) d.fsms (is_fsm-is d) q.0 in
    let left = λ (x : ℕ) (e : is_among x (resets d.design.domains) ≡ true). and_parts (list_all (passes x) d.design.targets) (not (list_any (has_signal x) d.fsms)) (left_at d d.design.domains x r.1 e) in
    record {
      keep = record { lower = lower; stmts = stmts; fsms = fsms; clock = r.0 };
      driven = λ x e. fsms_none d x d.fsms fsms (stmts_none d.design d.fsm_stmts x lower stmts (targets_none d.design x low (left x e).0));
      apart = λ x e. signals_none x d.fsms (is_not (list_any (has_signal x) d.fsms) (left x e).1);
    }
