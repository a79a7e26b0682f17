-- What is kept of a state's statements is no deeper than what they assign, and drives no other signal.
use Rattle.std.proofs.Common.{◌≡◌, ℕ, zero, suc, ◌+◌, ◌≤◌, max, Bool, true, false, ◌&&◌, List, [], ◌∷◌, Option, Some, None, cond, nat_eq, refl, ap, ◌∙◌, arith}
use Rattle.std.specs.Prelude.{slice_get}
use Rattle.std.proofs.Math.Path.{fun_ext}
use Rattle.std.proofs.lemmas.Bool.{or_from, or_parts}
use Rattle.lx_arena.specs.Folds.{fold_at, fold_within, level}
use Rattle.lx_circuit.specs.Statements as tree
use Rattle.lx_circuit.specs.Statements.{drives, drives_arm, drives_block, drives_branch}
use Rattle.lx_circuit.specs.Terms.{Term}
use Rattle.lx_fhdl.specs.Designs as design
use Rattle.lx_fhdl.specs.Designs.{term}
use Rattle.lx_fhdl.specs.Keeping.{EachOf, arms_depth, block_depth, branches_depth, stmt_depth}
use Rattle.lx_fhdl.specs.Lowered.{is_done}
use Rattle.lx_fhdl.specs.Stmts.{no_stmt}
use Rattle.lx_fhdl.specs.declared.design.Design.{Design}
use Rattle.lx_description.specs.Below.{FsmStmtId}
use Rattle.lx_description.specs.Fsms as fsms
use Rattle.lx_description.specs.Fsms.{assigned_at, node_assigned}
use Rattle.lx_description.specs.declared.fsms.FsmArm.{FsmArm}
use Rattle.lx_description.specs.declared.fsms.FsmBranch.{FsmBranch}
use Rattle.lx_description.specs.declared.fsms.FsmStmt.{FsmStmt}
use Rattle.lx_description.specs.declared.fsms.FsmStmt.TheVariants as fsm
use Rattle.lx_lowering.specs.Flat.{append, one, some_when}
use Rattle.lx_lowering.proofs.Appends.{depth_append, drives_append}
use Rattle.lx_fsm.specs.Actions.{Action, Assign, NextState, NextValue, Act, Do, If, Case, Branches, NoBranch, Branch, Arms, NoArm, Arm, Acts, Done, Then}
use Rattle.lx_fsm.specs.Decls.{act, act_at, acts_at, arms_at, branches_at, no_act, node_act}
use Rattle.lx_fsm.specs.Lists.{Register, all_kept, are_empty, arms_empty, by_state, in_comb, in_sync, is_in, kept, kept_arms, kept_branches, ongoing_list, some_case, some_if}
use Rattle.lx_fsm.specs.Machine.{Ongoing, State}

-- ---- what statements assign, as trees

abbrev pub plain_action : Action → tree.Stmt
plain_action (Assign t e) = tree.Assign t e
plain_action (NextState name) = no_stmt
plain_action (NextValue t e) = tree.Assign t e

abbrev mutual
  pub plain : Act → tree.Stmt
  plain (Do a) = plain_action a
  plain (If bs rest) = tree.If (plain_branches bs) (all_plain rest)
  plain (Case on arms rest) = tree.Case on (plain_arms arms) (all_plain rest)

  pub plain_branches : Branches → tree.Branches
  plain_branches NoBranch = tree.NoBranch
  plain_branches (Branch c b more) = tree.Branch c (all_plain b) (plain_branches more)

  pub plain_arms : Arms → tree.Arms
  plain_arms NoArm = tree.NoArm
  plain_arms (Arm key b more) = tree.Arm key (all_plain b) (plain_arms more)

  pub all_plain : Acts → tree.Block
  all_plain Done = tree.Done
  all_plain (Then x xs) = tree.Then (plain x) (all_plain xs)

acts_plain : (a : ℕ → Act) (ids : List FsmStmtId) → fsms.block_at (λ k. plain (a k)) ids ≡ all_plain (acts_at a ids)
acts_plain a [] = refl
acts_plain a (i ∷ is) = ap (tree.Then (plain (a i.place))) (acts_plain a is)

branches_plain : (t : ℕ → Term) (a : ℕ → Act) (bs : List FsmBranch) → fsms.branches_at t (λ k. plain (a k)) bs ≡ plain_branches (branches_at t a bs)
branches_plain t a [] = refl
branches_plain t a (b ∷ bs) =
    ap (λ (c : tree.Block). tree.Branch (t b.cond.place) c (fsms.branches_at t (λ k. plain (a k)) bs)) (acts_plain a b.body)
    ∙ ap (tree.Branch (t b.cond.place) (all_plain (acts_at a b.body))) (branches_plain t a bs)

arms_plain : (a : ℕ → Act) (arms : List FsmArm) → fsms.arms_at (λ k. plain (a k)) arms ≡ plain_arms (arms_at a arms)
arms_plain a [] = refl
arms_plain a (x ∷ xs) =
    ap (λ (c : tree.Block). tree.Arm x.key c (fsms.arms_at (λ k. plain (a k)) xs)) (acts_plain a x.body)
    ∙ ap (tree.Arm x.key (all_plain (acts_at a x.body))) (arms_plain a xs)

node_plain : (t : ℕ → Term) (g : ℕ → tree.Target) (a : ℕ → Act) (x : FsmStmt) → node_assigned t g (λ k. plain (a k)) x ≡ plain (node_act t g a x)
node_plain t g a (fsm.Assign target value line) = refl
node_plain t g a (fsm.If branches rest line) =
    ap (λ (bs : tree.Branches). tree.If bs (fsms.block_at (λ k. plain (a k)) rest)) (branches_plain t a branches) ∙ ap (tree.If (plain_branches (branches_at t a branches))) (acts_plain a rest)
node_plain t g a (fsm.Case on arms rest line) =
    ap (λ (bs : tree.Arms). tree.Case (t on.place) bs (fsms.block_at (λ k. plain (a k)) rest)) (arms_plain a arms) ∙ ap (tree.Case (t on.place) (plain_arms (arms_at a arms))) (acts_plain a rest)
node_plain t g a (fsm.NextState name line) = refl
node_plain t g a (fsm.NextValue target value line) = refl

level_plain : (t : ℕ → Term) (g : ℕ → tree.Target) (a : ℕ → Act) (o : Option FsmStmt) → level no_stmt (node_assigned t g) (λ k. plain (a k)) o ≡ plain (level no_act (node_act t g) a o)
level_plain t g a None = refl
level_plain t g a (Some x) = node_plain t g a x

within_plain : (t : ℕ → Term) (g : ℕ → tree.Target) (xs : List FsmStmt) (n k : ℕ) → fold_within no_stmt (node_assigned t g) xs n k ≡ plain (fold_within no_act (node_act t g) xs n k)
within_plain t g xs zero k = refl
within_plain t g xs (suc n) k =
    ap (λ (f : ℕ → tree.Stmt). level no_stmt (node_assigned t g) f (slice_get xs k)) (fun_ext (within_plain t g xs n))
    ∙ level_plain t g (fold_within no_act (node_act t g) xs n) (slice_get xs k)

assigned_plain : (t : ℕ → Term) (g : ℕ → tree.Target) (xs : List FsmStmt) (k : ℕ) → assigned_at t g xs k ≡ plain (act_at t g xs k)
unfolding assigned_at act_at fold_at
assigned_plain t g xs k = within_plain t g xs (suc k) k

pub body_plain : (d : Design) (xs : List FsmStmt) (ids : List FsmStmtId) → fsms.block_at (assigned_at (term d) (design.target d) xs) ids ≡ all_plain (acts_at (act d xs) ids)
body_plain d xs ids =
    ap (λ (f : ℕ → tree.Stmt). fsms.block_at f ids) (fun_ext (assigned_plain (term d) (design.target d) xs)) ∙ acts_plain (act d xs) ids

-- ---- depth

abbrev pub IsShallow : (Action → tree.Block) → Type 0
IsShallow f = (a : Action) → block_depth (f a) ≤ stmt_depth (plain_action a)

cond_depth : (t : Bool) (b : tree.Block) (n : ℕ) → block_depth b ≤ n → block_depth (cond t tree.Done b) ≤ n
cond_depth true b n h = omega arith
cond_depth false b n h = h

if_depth : (bs : tree.Branches) (rest : tree.Block) → block_depth (some_if bs rest) ≤ 1 + max (branches_depth bs) (block_depth rest)
if_depth bs rest = cond_depth (are_empty bs && is_done rest) (one (tree.If bs rest)) (1 + max (branches_depth bs) (block_depth rest)) (omega arith)

case_depth : (on : Term) (arms : tree.Arms) (rest : tree.Block) → block_depth (some_case on arms rest) ≤ 1 + max (arms_depth arms) (block_depth rest)
case_depth on arms rest = cond_depth (arms_empty arms && is_done rest) (one (tree.Case on arms rest)) (1 + max (arms_depth arms) (block_depth rest)) (omega arith)

mutual
  act_depth : (f : Action → tree.Block) → IsShallow f → (a : Act) → block_depth (kept f a) ≤ stmt_depth (plain a)
  act_depth f h (Do a) = h a
  act_depth f h (If bs rest) = omega (arith, if_depth (kept_branches f bs) (all_kept f rest), branch_depth f h bs, all_depth f h rest)
  act_depth f h (Case on arms rest) = omega (arith, case_depth on (kept_arms f arms) (all_kept f rest), arm_depth f h arms, all_depth f h rest)

  branch_depth : (f : Action → tree.Block) → IsShallow f → (bs : Branches) → branches_depth (kept_branches f bs) ≤ branches_depth (plain_branches bs)
  branch_depth f h NoBranch = omega arith
  branch_depth f h (Branch c b more) = omega (arith, all_depth f h b, branch_depth f h more)

  arm_depth : (f : Action → tree.Block) → IsShallow f → (arms : Arms) → arms_depth (kept_arms f arms) ≤ arms_depth (plain_arms arms)
  arm_depth f h NoArm = omega arith
  arm_depth f h (Arm key b more) = omega (arith, all_depth f h b, arm_depth f h more)

  all_depth : (f : Action → tree.Block) → IsShallow f → (xs : Acts) → block_depth (all_kept f xs) ≤ block_depth (all_plain xs)
  all_depth f h Done = omega arith
  all_depth f h (Then x xs) = omega (arith, depth_append (kept f x) (all_kept f xs), act_depth f h x, all_depth f h xs)

pub comb_shallow : IsShallow in_comb
comb_shallow (Assign t e) = omega arith
comb_shallow (NextState name) = omega arith
comb_shallow (NextValue t e) = omega arith

pub sync_shallow : (r : Register) → IsShallow (in_sync r)
sync_shallow r (Assign t e) = omega arith
sync_shallow r (NextState name) = omega arith
sync_shallow r (NextValue t e) = omega arith

when_depth : (c : Term) (b : tree.Block) → block_depth (some_when c b) ≤ 1 + block_depth b
when_depth c tree.Done = omega arith
when_depth c (tree.Then s ss) = omega arith

-- the statements of each state assign in so many levels
pub states_depth : (r : Register) (f : Action → tree.Block) → IsShallow f → (n k : ℕ) (ss : List State) → EachOf (λ (s : State). block_depth (all_plain s.acts) ≤ n) ss → block_depth (by_state r f k ss) ≤ n + 1
states_depth r f h n k [] e = omega arith
states_depth r f h n k (s ∷ ss) e =
    omega (arith, depth_append (some_when (is_in r k) (all_kept f s.acts)) (by_state r f (k + 1) ss), when_depth (is_in r k) (all_kept f s.acts), all_depth f h s.acts, e.0, states_depth r f h n (k + 1) ss e.1)

pub ongoing_depth : (r : Register) (os : List Ongoing) → block_depth (ongoing_list r os) ≤ 1
ongoing_depth r [] = omega arith
ongoing_depth r (o ∷ os) = omega (arith, ongoing_depth r os)

-- ---- signals that are driven

abbrev pub IsQuiet : ℕ → (Action → tree.Block) → Type 0
IsQuiet x f = (a : Action) → drives x (plain_action a) ≡ false → drives_block x (f a) ≡ false

cond_drives : (x : ℕ) (t : Bool) (b : tree.Block) → drives_block x b ≡ false → drives_block x (cond t tree.Done b) ≡ false
cond_drives x true b h = refl
cond_drives x false b h = h

one_drives : (x : ℕ) (s : tree.Stmt) → drives x s ≡ false → drives_block x (one s) ≡ false
one_drives x s h = or_from (drives x s) false h refl

pub both_drive : (x : ℕ) (a b : tree.Block) → drives_block x a ≡ false → drives_block x b ≡ false → drives_block x (append a b) ≡ false
both_drive x a b h g = drives_append x a b ∙ or_from (drives_block x a) (drives_block x b) h g

mutual
  act_drives : (x : ℕ) (f : Action → tree.Block) → IsQuiet x f → (a : Act) → drives x (plain a) ≡ false → drives_block x (kept f a) ≡ false
  act_drives x f h (Do a) e = h a e
  act_drives x f h (If bs rest) e =
      let p = or_parts (drives_branch x (plain_branches bs)) (drives_block x (all_plain rest)) e in
      cond_drives x (are_empty (kept_branches f bs) && is_done (all_kept f rest)) (one (tree.If (kept_branches f bs) (all_kept f rest)))
      (one_drives x (tree.If (kept_branches f bs) (all_kept f rest)) (or_from (drives_branch x (kept_branches f bs)) (drives_block x (all_kept f rest)) (branch_drives x f h bs p.0) (all_drives x f h rest p.1)))
  act_drives x f h (Case on arms rest) e =
      let p = or_parts (drives_arm x (plain_arms arms)) (drives_block x (all_plain rest)) e in
      cond_drives x (arms_empty (kept_arms f arms) && is_done (all_kept f rest)) (one (tree.Case on (kept_arms f arms) (all_kept f rest)))
      (one_drives x (tree.Case on (kept_arms f arms) (all_kept f rest)) (or_from (drives_arm x (kept_arms f arms)) (drives_block x (all_kept f rest)) (arm_drives x f h arms p.0) (all_drives x f h rest p.1)))

  branch_drives : (x : ℕ) (f : Action → tree.Block) → IsQuiet x f → (bs : Branches) → drives_branch x (plain_branches bs) ≡ false → drives_branch x (kept_branches f bs) ≡ false
  branch_drives x f h NoBranch e = refl
  branch_drives x f h (Branch c b more) e =
      let p = or_parts (drives_block x (all_plain b)) (drives_branch x (plain_branches more)) e in
      or_from (drives_block x (all_kept f b)) (drives_branch x (kept_branches f more)) (all_drives x f h b p.0) (branch_drives x f h more p.1)

  arm_drives : (x : ℕ) (f : Action → tree.Block) → IsQuiet x f → (arms : Arms) → drives_arm x (plain_arms arms) ≡ false → drives_arm x (kept_arms f arms) ≡ false
  arm_drives x f h NoArm e = refl
  arm_drives x f h (Arm key b more) e =
      let p = or_parts (drives_block x (all_plain b)) (drives_arm x (plain_arms more)) e in
      or_from (drives_block x (all_kept f b)) (drives_arm x (kept_arms f more)) (all_drives x f h b p.0) (arm_drives x f h more p.1)

  all_drives : (x : ℕ) (f : Action → tree.Block) → IsQuiet x f → (xs : Acts) → drives_block x (all_plain xs) ≡ false → drives_block x (all_kept f xs) ≡ false
  all_drives x f h Done e = refl
  all_drives x f h (Then y ys) e =
      let p = or_parts (drives x (plain y)) (drives_block x (all_plain ys)) e in
      both_drive x (kept f y) (all_kept f ys) (act_drives x f h y p.0) (all_drives x f h ys p.1)

pub comb_quiet : (x : ℕ) → IsQuiet x in_comb
comb_quiet x (Assign t e) h = one_drives x (tree.Assign t e) h
comb_quiet x (NextState name) h = refl
comb_quiet x (NextValue t e) h = refl

pub sync_quiet : (x : ℕ) (r : Register) → nat_eq r.signal x ≡ false → IsQuiet x (in_sync r)
sync_quiet x r e (Assign t v) h = refl
sync_quiet x r e (NextState name) h = or_from (nat_eq r.signal x) false e refl
sync_quiet x r e (NextValue t v) h = one_drives x (tree.Assign t v) h

when_drives : (x : ℕ) (c : Term) (b : tree.Block) → drives_block x b ≡ false → drives_block x (some_when c b) ≡ false
when_drives x c tree.Done h = refl
when_drives x c (tree.Then s ss) h = one_drives x (tree.If (tree.Branch c (tree.Then s ss) tree.NoBranch) tree.Done) (or_from (drives_branch x (tree.Branch c (tree.Then s ss) tree.NoBranch)) false (or_from (drives_block x (tree.Then s ss)) false h refl) refl)

pub states_drive : (x : ℕ) (r : Register) (f : Action → tree.Block) → IsQuiet x f → (k : ℕ) (ss : List State) → EachOf (λ (s : State). drives_block x (all_plain s.acts) ≡ false) ss → drives_block x (by_state r f k ss) ≡ false
states_drive x r f h k [] e = refl
states_drive x r f h k (s ∷ ss) e =
    both_drive x (some_when (is_in r k) (all_kept f s.acts)) (by_state r f (k + 1) ss) (when_drives x (is_in r k) (all_kept f s.acts) (all_drives x f h s.acts e.0)) (states_drive x r f h (k + 1) ss e.1)

pub ongoing_drives : (x : ℕ) (r : Register) (os : List Ongoing) → EachOf (λ (o : Ongoing). nat_eq o.signal x ≡ false) os → drives_block x (ongoing_list r os) ≡ false
ongoing_drives x r [] h = refl
ongoing_drives x r (o ∷ os) h = or_from (nat_eq o.signal x) (drives_block x (ongoing_list r os)) h.0 (ongoing_drives x r os h.1)
