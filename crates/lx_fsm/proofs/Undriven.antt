-- A signal that no kept statement assigns is assigned by none of the actions.
use Rattle.std.proofs.Common.{◌≡◌, ℕ, zero, suc, ◌+◌, Bool, true, false, ◌&&◌, ◌||◌, List, [], ◌∷◌, nat_eq, refl, sym, ◌∙◌, eq-eqb}
use Rattle.std.specs.Prelude.{slice_index_or}
use Rattle.std.proofs.lemmas.Bool.{and_parts, or_from, or_parts}
use Rattle.lx_circuit.specs.Statements as tree
use Rattle.lx_circuit.specs.Statements.{drives_arm, drives_block, drives_branch, is_target}
use Rattle.lx_circuit.specs.Terms.{Term}
use Rattle.lx_circuit.proofs.Cases.{by_test}
use Rattle.lx_fhdl.specs.Keeping.{EachOf}
use Rattle.lx_fhdl.specs.Lowered.{is_done}
use Rattle.lx_lowering.specs.Flat.{append, some_when}
use Rattle.lx_lowering.proofs.Appends.{drives_append}
use Rattle.lx_fsm.specs.Actions.{Action, Assign, NextState, NextValue, Act, Do, If, Case, Branches, NoBranch, Branch, Arms, NoArm, Arm, Acts, Done, Then}
use Rattle.lx_fsm.specs.Lists.{Register, all_kept, are_empty, arms_empty, by_state, in_sync, is_in, kept, kept_arms, kept_branches, some_case, some_if}
use Rattle.lx_fsm.specs.Machine.{Fsm, State, last_state, no_state}
use Rattle.lx_fsm.specs.Runs.{next_values}
use Rattle.lx_fsm.proofs.Held.{AllEach, Each, EachArm, EachBranch}
use Rattle.lx_fsm.proofs.InState.{IsOther}

done_drives : (x : ℕ) (b : tree.Block) → is_done b ≡ true → drives_block x b ≡ false
done_drives x tree.Done e = refl
done_drives x (tree.Then s ss) e = absurd (cc)

empty_drives : (x : ℕ) (bs : tree.Branches) → are_empty bs ≡ true → drives_branch x bs ≡ false
empty_drives x tree.NoBranch e = refl
empty_drives x (tree.Branch c b more) e =
    let p = and_parts (is_done b) (are_empty more) e in
    or_from (drives_block x b) (drives_branch x more) (done_drives x b p.0) (empty_drives x more p.1)

empty_arms_drive : (x : ℕ) (arms : tree.Arms) → arms_empty arms ≡ true → drives_arm x arms ≡ false
empty_arms_drive x tree.NoArm e = refl
empty_arms_drive x (tree.Arm key b more) e =
    let p = and_parts (is_done b) (arms_empty more) e in
    or_from (drives_block x b) (drives_arm x more) (done_drives x b p.0) (empty_arms_drive x more p.1)

if_parts : (x : ℕ) (bs : tree.Branches) (rest : tree.Block) → drives_block x (some_if bs rest) ≡ false → (drives_branch x bs ≡ false) × (drives_block x rest ≡ false)
if_parts x bs rest e =
    by_test (are_empty bs && is_done rest)
    (λ t. let p = and_parts (are_empty bs) (is_done rest) t in (empty_drives x bs p.0, done_drives x rest p.1))
    (λ t. let h : ((drives_branch x bs || drives_block x rest) || false) ≡ false = rw t at e in
    or_parts (drives_branch x bs) (drives_block x rest) (or_parts (drives_branch x bs || drives_block x rest) false h).0)

case_parts : (x : ℕ) (on : Term) (arms : tree.Arms) (rest : tree.Block) → drives_block x (some_case on arms rest) ≡ false → (drives_arm x arms ≡ false) × (drives_block x rest ≡ false)
case_parts x on arms rest e =
    by_test (arms_empty arms && is_done rest)
    (λ t. let p = and_parts (arms_empty arms) (is_done rest) t in (empty_arms_drive x arms p.0, done_drives x rest p.1))
    (λ t. let h : ((drives_arm x arms || drives_block x rest) || false) ≡ false = rw t at e in
    or_parts (drives_arm x arms) (drives_block x rest) (or_parts (drives_arm x arms || drives_block x rest) false h).0)

-- what an action becomes doesn't assign the signal
abbrev pub Leaves : ℕ → (Action → tree.Block) → Action → Type 0
Leaves x f a = drives_block x (f a) ≡ false

both_leave : (x : ℕ) (a b : tree.Block) → drives_block x (append a b) ≡ false → (drives_block x a ≡ false) × (drives_block x b ≡ false)
both_leave x a b e = or_parts (drives_block x a) (drives_block x b) (sym (drives_append x a b) ∙ e)

mutual
  act_leaves : (x : ℕ) (f : Action → tree.Block) (a : Act) → drives_block x (kept f a) ≡ false → Each (Leaves x f) a
  act_leaves x f (Do a) e = e
  act_leaves x f (If bs rest) e =
      let p = if_parts x (kept_branches f bs) (all_kept f rest) e in
      (branches_leave x f bs p.0, acts_leave x f rest p.1)
  act_leaves x f (Case on arms rest) e =
      let p = case_parts x on (kept_arms f arms) (all_kept f rest) e in
      (arms_leave x f arms p.0, acts_leave x f rest p.1)

  branches_leave : (x : ℕ) (f : Action → tree.Block) (bs : Branches) → drives_branch x (kept_branches f bs) ≡ false → EachBranch (Leaves x f) bs
  branches_leave x f NoBranch e = tt
  branches_leave x f (Branch c b more) e =
      let p = or_parts (drives_block x (all_kept f b)) (drives_branch x (kept_branches f more)) e in
      (acts_leave x f b p.0, branches_leave x f more p.1)

  arms_leave : (x : ℕ) (f : Action → tree.Block) (arms : Arms) → drives_arm x (kept_arms f arms) ≡ false → EachArm (Leaves x f) arms
  arms_leave x f NoArm e = tt
  arms_leave x f (Arm key b more) e =
      let p = or_parts (drives_block x (all_kept f b)) (drives_arm x (kept_arms f more)) e in
      (acts_leave x f b p.0, arms_leave x f more p.1)

  pub acts_leave : (x : ℕ) (f : Action → tree.Block) (acts : Acts) → drives_block x (all_kept f acts) ≡ false → AllEach (Leaves x f) acts
  acts_leave x f Done e = tt
  acts_leave x f (Then a as_) e =
      let p = both_leave x (kept f a) (all_kept f as_) e in
      (act_leaves x f a p.0, acts_leave x f as_ p.1)

-- ---- NextValues

action_other : (x : ℕ) (a : Action) → Leaves x next_values a → IsOther x a
action_other x (Assign t e) h = tt
action_other x (NextState name) h = tt
action_other x (NextValue t e) h = (or_parts (is_target x t) false h).0

pub all_other : (x : ℕ) (as_ : List Action) → EachOf (Leaves x next_values) as_ → EachOf (IsOther x) as_
all_other x [] h = tt
all_other x (a ∷ as_) h = (action_other x a h.0, all_other x as_ h.1)

-- ---- where nothing assigns `state` there is no NextState

-- a condition adds and takes nothing
when_drives : (x : ℕ) (c : Term) (b : tree.Block) → drives_block x (some_when c b) ≡ false → drives_block x b ≡ false
when_drives x c tree.Done e = refl
when_drives x c (tree.Then s ss) e =
    let b : Bool = drives_block x (tree.Then s ss) in
    let p = or_parts ((b || false) || false) false e in
    let q = or_parts (b || false) false p.0 in
    (or_parts b false q.0).0

pub state_leaves : (x : ℕ) (r : Register) (f : Action → tree.Block) (k m : ℕ) (ss : List State) → drives_block x (by_state r f k ss) ≡ false
    → drives_block x (all_kept f (slice_index_or ss m no_state).acts) ≡ false
state_leaves x r f k m [] e = refl
state_leaves x r f k zero (s ∷ ss) e = when_drives x (is_in r k) (all_kept f s.acts) (both_leave x (some_when (is_in r k) (all_kept f s.acts)) (by_state r f (k + 1) ss) e).0
state_leaves x r f k (suc m) (s ∷ ss) e = state_leaves x r f (k + 1) m ss (both_leave x (some_when (is_in r k) (all_kept f s.acts)) (by_state r f (k + 1) ss) e).1

pub no_next : (f : Fsm) (r : Register) (k : ℕ) (as_ : List Action) → EachOf (Leaves r.signal (in_sync r)) as_ → last_state f k as_ ≡ k
no_next f r k [] h = refl
no_next f r k (Assign t e ∷ as_) h = no_next f r k as_ h.1
no_next f r k (NextState name ∷ as_) h = let e : (nat_eq r.signal r.signal || false) ≡ false = h.0 in let q = (or_parts (nat_eq r.signal r.signal) false e).0 in let t = eq-eqb r.signal r.signal refl in absurd (cc)
no_next f r k (NextValue t e ∷ as_) h = no_next f r k as_ h.1
