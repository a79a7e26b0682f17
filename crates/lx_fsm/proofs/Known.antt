-- The names of an FSM without a fault are those of its states, and have numbers.
use Rattle.std.proofs.Common.{◌≡◌, ℕ, zero, suc, ◌+◌, ◌<◌, List, [], ◌∷◌, ◌++◌, Option, Some, None, length, refl, sym, ap, ◌∙◌, arith}
use Rattle.std.specs.Prelude.{flat_map, map, slice_index_or}
use Rattle.std.specs.Option.{unwrap_or}
use Rattle.std.specs.Str.{bytes_eq}
use Rattle.std.proofs.lemmas.Grind.{flat_map-append}
use Rattle.std.proofs.lemmas.List.{length-map}
use Rattle.lx_alloc.proofs.Judging.{no_parts}
use Rattle.lx_circuit.proofs.Cases.{by_test}
use Rattle.lx_fhdl.specs.Keeping.{EachOf}
use Rattle.lx_text.specs.declared.faults.Fault.{Fault}
use Rattle.lx_fsm.specs.Actions.{Action, Assign, NextState, NextValue, Act, Do, If, Case, Branches, NoBranch, Branch, Arms, NoArm, Arm, Acts, Done, Then, all_named, goes_to, named, named_arms, named_branches}
use Rattle.lx_fsm.specs.Machine.{Fsm, Ongoing, State, faults, faults_with, no_state, number, number_among, number_from, start, start_among, state_names, stated, told, unknown, unknown_of}
use Rattle.lx_fsm.proofs.Held.{AllEach, Each, EachArm, EachBranch}

pub number_below : (j : ℕ) (all : List (List ℕ)) (name : List ℕ) (k : ℕ) → number_from j all name ≡ Some k → k < j + length all
number_below j [] name k e = absurd (cc)
number_below j (n ∷ ns) name k e =
    by_test (bytes_eq n name)
    (λ t. let h : Some j ≡ Some k = rw t at e in let i : j ≡ k = cc in omega arith)
    (λ t. let h : number_from (j + 1) ns name ≡ Some k = rw t at e in omega (arith, number_below (j + 1) ns name k h))

told_none : (o : Option ℕ) (line : ℕ) (name : List ℕ) → told o line name ≡ [] → (k : ℕ) × (o ≡ Some k)
told_none (Some k) line name e = (k, refl)
told_none None line name e = absurd (cc)

pub known : (all : List (List ℕ)) (line : ℕ) (name : List ℕ) → unknown all line name ≡ [] → number_among all name < length all
known all line name e =
    let q = told_none (number_from 0 all name) line name e in
    omega (arith, number_below 0 all name q.0 q.1, ap (λ (o : Option ℕ). unwrap_or o 0) q.1)

-- a NextState goes to a state that there is
abbrev pub IsKnown : List (List ℕ) → Action → Type 0
IsKnown all (Assign t e) = Unit {0}
IsKnown all (NextState name) = number_among all name < length all
IsKnown all (NextValue t e) = Unit {0}

both_known : (all : List (List ℕ)) (line : ℕ) (a b : List (List ℕ)) → flat_map (unknown all line) (a ++ b) ≡ [] → (flat_map (unknown all line) a ≡ []) × (flat_map (unknown all line) b ≡ [])
both_known all line a b e = no_parts (flat_map (unknown all line) a) (flat_map (unknown all line) b) (sym (flat_map-append (unknown all line) a b) ∙ e)

action_known : (all : List (List ℕ)) (line : ℕ) (a : Action) → flat_map (unknown all line) (goes_to a) ≡ [] → IsKnown all a
action_known all line (Assign t x) e = tt
action_known all line (NextState name) e = known all line name (no_parts (unknown all line name) [] e).0
action_known all line (NextValue t x) e = tt

mutual
  act_known : (all : List (List ℕ)) (line : ℕ) (a : Act) → flat_map (unknown all line) (named a) ≡ [] → Each (IsKnown all) a
  act_known all line (Do a) e = action_known all line a e
  act_known all line (If bs rest) e =
      let p = both_known all line (named_branches bs) (all_named rest) e in
      (branches_known all line bs p.0, acts_known all line rest p.1)
  act_known all line (Case on arms rest) e =
      let p = both_known all line (named_arms arms) (all_named rest) e in
      (arms_known all line arms p.0, acts_known all line rest p.1)

  branches_known : (all : List (List ℕ)) (line : ℕ) (bs : Branches) → flat_map (unknown all line) (named_branches bs) ≡ [] → EachBranch (IsKnown all) bs
  branches_known all line NoBranch e = tt
  branches_known all line (Branch c b more) e =
      let p = both_known all line (all_named b) (named_branches more) e in
      (acts_known all line b p.0, branches_known all line more p.1)

  arms_known : (all : List (List ℕ)) (line : ℕ) (arms : Arms) → flat_map (unknown all line) (named_arms arms) ≡ [] → EachArm (IsKnown all) arms
  arms_known all line NoArm e = tt
  arms_known all line (Arm key b more) e =
      let p = both_known all line (all_named b) (named_arms more) e in
      (acts_known all line b p.0, arms_known all line more p.1)

  acts_known : (all : List (List ℕ)) (line : ℕ) (acts : Acts) → flat_map (unknown all line) (all_named acts) ≡ [] → AllEach (IsKnown all) acts
  acts_known all line Done e = tt
  acts_known all line (Then x xs) e =
      let p = both_known all line (named x) (all_named xs) e in
      (act_known all line x p.0, acts_known all line xs p.1)

-- ---- of the FSM

none_at : (g : State → List Fault) (ss : List State) (k : ℕ) → flat_map g ss ≡ [] → k < length ss → g (slice_index_or ss k no_state) ≡ []
none_at g [] k e l = absurd (omega arith)
none_at g (s ∷ ss) zero e l = (no_parts (g s) (flat_map g ss) e).0
none_at g (s ∷ ss) (suc k) e l = none_at g ss k (no_parts (g s) (flat_map g ss) e).1 (omega arith)

-- an FSM without a fault has states, and none of its names is unknown
pub record IsSound (f : Fsm) (line : ℕ) : Type 0 where
  pub some : 0 < length f.states
  pub start : unknown_of f line (stated f.start) ≡ []
  pub states : flat_map (λ (x : State). unknown_of f line (all_named x.acts)) f.states ≡ []
  pub ongoing : unknown_of f line (map (λ (o : Ongoing). o.name) f.ongoing) ≡ []

sound_with : (f : Fsm) (line : ℕ) (ss : List State) → f.states ≡ ss → faults_with f line ss ≡ [] → IsSound f line
sound_with f line [] same e = absurd (cc)
sound_with f line (s ∷ ss) same e =
    let states : List Fault = flat_map (λ (x : State). unknown_of f line (all_named x.acts)) f.states in
    let asked : List Fault = unknown_of f line (map (λ (o : Ongoing). o.name) f.ongoing) in
    let p = no_parts (unknown_of f line (stated f.start)) (states ++ asked) e in
    let q = no_parts states asked p.1 in
    record { some = omega (arith, ap length same); start = p.0; states = q.0; ongoing = q.1 }

pub sound : (f : Fsm) (line : ℕ) → faults f line ≡ [] → IsSound f line
sound f line e = sound_with f line f.states refl e

-- every NextState of a state goes to one
pub states_known : (f : Fsm) (line k : ℕ) → faults f line ≡ [] → k < length f.states → AllEach (IsKnown (state_names f)) (slice_index_or f.states k no_state).acts
states_known f line k e l =
    acts_known (state_names f) line (slice_index_or f.states k no_state).acts
    (none_at (λ (x : State). unknown_of f line (all_named x.acts)) f.states k (sound f line e).states l)

start_known : (all : List (List ℕ)) (line : ℕ) (o : Option (List ℕ)) → 0 < length all → flat_map (unknown all line) (stated o) ≡ [] → start_among all o < length all
start_known all line (Some name) l e = known all line name (no_parts (unknown all line name) [] e).0
start_known all line None l e = l

pub names_long : (f : Fsm) → length (state_names f) ≡ length f.states
names_long f = length-map f.states (λ (s : State). s.name)

-- so is the reset state
pub start_below : (f : Fsm) (line : ℕ) → faults f line ≡ [] → start f < length f.states
start_below f line e =
    let p = sound f line e in
    omega (arith, names_long f, start_known (state_names f) line f.start (omega (arith, p.some, names_long f)) p.start)

-- and those of `ongoing`
asked_known : (f : Fsm) (line : ℕ) (os : List Ongoing) → unknown_of f line (map (λ (o : Ongoing). o.name) os) ≡ [] → EachOf (λ (o : Ongoing). number f o.name < length f.states) os
asked_known f line [] e = tt
asked_known f line (o ∷ os) e =
    let p = no_parts (unknown (state_names f) line o.name) (unknown_of f line (map (λ (q : Ongoing). q.name) os)) e in
    (omega (arith, known (state_names f) line o.name p.0, names_long f), asked_known f line os p.1)

pub ongoing_known : (f : Fsm) (line : ℕ) → faults f line ≡ [] → EachOf (λ (o : Ongoing). number f o.name < length f.states) f.ongoing
ongoing_known f line e = asked_known f line f.ongoing (sound f line e).ongoing
