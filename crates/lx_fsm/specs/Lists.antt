-- The two lists of statements that an FSM stands for: one of comb, and one of its clock domain.
use Rattle.std.specs.Prelude.{ℕ, pos, Bool, true, ◌&&◌, List, [], ◌∷◌, ◌+◌, if◌then◌else◌}
use Rattle.lx_num.specs.declared.Shape.{Shape}
use Rattle.lx_tables.specs.declared.operators.Op.TheVariants as op
use Rattle.lx_circuit.specs.Terms.{Term, Constant, Signal, Binary}
use Rattle.lx_circuit.specs.Shapes.{Shapes}
use Rattle.lx_circuit.specs.Statements as tree
use Rattle.lx_fhdl.specs.Lowered.{is_done}
use Rattle.lx_lowering.specs.Flat.{append, one, some_when}
use Rattle.lx_fsm.specs.Actions.{Action, Assign, NextState, NextValue, Act, Do, If, Case, Branches, NoBranch, Branch, Arms, NoArm, Arm, Acts, Done, Then}
use Rattle.lx_fsm.specs.Machine.{State, Ongoing, Fsm, number_among, state_names}

-- ---- the statements of a state that are kept

-- nothing stands in these branches, in these arms
abbrev pub are_empty : tree.Branches → Bool
are_empty tree.NoBranch = true
are_empty (tree.Branch c b more) = is_done b && are_empty more

abbrev pub arms_empty : tree.Arms → Bool
arms_empty tree.NoArm = true
arms_empty (tree.Arm key b more) = is_done b && arms_empty more

-- an If or a Case where something stands in it
abbrev pub some_if : tree.Branches → tree.Block → tree.Block
some_if bs rest = if are_empty bs && is_done rest then tree.Done else one (tree.If bs rest)

abbrev pub some_case : Term → tree.Arms → tree.Block → tree.Block
some_case on arms rest = if arms_empty arms && is_done rest then tree.Done else one (tree.Case on arms rest)

-- what is kept of statements, where f says what each action becomes
abbrev mutual
  pub kept : (Action → tree.Block) → Act → tree.Block
  kept f (Do a) = f a
  kept f (If bs rest) = some_if (kept_branches f bs) (all_kept f rest)
  kept f (Case on arms rest) = some_case on (kept_arms f arms) (all_kept f rest)

  pub kept_branches : (Action → tree.Block) → Branches → tree.Branches
  kept_branches f NoBranch = tree.NoBranch
  kept_branches f (Branch c b more) = tree.Branch c (all_kept f b) (kept_branches f more)

  pub kept_arms : (Action → tree.Block) → Arms → tree.Arms
  kept_arms f NoArm = tree.NoArm
  kept_arms f (Arm key b more) = tree.Arm key (all_kept f b) (kept_arms f more)

  pub all_kept : (Action → tree.Block) → Acts → tree.Block
  all_kept f Done = tree.Done
  all_kept f (Then x xs) = append (kept f x) (all_kept f xs)

-- ---- numbers of states

-- the signal `state`, its shape, and the names of the states that its numbers stand for
pub record Register : Type 0 where
  pub signal : ℕ
  pub shape : Shape
  pub names : List (List ℕ)

abbrev pub register_of : Shapes → Fsm → Register
register_of s f = record { signal = f.state; shape = s f.state; names = state_names f }

-- the number k, as the signal has it, and `state == k`
abbrev pub numeral : Register → ℕ → Term
numeral r k = Constant (pos k) r.shape

abbrev pub is_in : Register → ℕ → Term
is_in r k = Binary op.Eq (Signal r.signal) (numeral r k)

-- ---- the two lists

-- in comb the assignments
abbrev pub in_comb : Action → tree.Block
in_comb (Assign t e) = one (tree.Assign t e)
in_comb _ = tree.Done

-- in the clock domain each NextState assigns `state`, and each NextValue its target
abbrev pub in_sync : Register → Action → tree.Block
in_sync r (NextState name) = one (tree.Assign (tree.Whole r.signal) (numeral r (number_among r.names name)))
in_sync r (NextValue t e) = one (tree.Assign t e)
in_sync r _ = tree.Done

-- under `state == k` what is kept of each state, from number k on
abbrev pub by_state : Register → (Action → tree.Block) → ℕ → List State → tree.Block
by_state r f k [] = tree.Done
by_state r f k (x ∷ xs) = append (some_when (is_in r k) (all_kept f x.acts)) (by_state r f (k + 1) xs)

-- `ongoing` of a state is `state == k`
abbrev pub ongoing_list : Register → List Ongoing → tree.Block
ongoing_list r [] = tree.Done
ongoing_list r (o ∷ os) = tree.Then (tree.Assign (tree.Whole o.signal) (is_in r (number_among r.names o.name))) (ongoing_list r os)

-- The list in comb, and the one of the clock domain.
abbrev pub comb_list : Shapes → Fsm → tree.Block
comb_list s f = append (by_state (register_of s f) in_comb 0 f.states) (ongoing_list (register_of s f) f.ongoing)

abbrev pub sync_list : Shapes → Fsm → tree.Block
sync_list s f = by_state (register_of s f) (in_sync (register_of s f)) 0 f.states
