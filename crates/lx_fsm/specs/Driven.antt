-- What the two lists of an FSM drive, and on which lines.
use Rattle.std.specs.Prelude.{ℕ, List, [], ◌∷◌, ◌++◌, map}
use Rattle.lx_arena.specs.Folds.{fold_at}
use Rattle.lx_fhdl.specs.Designs as design
use Rattle.lx_fhdl.specs.declared.design.Design.{Design}
use Rattle.lx_description.specs.Below.{FsmStmtId}
use Rattle.lx_description.specs.declared.fsms.Asked.{Asked}
use Rattle.lx_description.specs.declared.fsms.FsmArm.{FsmArm}
use Rattle.lx_description.specs.declared.fsms.FsmBranch.{FsmBranch}
use Rattle.lx_description.specs.declared.fsms.FsmDecl.{FsmDecl}
use Rattle.lx_description.specs.declared.fsms.FsmStmt.{FsmStmt}
use Rattle.lx_description.specs.declared.fsms.FsmStmt.TheVariants as fsm
use Rattle.lx_description.specs.declared.fsms.StateDecl.{StateDecl}
use Rattle.lx_reads.specs.Drivings.{Driving, assign_drivings, driving}
use Rattle.lx_fsm.specs.declared.states.Part.{Part}
use Rattle.lx_fsm.specs.declared.states.Part.TheVariants as part

-- ---- statements of states

-- what statements drive, from what the statement at each place does
abbrev pub acts_driven : (ℕ → List Driving) → List FsmStmtId → List Driving
acts_driven f [] = []
acts_driven f (i ∷ is) = f i.place ++ acts_driven f is

abbrev pub branches_driven : (ℕ → List Driving) → List FsmBranch → List Driving
branches_driven f [] = []
branches_driven f (b ∷ bs) = acts_driven f b.body ++ branches_driven f bs

abbrev pub arms_driven : (ℕ → List Driving) → List FsmArm → List Driving
arms_driven f [] = []
arms_driven f (a ∷ arms) = acts_driven f a.body ++ arms_driven f arms

-- what stands in comb, and what stands in the clock domain
abbrev pub now_driven : Part → List Driving → List Driving
now_driven part.Comb l = l
now_driven part.Sync l = []

abbrev pub later_driven : Part → List Driving → List Driving
later_driven part.Comb l = []
later_driven part.Sync l = l

-- An assignment drives in comb; a NextValue, and a NextState `state`, in the clock domain; each on its own line.
abbrev pub node_driven : Design → (state : ℕ) → Part → (driver : ℕ) → (ℕ → List Driving) → FsmStmt → List Driving
node_driven d state p driver f (fsm.Assign t value line) = now_driven p (assign_drivings driver line (design.target d t.place))
node_driven d state p driver f (fsm.If branches rest line) = branches_driven f branches ++ acts_driven f rest
node_driven d state p driver f (fsm.Case on arms rest line) = arms_driven f arms ++ acts_driven f rest
node_driven d state p driver f (fsm.NextState name line) = later_driven p (driving driver line state ∷ [])
node_driven d state p driver f (fsm.NextValue t value line) = later_driven p (assign_drivings driver line (design.target d t.place))

-- the statement at a place, in the order of the text
unfoldable pub driven_at : Design → (state : ℕ) → Part → (driver : ℕ) → List FsmStmt → ℕ → List Driving
driven_at d state p driver xs k = fold_at [] (node_driven d state p driver) xs k

abbrev pub states_driven : (ℕ → List Driving) → List StateDecl → List Driving
states_driven f [] = []
states_driven f (s ∷ ss) = acts_driven f s.body ++ states_driven f ss

-- ---- the two lists

-- `ongoing` of each state that is asked for, on the line of the FSM
abbrev pub ongoing_driven : (driver line : ℕ) → List Asked → List Driving
ongoing_driven driver line asked = map (λ (a : Asked). driving driver line a.signal.0) asked

-- In comb the assignments state by state, and then each `ongoing`.
abbrev pub comb_driven : Design → List FsmStmt → FsmDecl → (driver : ℕ) → List Driving
comb_driven d xs f driver = states_driven (driven_at d f.state.0 part.Comb driver xs) f.states ++ ongoing_driven driver f.line f.asked

-- In the clock domain the next states and the NextValues, state by state.
abbrev pub sync_driven : Design → List FsmStmt → FsmDecl → (driver : ℕ) → List Driving
sync_driven d xs f driver = states_driven (driven_at d f.state.0 part.Sync driver xs) f.states
