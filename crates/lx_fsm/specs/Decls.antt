-- The FSM that a declaration means, over a design.
use Rattle.std.specs.Prelude.{ℕ, List, [], ◌∷◌, map}
use Rattle.lx_arena.specs.Folds.{fold_at}
use Rattle.lx_circuit.specs.Terms.{Term}
use Rattle.lx_circuit.specs.Statements.{Target}
use Rattle.lx_fhdl.specs.Designs as design
use Rattle.lx_fhdl.specs.declared.design.Design.{Design}
use Rattle.lx_description.specs.Below.{FsmStmtId}
use Rattle.lx_description.specs.declared.fsms.Asked.{Asked}
use Rattle.lx_description.specs.declared.fsms.FsmArm.{FsmArm}
use Rattle.lx_description.specs.declared.fsms.FsmBranch.{FsmBranch}
use Rattle.lx_description.specs.declared.fsms.FsmDecl.{FsmDecl}
use Rattle.lx_description.specs.declared.fsms.FsmStmt.{FsmStmt}
use Rattle.lx_description.specs.declared.fsms.FsmStmt.TheVariants as fsm
use Rattle.lx_description.specs.declared.fsms.StateDecl.{StateDecl}
use Rattle.lx_fsm.specs.Actions.{Assign, NextState, NextValue, Act, Do, If, Case, Branches, NoBranch, Branch, Arms, NoArm, Arm, Acts, Done, Then}
use Rattle.lx_fsm.specs.Machine.{State, Ongoing, Fsm}

abbrev pub acts_at : (ℕ → Act) → List FsmStmtId → Acts
acts_at a [] = Done
acts_at a (i ∷ is) = Then (a i.place) (acts_at a is)

abbrev pub branches_at : (ℕ → Term) → (ℕ → Act) → List FsmBranch → Branches
branches_at t a [] = NoBranch
branches_at t a (b ∷ bs) = Branch (t b.cond.place) (acts_at a b.body) (branches_at t a bs)

abbrev pub arms_at : (ℕ → Act) → List FsmArm → Arms
arms_at a [] = NoArm
arms_at a (x ∷ xs) = Arm x.key (acts_at a x.body) (arms_at a xs)

-- the tree of a statement, from the trees of expressions, of targets, and of the statements inside
abbrev pub node_act : (ℕ → Term) → (ℕ → Target) → (ℕ → Act) → FsmStmt → Act
node_act t g a (fsm.Assign target value line) = Do (Assign (g target.place) (t value.place))
node_act t g a (fsm.If branches rest line) = If (branches_at t a branches) (acts_at a rest)
node_act t g a (fsm.Case on arms rest line) = Case (t on.place) (arms_at a arms) (acts_at a rest)
node_act t g a (fsm.NextState name line) = Do (NextState name)
node_act t g a (fsm.NextValue target value line) = Do (NextValue (g target.place) (t value.place))

-- what stands where no node is: it does nothing
abbrev pub no_act : Act
no_act = If NoBranch Done

-- the statement at a place
unfoldable pub act_at : (ℕ → Term) → (ℕ → Target) → List FsmStmt → ℕ → Act
act_at t g xs k = fold_at no_act (node_act t g) xs k

abbrev pub act : Design → List FsmStmt → ℕ → Act
act d xs k = act_at (design.term d) (design.target d) xs k

abbrev pub state_of : Design → List FsmStmt → StateDecl → State
state_of d xs s = record { name = s.name; acts = acts_at (act d xs) s.body }

abbrev pub names_of : List StateDecl → List (List ℕ)
names_of ss = map (λ (s : StateDecl). s.name) ss

abbrev pub asked_names : List Asked → List (List ℕ)
asked_names as_ = map (λ (a : Asked). a.name) as_

abbrev pub ongoing_of : Asked → Ongoing
ongoing_of a = record { name = a.name; signal = a.signal.0 }

-- The FSM: what the declaration means.
abbrev pub fsm_of : Design → List FsmStmt → FsmDecl → Fsm
fsm_of d xs f = record {
  state = f.state.0;
  start = f.start;
  states = map (state_of d xs) f.states;
  ongoing = map ongoing_of f.asked;
}
