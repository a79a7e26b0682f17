-- Statements of FSMs whose children are lower than a place.
use Rattle.std.specs.Prelude.{ℕ, Bool, true, List, [], ◌∷◌, ◌&&◌, nat_lt}
use Rattle.lx_arena.specs.declared.Id.{Id}
use Rattle.lx_description.specs.declared.fsms.InFsmStmts.{InFsmStmts}
use Rattle.lx_description.specs.declared.fsms.FsmBranch.{FsmBranch}
use Rattle.lx_description.specs.declared.fsms.FsmArm.{FsmArm}
use Rattle.lx_description.specs.declared.fsms.FsmStmt.{FsmStmt}
use Rattle.lx_description.specs.declared.fsms.FsmStmt.TheVariants.{Assign, If, Case, NextState, NextValue}

abbrev pub FsmStmtId : Type 0
FsmStmtId = Id InFsmStmts

abbrev pub all_fsm_below : ℕ → List FsmStmtId → Bool
all_fsm_below n [] = true
all_fsm_below n (i ∷ is) = nat_lt i.place n && all_fsm_below n is

abbrev pub all_fsm_branches_below : ℕ → List FsmBranch → Bool
all_fsm_branches_below n [] = true
all_fsm_branches_below n (b ∷ bs) = all_fsm_below n b.body && all_fsm_branches_below n bs

abbrev pub all_fsm_arms_below : ℕ → List FsmArm → Bool
all_fsm_arms_below n [] = true
all_fsm_arms_below n (a ∷ as_) = all_fsm_below n a.body && all_fsm_arms_below n as_

-- the statements inside a statement
abbrev pub fsm_below : FsmStmt → ℕ → Bool
fsm_below (Assign target value line) n = true
fsm_below (If branches rest line) n = all_fsm_branches_below n branches && all_fsm_below n rest
fsm_below (Case on arms rest line) n = all_fsm_arms_below n arms && all_fsm_below n rest
fsm_below (NextState name line) n = true
fsm_below (NextValue target value line) n = true
