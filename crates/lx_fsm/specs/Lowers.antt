-- What lowering needs of a declaration, and what it gives.
use Rattle.std.specs.Prelude.{◌≡◌, ◌++◌, ℕ, List, [], Result, Ok, Err, Some, ◌<◌, flat_map, length, slice_get, IsTrue}
use Rattle.lx_text.specs.declared.faults.Fault.{Fault}
use Rattle.lx_text.specs.declared.faults.Refusal.{Refusal}
use Rattle.lx_text.specs.declared.faults.Refusal.TheVariants as refusal
use Rattle.lx_alloc.specs.Judged.{first}
use Rattle.lx_arena.specs.Lower.{EachLower}
use Rattle.lx_circuit.specs.Statements as tree
use Rattle.lx_circuit.specs.Terms.{Term}
use Rattle.lx_fhdl.specs.Below.{ExprId, StmtId, TargetId, all_arms_below, all_branches_below, all_stmts_below}
use Rattle.lx_fhdl.specs.Designs as design
use Rattle.lx_fhdl.specs.Designs.{block, shapes, term}
use Rattle.lx_fhdl.specs.Drafts.{Stays}
use Rattle.lx_fhdl.specs.Keeping.{BranchesStand, EachOf, IsAddress, IsUnsigned}
use Rattle.lx_fhdl.specs.Stmts.{arms_at, branches_at}
use Rattle.lx_fhdl.specs.declared.design.Design.{Design}
use Rattle.lx_fhdl.specs.declared.stmts.Arm.{Arm}
use Rattle.lx_fhdl.specs.declared.stmts.Branch.{Branch}
use Rattle.lx_fhdl.specs.declared.stmts.Stmt.{Stmt}
use Rattle.lx_description.specs.Below.{FsmStmtId, all_fsm_below, fsm_below}
use Rattle.lx_description.specs.Keeping.{FsmStmtStands}
use Rattle.lx_description.specs.declared.fsms.Asked.{Asked}
use Rattle.lx_description.specs.declared.fsms.FsmArm.{FsmArm}
use Rattle.lx_description.specs.declared.fsms.FsmBranch.{FsmBranch}
use Rattle.lx_description.specs.declared.fsms.FsmDecl.{FsmDecl}
use Rattle.lx_description.specs.declared.fsms.FsmStmt.{FsmStmt}
use Rattle.lx_description.specs.declared.fsms.StateDecl.{StateDecl}
use Rattle.lx_reads.specs.Drivings.{Driving, arm_drivings, branch_drivings, drivings_at, drivings_of, node_drivings}
use Rattle.lx_lowering.specs.Flat.{append, one}
use Rattle.lx_fsm.specs.Actions.{Action, named}
use Rattle.lx_fsm.specs.Decls.{act, asked_names, fsm_of, names_of}
use Rattle.lx_fsm.specs.Driven.{comb_driven, driven_at, sync_driven}
use Rattle.lx_fsm.specs.Lists.{Register, comb_list, in_comb, in_sync, is_in, numeral, sync_list}
use Rattle.lx_fsm.specs.Machine.{faults, start, unknown}
use Rattle.lx_fsm.specs.declared.lowering.FsmLists.{FsmLists}
use Rattle.lx_fsm.specs.declared.numbers.Numbers.{Numbers}
use Rattle.lx_fsm.specs.declared.states.Part.{Part}
use Rattle.lx_fsm.specs.declared.states.Part.TheVariants as part

-- ---- a declaration over a draft

-- the bodies of states are among n statements
abbrev pub HasBodies : ℕ → List StateDecl → Type 0
HasBodies n ss = EachOf (λ (s : StateDecl). IsTrue (all_fsm_below n s.body)) ss

-- its statements name what is there, `state` has a number for each state, and `ongoing` has one bit
pub record CanLower (d : Design) (xs : List FsmStmt) (f : FsmDecl) : Type 0 where
  pub stmts : EachOf (FsmStmtStands (length d.exprs) (length d.targets)) xs
  pub bodies : HasBodies (length xs) f.states
  pub state : 0 < length f.states → IsAddress d (length f.states) f.state
  pub asked : EachOf (λ (a : Asked). IsUnsigned d 1 a.signal) f.asked

-- those of these names that no state has
abbrev pub unknown_in : FsmDecl → List (List ℕ) → List Fault
unknown_in f names = flat_map (unknown (names_of f.states) f.line) names

-- those in statements, branches and arms, over a design
abbrev pub unknown_in_acts : Design → FsmDecl → List FsmStmt → List FsmStmtId → List Fault
unknown_in_acts d f xs ids = flat_map (λ (i : FsmStmtId). unknown_in f (named (act d xs i.place))) ids

abbrev pub unknown_in_branches : Design → FsmDecl → List FsmStmt → List FsmBranch → List Fault
unknown_in_branches d f xs bs = flat_map (λ (b : FsmBranch). unknown_in_acts d f xs b.body) bs

abbrev pub unknown_in_arms : Design → FsmDecl → List FsmStmt → List FsmArm → List Fault
unknown_in_arms d f xs arms = flat_map (λ (a : FsmArm). unknown_in_acts d f xs a.body) arms

-- those in the bodies of states, and all but that of the reset state
abbrev pub unknown_in_states : Design → FsmDecl → List FsmStmt → List StateDecl → List Fault
unknown_in_states d f xs ss = flat_map (λ (s : StateDecl). unknown_in_acts d f xs s.body) ss

abbrev pub unknown_later : Design → FsmDecl → List FsmStmt → List Fault
unknown_later d f xs = unknown_in_states d f xs f.states ++ unknown_in f (asked_names f.asked)

abbrev pub register : Design → FsmDecl → Register
register d f = record { signal = f.state.0; shape = shapes d f.state.0; names = names_of f.states }

-- ---- drafts that grow

-- by nodes: nothing but the arenas is another, and trees stay
pub record Grows (old new : Design) : Type 0 where
  pub only : new ≡ record old { exprs = new.exprs; targets = new.targets; stmts = new.stmts }
  pub signals : new.signals ≡ old.signals
  pub memories : new.memories ≡ old.memories
  pub stays : Stays old new
  -- what the statements that were there drive stays
  pub drivings : (driver k : ℕ) → k < length old.stmts → drivings_at new driver k ≡ drivings_at old driver k

-- an expression, and a target, that hangs at a place
pub record HasTerm (d : Design) (id : ℕ) (t : Term) : Type 0 where
  pub there : id < length d.exprs
  pub tree : term d id ≡ t

pub record HasTarget (d : Design) (id : ℕ) (t : tree.Target) : Type 0 where
  pub there : id < length d.targets
  pub tree : design.target d id ≡ t

pub record TermPut (old new : Design) (id : ℕ) (t : Term) : Type 0 where
  pub grows : Grows old new
  pub has : HasTerm new id t

pub record TargetPut (old new : Design) (id : ℕ) (t : tree.Target) : Type 0 where
  pub grows : Grows old new
  pub has : HasTarget new id t

-- the expressions of numbers below n
pub record AreAll (d : Design) (t : ℕ → Term) (n : ℕ) (ids : List ExprId) : Type 0 where
  pub long : length ids ≡ n
  pub each : (k : ℕ) (i : ExprId) → slice_get ids k ≡ Some i → HasTerm d i.place (t k)

pub record AreNumbers (d : Design) (r : Register) (n : ℕ) (numbers : Numbers) : Type 0 where
  pub numerals : AreAll d (numeral r) n numbers.numerals
  pub conds : AreAll d (is_in r) n numbers.conds

pub record NumbersPut (old new : Design) (r : Register) (n : ℕ) (numbers : Numbers) : Type 0 where
  pub grows : Grows old new
  pub are : AreNumbers new r n numbers

-- ---- statements

-- these statements make up a block
pub record StmtsAre (d : Design) (ids : List StmtId) (b : tree.Block) : Type 0 where
  pub there : IsTrue (all_stmts_below (length d.stmts) ids)
  pub tree : block d ids ≡ b

-- what they drive is this, by the number of the driver
abbrev pub Driven : Type 0
Driven = ℕ → List Driving

pub record StmtsPut (old new : Design) (ids : List StmtId) (b : tree.Block) (l : Driven) : Type 0 where
  pub grows : Grows old new
  pub are : StmtsAre new ids b
  pub drives : (driver : ℕ) → drivings_of new driver ids ≡ l driver

pub record BranchesPut (old new : Design) (bs : List Branch) (b : tree.Branches) (l : Driven) : Type 0 where
  pub grows : Grows old new
  pub conds : BranchesStand (length new.exprs) bs
  pub there : IsTrue (all_branches_below (length new.stmts) bs)
  pub tree : branches_at (term new) (design.stmt new) bs ≡ b
  pub drives : (driver : ℕ) → branch_drivings (drivings_at new driver) bs ≡ l driver

pub record ArmsPut (old new : Design) (arms : List Arm) (b : tree.Arms) (l : Driven) : Type 0 where
  pub grows : Grows old new
  pub there : IsTrue (all_arms_below (length new.stmts) arms)
  pub tree : arms_at (design.stmt new) arms ≡ b
  pub drives : (driver : ℕ) → arm_drivings (drivings_at new driver) arms ≡ l driver

-- a list that had statements has a block more, which drives this
pub record Put (old new : Design) (before after : List StmtId) (b : tree.Block) (l : Driven) : Type 0 where
  pub grows : Grows old new
  pub there : IsTrue (all_stmts_below (length new.stmts) after)
  pub tree : block new after ≡ append (block old before) b
  pub drives : (driver : ℕ) → drivings_of new driver after ≡ drivings_of old driver before ++ l driver

abbrev pub AreThere : Design → List StmtId → Type 0
AreThere d ids = IsTrue (all_stmts_below (length d.stmts) ids)

-- ---- what is read

pub record Read : Type 0 where
  pub fsm : FsmDecl
  pub stmts : List FsmStmt
  pub state : TargetId
  pub numerals : List ExprId

-- the statements stand, and so do `state` and the numbers of its states
pub record IsReady (r : Read) (d : Design) : Type 0 where
  pub lower : EachLower fsm_below r.stmts
  pub stmts : EachOf (FsmStmtStands (length d.exprs) (length d.targets)) r.stmts
  pub some : 0 < length r.fsm.states
  pub state : HasTarget d r.state.place (tree.Whole r.fsm.state.0)
  pub numerals : AreAll d (numeral (register d r.fsm)) (length r.fsm.states) r.numerals

-- what the statement at a place drives in one of the two lists
abbrev pub reads_driven : Read → Design → Part → ℕ → ℕ → List Driving
reads_driven r d p driver k = driven_at d r.fsm.state.0 p driver r.stmts k

-- what a node drives, from what is there
abbrev pub node_more : Design → Stmt → Driven
node_more d x driver = node_drivings d driver (drivings_at d driver) x

-- what an action becomes in each of the two lists
abbrev pub becomes : Register → Part → Action → tree.Block
becomes r part.Comb = in_comb
becomes r part.Sync = in_sync r

-- an assignment of a state, and one of a NextValue
abbrev pub now_of : Part → tree.Target → Term → tree.Block
now_of part.Comb t e = one (tree.Assign t e)
now_of part.Sync t e = tree.Done

abbrev pub later_of : Part → tree.Target → Term → tree.Block
later_of part.Comb t e = tree.Done
later_of part.Sync t e = one (tree.Assign t e)

-- ---- the answer

-- The draft grows by nodes, the two lists of statements are those that the FSM stands for, and `start` is the number of its
-- reset state.
pub record IsListed (old new : Design) (xs : List FsmStmt) (f : FsmDecl) (lists : FsmLists) : Type 0 where
  pub grows : Grows old new
  pub comb : StmtsAre new lists.comb (comb_list (shapes old) (fsm_of old xs f))
  pub sync : StmtsAre new lists.sync (sync_list (shapes old) (fsm_of old xs f))
  pub start : lists.start ≡ start (fsm_of old xs f)
  -- what they drive, on which lines
  pub comb_drivings : (driver : ℕ) → drivings_of new driver lists.comb ≡ comb_driven old xs f driver
  pub sync_drivings : (driver : ℕ) → drivings_of new driver lists.sync ≡ sync_driven old xs f driver

-- its first fault is told, and the draft is as it was
abbrev pub Refuses : Design → Design → List FsmStmt → FsmDecl → Refusal → Type 0
Refuses old new xs f (refusal.Fault x) = (new ≡ old) × (first (faults (fsm_of old xs f) f.line) ≡ Some x)
Refuses old new xs f refusal.NoMemory = Unit {0}

-- the FSM has no fault, and its lists are there; or it is refused
abbrev pub Lowers : Design → Design → List FsmStmt → FsmDecl → Result FsmLists Refusal → Type 0
Lowers old new xs f (Ok lists) = (faults (fsm_of old xs f) f.line ≡ []) × IsListed old new xs f lists
Lowers old new xs f (Err e) = Refuses old new xs f e
