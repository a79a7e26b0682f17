-- What statements add to a net.
use Rattle.std.specs.Prelude.{◌≡◌, ℕ, Bool, ◌||◌, ◌&&◌, List, [], ◌++◌, Option, map, nat_lt}
use Rattle.std.specs.List.{list_all}
use Rattle.lx_circuit.specs.Circuit.{is_among}
use Rattle.lx_circuit.specs.Places.{At}
use Rattle.lx_circuit.specs.Reads.{names, reads, reads_block, reads_branch, reads_arm, target_names}
use Rattle.lx_circuit.specs.Statements.{Block, Branches, Arms, Stmt, Target, drives, drives_block, drives_branch, drives_arm, is_target}
use Rattle.lx_fhdl.specs.Below.{ExprId, StmtId, TargetId}
use Rattle.lx_fhdl.specs.Designs.{block, stmt, target, term}
use Rattle.lx_fhdl.specs.Stmts.{arms_at, branches_at}
use Rattle.lx_fhdl.specs.declared.design.Design.{Design}
use Rattle.lx_fhdl.specs.declared.stmts.Arm.{Arm}
use Rattle.lx_fhdl.specs.declared.stmts.Branch.{Branch}
use Rattle.lx_reads.specs.Drivings.{arm_drivings, assign_drivings, branch_drivings, driving, drivings_at, drivings_of}
use Rattle.lx_reads.specs.Net.{Adds, IsAround, IsNet, IsNumber, Todo, above, hits, net_reaches, nothing, row_hits, signals_of}
use Rattle.lx_reads.specs.declared.net.Net.{Net}
use Rattle.lx_reads.specs.declared.walk.Under.{Under}

-- a signal that a block drives reads what its statements read, and what the conditions around them do; `a` says what
-- these conditions name
abbrev pub block_under : (ℕ → Bool) → Block → ℕ → ℕ → Bool
block_under a b x y = reads_block x (At y) b || (drives_block x b && a y)

abbrev pub stmt_under : (ℕ → Bool) → Stmt → ℕ → ℕ → Bool
stmt_under a s x y = reads x (At y) s || (drives x s && a y)

-- the branches of an If, and its rest
abbrev pub chain_under : (ℕ → Bool) → Branches → Block → ℕ → ℕ → Bool
chain_under a bs rest x y =
    reads_branch x (At y) bs (drives_block x rest) (reads_block x (At y) rest) || ((drives_branch x bs || drives_block x rest) && a y)

-- the arms of a Case, and its rest
abbrev pub arms_under : (ℕ → Bool) → Arms → Block → ℕ → ℕ → Bool
arms_under a arms rest x y = (reads_arm x (At y) arms || reads_block x (At y) rest) || ((drives_arm x arms || drives_block x rest) && a y)

abbrev pub stmt_todo : Design → ℕ → (ℕ → Bool) → ℕ → Todo
stmt_todo d driver a k = record { drivings = drivings_at d driver k; reads = stmt_under a (stmt d k) }

abbrev pub block_todo : Design → ℕ → (ℕ → Bool) → List StmtId → Todo
block_todo d driver a ids = record { drivings = drivings_of d driver ids; reads = block_under a (block d ids) }

abbrev pub chain_todo : Design → ℕ → (ℕ → Bool) → List Branch → List StmtId → Todo
chain_todo d driver a bs rest = record {
  drivings = branch_drivings (drivings_at d driver) bs ++ drivings_of d driver rest;
  reads = chain_under a (branches_at (term d) (stmt d) bs) (block d rest);
}

abbrev pub arms_todo : Design → ℕ → (ℕ → Bool) → List Arm → List StmtId → Todo
arms_todo d driver a arms rest = record {
  drivings = arm_drivings (drivings_at d driver) arms ++ drivings_of d driver rest;
  reads = arms_under a (arms_at (stmt d) arms) (block d rest);
}

-- a condition more around statements
abbrev pub with_cond : Design → ExprId → (ℕ → Bool) → ℕ → Bool
with_cond d id a y = names (At y) (term d id.place) || a y

-- an assignment
abbrev pub assign_under : (ℕ → Bool) → Target → (ℕ → Bool) → ℕ → ℕ → Bool
assign_under value t a x y = is_target x t && ((value y || target_names (At y) t) || a y)

abbrev pub names_signal : Design → ExprId → ℕ → Bool
names_signal d id y = names (At y) (term d id.place)

abbrev pub assign_todo : Design → ℕ → (ℕ → Bool) → TargetId → ExprId → ℕ → Todo
assign_todo d driver a t value line = record {
  drivings = assign_drivings driver line (target d t.place);
  reads = assign_under (names_signal d value) (target d t.place) a;
}

-- all are signals of the design
abbrev pub are_signals : Design → List ℕ → Bool
are_signals d xs = list_all (λ x. nat_lt x (signals_of d)) xs

-- an assignment with this row drives these signals
abbrev pub driven_todo : Design → Net → ℕ → ℕ → ℕ → List ℕ → Todo
driven_todo d net driver line node signals = record {
  drivings = map (driving driver line) signals;
  reads = λ x y. is_among x signals && net_reaches d net y node;
}

-- ---- what is put

-- a net, and where statements stand in it
pub record IsReady (d : Design) (net : Net) (around : Option ℕ) : Type 0 where
  pub stands : IsNet d net
  pub within : IsAround d net around

-- a row more, at this number
pub record AddsRow (d : Design) (old new : Net) (row : List ℕ) (node : ℕ) : Type 0 where
  pub goes : Adds d old new nothing
  pub there : IsNumber d new node
  pub hits : (y : ℕ) → net_reaches d new y node ≡ row_hits (signals_of d) y (hits (signals_of d) old.rows y) row

-- a condition more, with what stands inside
pub record AddsCond (d : Design) (old new : Net) (id : ExprId) (under inside : Under) : Type 0 where
  pub goes : Adds d old new nothing
  pub driver : inside.driver ≡ under.driver
  pub around : IsAround d new inside.around
  pub names : (y : ℕ) → above d new inside.around y ≡ with_cond d id (above d old under.around) y

-- the expressions alone
pub record IsStart (d : Design) (net : Net) : Type 0 where
  pub stands : IsNet d net
  pub none : net.driven ≡ []
