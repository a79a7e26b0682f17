-- A draft that is ready for statements, and what is put into it.
use Rattle.std.specs.Prelude.{◌≡◌, ℕ, Bool, true, false, List, ◌<◌, ◌≤◌, length, slice_index_or, IsTrue}
use Rattle.lx_circuit.specs.Shapes.{Shapes}
use Rattle.lx_circuit.specs.Statements.{target_bits}
use Rattle.lx_circuit.specs.Terms.{Term}
use Rattle.lx_fhdl.specs.Below.{StmtId, TargetId, all_arms_below, all_branches_below, all_stmts_below, all_targets_below}
use Rattle.lx_fhdl.specs.Designs as design
use Rattle.lx_fhdl.specs.Designs.{shapes, term}
use Rattle.lx_fhdl.specs.declared.design.Design.{Design}
use Rattle.lx_fhdl.specs.declared.stmts.Arm.{Arm}
use Rattle.lx_fhdl.specs.declared.stmts.Branch.{Branch}
use Rattle.lx_lowering.specs.Flat.{without_low}
use Rattle.lx_plain.specs.Operands.{HasShape}
use Rattle.lx_plain.specs.Owned.{AreOwned}
use Rattle.lx_plain.specs.Plain.{Grows}
use Rattle.lx_plain.specs.Sources.{IsLowered, Read}
use Rattle.lx_plain.specs.Tests.{asked}
use Rattle.lx_plain.specs.declared.operands.Operand.{Operand}
use Rattle.lx_plain.specs.declared.operands.Test.{Test}
use Rattle.lx_plain.specs.declared.operands.Test.TheVariants.{Item, Last}
use Rattle.lx_plain.specs.declared.owned.Own.{Own}

-- all expressions are lowered, and these are statements of the draft
pub record IsReady (r : Read) (d : Design) (out : List Own) : Type 0 where
  pub lowered : IsLowered r d
  pub all : length r.places ≡ length r.design.exprs
  pub owned : AreOwned d out

-- ---- what stands in the design, each place below a bound

pub record LowerTargets (d : Design) (bound : ℕ) (ids : List TargetId) : Type 0 where
  pub within : bound ≤ length d.targets
  pub below : IsTrue (all_targets_below bound ids)

pub record LowerStmts (d : Design) (bound : ℕ) (ids : List StmtId) : Type 0 where
  pub within : bound ≤ length d.stmts
  pub below : IsTrue (all_stmts_below bound ids)

pub record LowerBranches (d : Design) (bound : ℕ) (branches : List Branch) : Type 0 where
  pub within : bound ≤ length d.stmts
  pub conds : (k : ℕ) (b : Branch) → k < length branches → (slice_index_or branches k b).cond.place < length d.exprs
  pub below : IsTrue (all_branches_below bound branches)

pub record LowerArms (d : Design) (bound : ℕ) (arms : List Arm) : Type 0 where
  pub within : bound ≤ length d.stmts
  pub below : IsTrue (all_arms_below bound arms)

-- ---- targets

-- what is asked of an index that picks item number k, which may be the last one
abbrev pub item_test : ℕ → Bool → Test
item_test k false = Item k
item_test k true = Last k

-- the index picks item number k
abbrev pub choice : Shapes → Term → ℕ → Bool → Term
choice s i k last = asked s i (item_test k last)

-- the number v, of the part after part k, is w without the bits of this part
pub record RestPut (r : Read) (old new : Design) (w v : Operand) (k : ℕ) (last : Bool) : Type 0 where
  pub grows : Grows old new
  pub shape : HasShape new v
  pub tree : last ≡ false → term new v.id.place ≡ without_low (shapes old) (target_bits (shapes r.design) (design.target r.design k)) (term old w.id.place)
