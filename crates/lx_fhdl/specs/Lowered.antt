-- Lowered designs: each statement assigns one signal, and no item is picked from a list.
use Rattle.std.specs.Prelude.{◌≡◌, ℕ, Bool, true, false, not, ◌&&◌, nat_eq, Some, slice_get, IsTrue}
use Rattle.lx_circuit.specs.Statements.{Target, Whole, Part, CatTarget, PickTarget, Stmt, Assign, If, Case, Branches, NoBranch, Branch, Block, Done, Then}
use Rattle.lx_fhdl.specs.Designs.{block}
use Rattle.lx_fhdl.specs.Keeping.{EachOf}
use Rattle.lx_fhdl.specs.declared.exprs.Expr.{Expr}
use Rattle.lx_fhdl.specs.declared.exprs.Expr.TheVariants.{Pick}
use Rattle.lx_fhdl.specs.declared.design.SyncPart.{SyncPart}
use Rattle.lx_fhdl.specs.declared.design.Design.{Design}

-- the signal, or some of its bits
abbrev pub is_plain_target : ℕ → Target → Bool
is_plain_target x (Whole y) = nat_eq y x
is_plain_target x (Part y low len) = nat_eq y x
is_plain_target x (CatTarget parts) = false
is_plain_target x (PickTarget items index) = false

abbrev pub is_done : Block → Bool
is_done Done = true
is_done (Then s ss) = false

abbrev pub is_end : Branches → Bool
is_end NoBranch = true
is_end (Branch c b more) = false

-- one branch, which has statements where the rest has none
abbrev pub is_lone : Branches → Block → Bool
is_lone NoBranch rest = false
is_lone (Branch c b more) rest = is_end more && not (is_done b && is_done rest)

-- assignments to the signal x alone, under conditions with one branch each
abbrev mutual
  pub is_for : ℕ → Stmt → Bool
  is_for x (Assign t e) = is_plain_target x t
  is_for x (If bs rest) = is_lone bs rest && (branches_are_for x bs && are_for x rest)
  is_for x (Case on arms rest) = false

  pub branches_are_for : ℕ → Branches → Bool
  branches_are_for x NoBranch = true
  branches_are_for x (Branch c b more) = are_for x b && branches_are_for x more

  pub are_for : ℕ → Block → Bool
  are_for x Done = true
  are_for x (Then s ss) = is_for x s && are_for x ss

-- a statement for one signal
pub record IsPlain (s : Stmt) : Type 0 where
  pub signal : ℕ
  pub alone : IsTrue (is_for signal s)

abbrev pub ArePlain : Block → Type 0
ArePlain Done = Unit {0}
ArePlain (Then s ss) = IsPlain s × ArePlain ss

abbrev pub is_no_pick : Expr → Bool
is_no_pick (Pick items index) = false
is_no_pick _ = true

-- Each statement of a list is for one signal: so each signal has a list of its own.
pub record IsLowered (d : Design) : Type 0 where
  pub exprs : (k : ℕ) (x : Expr) → slice_get d.exprs k ≡ Some x → is_no_pick x ≡ true
  pub comb : ArePlain (block d d.comb)
  pub sync : EachOf (λ (p : SyncPart). ArePlain (block d p.stmts)) d.sync
