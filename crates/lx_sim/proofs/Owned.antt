-- The statements that drive a signal are its own.
use Rattle.std.proofs.Common.{◌≡◌, ℕ, true, ◌<◌, List, length, sym, subst, arith}
use Rattle.std.specs.Prelude.{ℤ}
use Rattle.lx_fhdl.specs.Below.{ExprId, StmtId, all_stmts_below}
use Rattle.lx_fhdl.specs.Designs.{block, stmts_of}
use Rattle.lx_fhdl.specs.Keeping.{Keeps}
use Rattle.lx_fhdl.specs.Lowered.{IsLowered, are_for}
use Rattle.lx_fhdl.specs.declared.design.Design.{Design}
use Rattle.lx_emission.specs.Signals as signals
use Rattle.lx_emission.specs.Signals.{drive}
use Rattle.lx_emission.proofs.Blocks.{comb_list, sync_below, sync_list, sync_plain}
use Rattle.lx_emission.proofs.Loop.{assign_side}
use Rattle.lx_emission.proofs.Pieces.{own_below, own_for}
use Rattle.lx_sim.specs.Blocks.{IsOwnBlock}

-- ---- of a combinatorial signal

pub comb_is_own : (d : Design) (x : ℕ) (known : List ℤ) (ids : List StmtId) → Keeps d → IsLowered d → length known ≡ length d.exprs → drive d x ≡ signals.CombBlock ids → IsOwnBlock d x known ids
comb_is_own d x known ids keeps low long e = record {
  keeps = keeps;
  alone = subst (λ (is : List StmtId). are_for x (block d is) ≡ true) (sym (comb_list d x ids e)) (own_for d x d.comb low.comb);
  long = long;
}

pub comb_is_there : (d : Design) (x : ℕ) (ids : List StmtId) → Keeps d → drive d x ≡ signals.CombBlock ids → all_stmts_below (length d.stmts) ids ≡ true
comb_is_there d x ids keeps e = subst (λ (is : List StmtId). all_stmts_below (length d.stmts) is ≡ true) (sym (comb_list d x ids e)) (own_below d x (length d.stmts) d.comb keeps.comb.there)

pub side_is_there : (d : Design) (x : ℕ) (known : List ℤ) (value : ExprId) → Keeps d → IsLowered d → length known ≡ length d.exprs → drive d x ≡ signals.CombAssign value → value.place < length known
side_is_there d x known value keeps low long e = let l = (assign_side d x value keeps low e).within in omega (arith, l, long)

-- ---- of a registered signal

pub sync_is_own : (d : Design) (x k : ℕ) (known : List ℤ) (ids : List StmtId) → Keeps d → IsLowered d → length known ≡ length d.exprs → drive d x ≡ signals.Sync k ids → IsOwnBlock d x known ids
sync_is_own d x k known ids keeps low long e = record {
  keeps = keeps;
  alone = subst (λ (is : List StmtId). are_for x (block d is) ≡ true) (sym (sync_list d x k ids e)) (own_for d x (stmts_of k d.sync) (sync_plain d k d.sync low.sync));
  long = long;
}

pub sync_is_there : (d : Design) (x k : ℕ) (ids : List StmtId) → Keeps d → drive d x ≡ signals.Sync k ids → all_stmts_below (length d.stmts) ids ≡ true
sync_is_there d x k ids keeps e =
    subst (λ (is : List StmtId). all_stmts_below (length d.stmts) is ≡ true) (sym (sync_list d x k ids e)) (own_below d x (length d.stmts) (stmts_of k d.sync) (sync_below d k d.sync keeps.sync))
