-- What drives a signal is there, and its statements are plain.
use Rattle.std.proofs.Common.{◌≡◌, ℕ, ◌-◌, ◌<◌, Bool, true, false, cond, List, [], ◌∷◌, Option, Some, None, length, refl, sym, subst}
use Rattle.std.specs.Prelude.{slice_get, IsTrue}
use Rattle.lx_circuit.specs.Statements.{drives}
use Rattle.lx_circuit.specs.Circuit.{Role, Input, Comb, Sync, Read, Undriven, role}
use Rattle.lx_fhdl.specs.Below.{ExprId, StmtId, all_stmts_below}
use Rattle.lx_fhdl.specs.Designs.{stmt, block, stmts_of, circuit_of}
use Rattle.lx_fhdl.specs.Keeping.{Keeps}
use Rattle.lx_fhdl.specs.Lowered.{IsPlain, ArePlain, IsLowered}
use Rattle.lx_fhdl.specs.declared.stmts.Stmt.{Stmt}
use Rattle.lx_fhdl.specs.declared.design.Design.{Design}
use Rattle.lx_emission.specs.Signals.{own, is_whole, whole_value, single, comb_drive, drive_by, drive}
use Rattle.lx_emission.proofs.Blocks.{sync_below, sync_plain}
use Rattle.lx_emission.proofs.Parts.{role_within}
use Rattle.lx_emission.proofs.Pieces.{own_below}
use Rattle.lx_sheet.specs.declared.drive.Drive.{Drive}
use Rattle.lx_sheet.specs.Drives.{AreDrives, IsThere, IsPlainDrive, drive_of}
use Rattle.lx_fhdl.specs.declared.stmts.Stmt.TheVariants as statement

whole_there : (b : Bool) (d : Design) (value : ExprId) (ids : List StmtId) → IsTrue (all_stmts_below (length d.stmts) ids) → value.place < length d.exprs → IsThere d (comb_drive ids (cond b (Some value) None))
whole_there true d value ids h l = l
whole_there false d value ids h l = h

value_there : (d : Design) (k : ℕ) (o : Option Stmt) (ids : List StmtId) → Keeps d → slice_get d.stmts k ≡ o → IsTrue (all_stmts_below (length d.stmts) ids) → IsThere d (comb_drive ids (whole_value d o))
value_there d k None ids keeps e h = h
value_there d k (Some (statement.Assign target value line)) ids keeps e h = whole_there (is_whole d (slice_get d.targets target.place)) d value ids h (keeps.arenas.stmts k (statement.Assign target value line) e).1
value_there d k (Some (statement.If branches rest line)) ids keeps e h = h
value_there d k (Some (statement.Case on arms rest line)) ids keeps e h = h

single_there : (d : Design) (ids : List StmtId) → Keeps d → IsTrue (all_stmts_below (length d.stmts) ids) → IsThere d (comb_drive ids (single d ids))
single_there d [] keeps h = h
single_there d (i ∷ []) keeps h = value_there d i.place (slice_get d.stmts i.place) (i ∷ []) keeps refl h
single_there d (i ∷ (j ∷ is)) keeps h = h

by_role_there : (d : Design) (x : ℕ) (r : Role) → Keeps d → role (circuit_of d) x ≡ r → IsThere d (drive_by d x r)
by_role_there d x Input keeps h = tt
by_role_there d x Undriven keeps h = tt
by_role_there d x (Read j) keeps h = tt
by_role_there d x Comb keeps h = single_there d (own d x d.comb) keeps (own_below d x (length d.stmts) d.comb keeps.comb.there)
by_role_there d x (Sync k) keeps h = (role_within d x k h, own_below d x (length d.stmts) (stmts_of k d.sync) (sync_below d k d.sync keeps.sync))

pub drive_there : (d : Design) (x : ℕ) → Keeps d → IsThere d (drive d x)
unfolding drive
drive_there d x keeps = by_role_there d x (role (circuit_of d) x) keeps refl

-- ---- the statements of a drive are plain

one_plain : (b : Bool) (d : Design) (i : StmtId) (is : List StmtId) → IsPlain (stmt d i.place) → ArePlain (block d is) → ArePlain (block d (cond b (i ∷ is) is))
one_plain true d i is h g = (h, g)
one_plain false d i is h g = g

own_plain : (d : Design) (x : ℕ) (is : List StmtId) → ArePlain (block d is) → ArePlain (block d (own d x is))
unfolding own
own_plain d x [] h = tt
own_plain d x (i ∷ is) h = one_plain (drives x (stmt d i.place)) d i (own d x is) h.0 (own_plain d x is h.1)

combined_plain : (d : Design) (ids : List StmtId) (o : Option ExprId) → ArePlain (block d ids) → IsPlainDrive d (comb_drive ids o)
combined_plain d ids None h = h
combined_plain d ids (Some value) h = tt

by_role_plain : (d : Design) (x : ℕ) (r : Role) → IsLowered d → IsPlainDrive d (drive_by d x r)
by_role_plain d x Input low = tt
by_role_plain d x Undriven low = tt
by_role_plain d x (Read j) low = tt
by_role_plain d x Comb low = combined_plain d (own d x d.comb) (single d (own d x d.comb)) (own_plain d x d.comb low.comb)
by_role_plain d x (Sync k) low = own_plain d x (stmts_of k d.sync) (sync_plain d k d.sync low.sync)

pub drive_plain : (d : Design) (x : ℕ) → IsLowered d → IsPlainDrive d (drive d x)
unfolding drive
drive_plain d x low = by_role_plain d x (role (circuit_of d) x) low

pub drive_there_at : (d : Design) (rs : List Drive) (k : ℕ) (r : Drive) → Keeps d → AreDrives d rs → slice_get rs k ≡ Some r → IsThere d (drive_of r)
drive_there_at d rs k r keeps h e = subst (IsThere d) (sym (h.each k r e)) (drive_there d k keeps)

pub drive_plain_at : (d : Design) (rs : List Drive) (k : ℕ) (r : Drive) → IsLowered d → AreDrives d rs → slice_get rs k ≡ Some r → IsPlainDrive d (drive_of r)
drive_plain_at d rs k r low h e = subst (IsPlainDrive d) (sym (h.each k r e)) (drive_plain d k low)
