-- What a plan says of the drive of a signal, and patterns that statements begin with.
use Rattle.std.proofs.Common.{◌≡◌, ℕ, false, ◌^◌, List, refl, sym, ap, subst, ◌∙◌}
use Rattle.std.specs.Prelude.{ℤ, pos, Some, slice_get}
use Rattle.std.proofs.lemmas.Nat.{pow_pos}
use Rattle.lx_num.specs.Ints.{field_of, floor_div}
use Rattle.lx_num.proofs.Ints.{modulo-below}
use Rattle.lx_num.proofs.Ranges.{fits_pos, fits_wider}
use Rattle.lx_fhdl.specs.Below.{ExprId, StmtId}
use Rattle.lx_fhdl.specs.Designs.{shapes}
use Rattle.lx_fhdl.specs.Keeping.{Keeps}
use Rattle.lx_fhdl.specs.declared.design.Design.{Design}
use Rattle.lx_fhdl.proofs.Designs.{signal_most}
use Rattle.lx_emission.specs.Signals as signals
use Rattle.lx_emission.specs.Signals.{drive}
use Rattle.lx_sheet.specs.Drives.{drive_of}
use Rattle.lx_sheet.specs.declared.drive.Drive.{Drive}
use Rattle.lx_sheet.specs.declared.drive.Drive.TheVariants as code
use Rattle.lx_sim.specs.Blocks.{IsPattern}
use Rattle.lx_sim.specs.Plans.{IsPlan}
use Rattle.lx_sim.specs.declared.plan.Plan.{Plan}

-- ---- drives

pub driven : (p : Plan) (x : ℕ) (r : Drive) → IsPlan p → slice_get p.drives x ≡ Some r → drive p.design x ≡ drive_of r
driven p x r plan found = sym (plan.drives.each x r found)

pub driven_as : (p : Plan) (x : ℕ) (r s : Drive) → IsPlan p → slice_get p.drives x ≡ Some r → r ≡ s → drive p.design x ≡ drive_of s
driven_as p x r s plan found e = driven p x r plan found ∙ ap drive_of e

pub is_input : (r : Drive) → drive_of r ≡ signals.Input → r ≡ code.Input
is_input code.Input e = refl
is_input code.Undriven e = absurd cc
is_input (code.CombAssign value) e = absurd cc
is_input (code.CombBlock body) e = absurd cc
is_input (code.Sync domain body) e = absurd cc

pub is_assign : (r : Drive) (v : ExprId) → drive_of r ≡ signals.CombAssign v → r ≡ code.CombAssign v
is_assign code.Input v e = absurd cc
is_assign code.Undriven v e = absurd cc
is_assign (code.CombAssign value) v e = let same : value ≡ v = cc in ap code.CombAssign same
is_assign (code.CombBlock body) v e = absurd cc
is_assign (code.Sync domain body) v e = absurd cc

pub is_block : (r : Drive) (ids : List StmtId) → drive_of r ≡ signals.CombBlock ids → r ≡ code.CombBlock ids
is_block code.Input ids e = absurd cc
is_block code.Undriven ids e = absurd cc
is_block (code.CombAssign value) ids e = absurd cc
is_block (code.CombBlock body) ids e = let same : body ≡ ids = cc in ap code.CombBlock same
is_block (code.Sync domain body) ids e = absurd cc

pub is_sync : (r : Drive) (k : ℕ) (ids : List StmtId) → drive_of r ≡ signals.Sync k ids → r ≡ code.Sync k ids
is_sync code.Input k ids e = absurd cc
is_sync code.Undriven k ids e = absurd cc
is_sync (code.CombAssign value) k ids e = absurd cc
is_sync (code.CombBlock body) k ids e = absurd cc
is_sync (code.Sync domain body) k ids e =
    let same : domain ≡ k = cc in
    let body_same : body ≡ ids = cc in
    ap (λ (j : ℕ). code.Sync j body) same ∙ ap (code.Sync k) body_same

-- ---- patterns

pub field_pattern : (d : Design) (x : ℕ) (start p : ℤ) → Keeps d → p ≡ pos (field_of start 0 (shapes d x).bits) → IsPattern p
field_pattern d x start p keeps e =
    let n = (shapes d x).bits in
    let k = field_of start 0 n in
    let wide = fits_wider n 64 false (pos k) (signal_most d keeps x) (fits_pos n k (modulo-below (floor_div start (2 ^ 0)) (2 ^ n) (pow_pos n))) in
    subst IsPattern (sym e) (record { from_zero = wide.low; within = wide.high })
