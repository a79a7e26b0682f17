-- The blocks that drive the nets of signals.
use Rattle.std.proofs.Common.{◌≡◌, ◌⊎◌, inl, inr, ℕ, List, [], sym, ap}
use Rattle.lx_vtext.specs.Tree.{Name}
use Rattle.lx_fhdl.specs.Below.{ExprId}
use Rattle.lx_fhdl.specs.declared.design.Design.{Design}
use Rattle.lx_emission.specs.Signals.{drive, always_by, signal_always}
use Rattle.lx_sheet.specs.declared.drive.Drive.{Drive}
use Rattle.lx_sheet.specs.Drives.{drive_of}
use Rattle.lx_emission.specs.Signals as signals
use Rattle.lx_sheet.specs.declared.drive.Drive.TheVariants as now

abbrev pub IsUnblocked : Drive → Type 0
IsUnblocked r = (r ≡ now.Input) ⊎ ((r ≡ now.Undriven) ⊎ ((value : ExprId) × (r ≡ now.CombAssign value)))

pub no_always : (d : Design) (names : List Name) (k : ℕ) (r : Drive) → IsUnblocked r → [] ≡ always_by d names k (drive_of r)
no_always d names k r (inl e) = ap (λ (q : Drive). always_by d names k (drive_of q)) (sym e)
no_always d names k r (inr (inl e)) = ap (λ (q : Drive). always_by d names k (drive_of q)) (sym e)
no_always d names k r (inr (inr t)) = ap (λ (q : Drive). always_by d names k (drive_of q)) (sym t.1)

pub always_line : (d : Design) (names : List Name) (k : ℕ) (r : signals.Drive) → r ≡ drive d k → always_by d names k r ≡ signal_always d names k
unfolding signal_always
always_line d names k r e = ap (always_by d names k) e
