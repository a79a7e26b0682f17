-- The nets of signals, and the assigns that drive them.
use Rattle.std.proofs.Common.{◌≡◌, ◌⊎◌, inl, inr, ℕ, List, [], sym, ap, ◌∙◌}
use Rattle.std.specs.Prelude.{Option}
use Rattle.lx_num.specs.declared.Shape.{Shape}
use Rattle.lx_vtext.specs.Tree.{Name, VLiteral, VNet}
use Rattle.lx_fhdl.specs.Below.{StmtId}
use Rattle.lx_fhdl.specs.Designs.{shapes}
use Rattle.lx_fhdl.specs.declared.design.Design.{Design}
use Rattle.lx_emission.specs.Naming.{net}
use Rattle.lx_emission.specs.Signals.{shape_of_signal, reset_of_signal, init_of, drive, signal_net, assign_by, signal_assign}
use Rattle.lx_sheet.specs.declared.drive.Drive.{Drive}
use Rattle.lx_sheet.specs.Drives.{drive_of}
use Rattle.lx_emission.specs.Signals as signals
use Rattle.lx_sheet.specs.declared.drive.Drive.TheVariants as now

abbrev net_by : Shape → Name → Option VLiteral → VNet
net_by s n i = record { signed = s.signed; bits = s.bits; name = n; init = i }

pub net_is : (d : Design) (names : List Name) (k : ℕ) (s : Shape) (n : Name) (i : Option VLiteral) (r : signals.Drive) → s ≡ shapes d k → n ≡ net names k → i ≡ init_of (shape_of_signal d k) (reset_of_signal d k) r → r ≡ drive d k
    → net_by s n i ≡ signal_net d names k
unfolding signal_net
net_is d names k s n i r e f g h =
    ap (λ (a : Shape). net_by a n i) e
    ∙ ap (λ (m : Name). net_by (shape_of_signal d k) m i) f
    ∙ ap (net_by (shape_of_signal d k) (net names k)) (g ∙ ap (init_of (shape_of_signal d k) (reset_of_signal d k)) h)

-- a net that no assign drives, or no block
abbrev pub IsUnassigned : Drive → Type 0
IsUnassigned r = (r ≡ now.Input) ⊎ (((ids : List StmtId) × (r ≡ now.CombBlock ids)) ⊎ ((k : ℕ) × (ids : List StmtId) × (r ≡ now.Sync k ids)))

pub no_assign : (d : Design) (names : List Name) (k : ℕ) (r : Drive) → IsUnassigned r → [] ≡ assign_by d names k (drive_of r)
no_assign d names k r (inl e) = ap (λ (q : Drive). assign_by d names k (drive_of q)) (sym e)
no_assign d names k r (inr (inl t)) = ap (λ (q : Drive). assign_by d names k (drive_of q)) (sym t.1)
no_assign d names k r (inr (inr t)) = ap (λ (q : Drive). assign_by d names k (drive_of q)) (sym t.2)

-- the lines of a signal, by how its net is driven
pub assign_line : (d : Design) (names : List Name) (k : ℕ) (r : signals.Drive) → r ≡ drive d k → assign_by d names k r ≡ signal_assign d names k
unfolding signal_assign
assign_line d names k r e = ap (assign_by d names k) e
