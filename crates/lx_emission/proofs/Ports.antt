-- The ports of the module are those of the circuit.
use Rattle.std.proofs.Common.{◌≡◌, ℕ, ◌+◌, Bool, false, List, [], ◌∷◌, map, refl, ap, ◌∙◌}
use Rattle.std.specs.Prelude.{Option, Some, None, option_map}
use Rattle.std.proofs.lemmas.List.{map-append}
use Rattle.lx_circuit.specs.Circuit as circuit
use Rattle.lx_circuit.specs.Circuit.{Role, role, shapes}
use Rattle.lx_vtext.specs.Tree.{Name}
use Rattle.lx_agree.specs.Agreement as agreement
use Rattle.lx_agree.specs.Agreement.{PortOf, shown_port, is_input_role, HasPorts}
use Rattle.lx_fhdl.specs.Below.{ExprId}
use Rattle.lx_fhdl.specs.Designs.{circuit_of, signal_number, domains_from}
use Rattle.lx_fhdl.specs.declared.exprs.SigId.{SigId}
use Rattle.lx_fhdl.specs.declared.design.Domain.{Domain}
use Rattle.lx_fhdl.specs.declared.design.Design.{Design}
use Rattle.lx_emission.specs.Naming.{net, naming}
use Rattle.lx_emission.specs.Signals.{own, single, comb_drive, drive_by, drive, signal_net}
use Rattle.lx_emission.specs.Emission.{is_input_drive, signal_port, reset_port, domain_port, domain_ports, ports_of, emitted}

input_by : (d : Design) (x : ℕ) (r : Role) → is_input_drive (drive_by d x r) ≡ is_input_role r
input_by d x circuit.Input = refl
input_by d x circuit.Undriven = refl
input_by d x circuit.Comb = by (single d (own d x d.comb))
  where
    by : (o : Option ExprId) → is_input_drive (comb_drive (own d x d.comb) o) ≡ false
    by None = refl
    by (Some value) = refl
input_by d x (circuit.Sync k) = refl
input_by d x (circuit.Read j) = refl

-- a net is given where its signal is an input
pub input_is_drive : (d : Design) (x : ℕ) → is_input_drive (drive d x) ≡ is_input_role (role (circuit_of d) x)
unfolding drive
input_is_drive d x = input_by d x (role (circuit_of d) x)

shown_signal : (d : Design) (names : List Name) (x : ℕ) → shown_port (signal_port d names x) ≡ agreement.signal_port (circuit_of d) (naming d names) x
unfolding signal_net
shown_signal d names x = ap port (input_is_drive d x)
  where
    port : Bool → PortOf
    port b = record { is_input = b; signed = (shapes (circuit_of d) x).signed; bits = (shapes (circuit_of d) x).bits; name = net names x }

shown_reset : (d : Design) (names : List Name) (o : Option SigId) → map shown_port (reset_port d names o) ≡ agreement.reset_port (circuit_of d) (naming d names) (option_map signal_number o)
shown_reset d names None = refl
shown_reset d names (Some r) = ap (λ (p : PortOf). p ∷ []) (shown_signal d names r.0)

shown_domains : (d : Design) (names : List Name) (k : ℕ) (ys : List Domain) → map shown_port (domain_ports d names k ys) ≡ agreement.domain_ports (circuit_of d) (naming d names) k (domains_from d k ys)
shown_domains d names k [] = refl
shown_domains d names k (y ∷ ys) =
    map-append shown_port (domain_port d names k y) (domain_ports d names (k + 1) ys)
    ∙ rw (shown_reset d names y.reset, shown_domains d names (k + 1) ys) refl

shown_ios : (d : Design) (names : List Name) (is : List SigId)
    → map shown_port (map (λ (r : SigId). signal_port d names r.0) is) ≡ map (λ x. agreement.signal_port (circuit_of d) (naming d names) x) (map signal_number is)
shown_ios d names [] = refl
shown_ios d names (r ∷ rs) = rw (shown_signal d names r.0, shown_ios d names rs) refl

shown_ports : (d : Design) (names : List Name) → map shown_port (ports_of d names) ≡ agreement.ports_of (circuit_of d) (naming d names)
unfolding ports_of circuit_of
shown_ports d names =
    map-append shown_port (domain_ports d names 0 d.domains) (map (λ (r : SigId). signal_port d names r.0) d.ios)
    ∙ rw (shown_domains d names 0 d.domains, shown_ios d names d.ios) refl

pub has_ports : (d : Design) (names : List Name) → HasPorts (circuit_of d) (naming d names) (emitted d names)
unfolding emitted
has_ports d names = shown_ports d names
