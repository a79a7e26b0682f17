-- The ports of domains.
use Rattle.std.proofs.Common.{◌≡◌, ℕ, ◌+◌, true, false, List, ◌∷◌, ◌++◌, drop, ap, ◌∙◌}
use Rattle.std.specs.Prelude.{Option, Some, slice_get}
use Rattle.lx_fhdl.specs.declared.design.Domain.{Domain}
use Rattle.lx_fhdl.specs.declared.design.Design.{Design}
use Rattle.lx_vtext.specs.Tree.{Name, VPort}
use Rattle.lx_emission.specs.Naming.{clock_of, clock_name}
use Rattle.lx_emission.specs.Emission.{wire, reset_port, domain_ports}
use Rattle.lx_sheet.proofs.Lines.{drop_at}

abbrev domain_piece : Design → List Name → Name → Domain → List VPort
domain_piece d names clock x = record { is_input = true; net = wire false 1 clock } ∷ reset_port d names x.reset

pub domain_next : (d : Design) (names : List Name) (k : ℕ) (x : Domain) (xs : List Domain) → xs ≡ d.domains → slice_get d.domains k ≡ Some x → domain_ports d names k (drop k xs) ≡ domain_piece d names (clock_name x.name) x ++ domain_ports d names (k + 1) (drop (k + 1) xs)
domain_next d names k x xs same e =
    ap (domain_ports d names k) (drop_at xs k x (ap (λ (ys : List Domain). slice_get ys k) same ∙ e))
    ∙ ap (λ (o : Option Domain). domain_piece d names (clock_of o) x ++ domain_ports d names (k + 1) (drop (k + 1) xs)) e
