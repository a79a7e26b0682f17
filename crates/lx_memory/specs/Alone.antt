-- A test of a design: each dat_r is that of one port, and nothing else drives it.
use Rattle.std.specs.Prelude.{◌≡◌, ℕ, Bool, true, false, List, [], ◌∷◌, Option, Some, None, ◌&&◌, length, not, option_map, slice_index_or, slice_set}
use Rattle.std.specs.List.{list_any}
use Rattle.lx_circuit.specs.Circuit.{is_named}
use Rattle.lx_fhdl.specs.Designs.{signal_number}
use Rattle.lx_fhdl.specs.declared.design.Design.{Design}
use Rattle.lx_fhdl.specs.declared.design.Port.{Port}
use Rattle.lx_fhdl.specs.declared.exprs.SigId.{SigId}
use Rattle.lx_reads.specs.Drivings.{Driving, drivings}

-- a port shows the signal
abbrev pub is_shown : ℕ → List Port → Bool
is_shown x qs = list_any (λ (q : Port). is_named x (option_map signal_number q.dat_r)) qs

abbrev pub is_shown_too : List Port → Option SigId → Bool
is_shown_too qs None = false
is_shown_too qs (Some x) = is_shown x.0 qs

-- no two ports show one signal
abbrev pub are_apart : List Port → Bool
are_apart [] = true
are_apart (q ∷ qs) = not (is_shown_too qs q.dat_r) && are_apart qs

-- some of these drive a signal that a port shows
abbrev pub drive_some : List Port → List Driving → Bool
drive_some qs all = list_any (λ (a : Driving). is_shown a.signal qs) all

-- ports beside all that statements drive
abbrev pub are_alone : List Port → List Driving → Bool
are_alone qs all = are_apart qs && not (drive_some qs all)

unfoldable pub shows_alone : Design → Bool
shows_alone d = are_alone d.ports (drivings d)

-- ---- marks

-- the mark of a signal, where one is named
abbrev pub mark_of : List Bool → Option SigId → Bool
mark_of marks None = false
mark_of marks (Some x) = slice_index_or marks x.0 false

abbrev pub with_mark : List Bool → Option SigId → List Bool
with_mark marks None = marks
with_mark marks (Some x) = slice_set marks x.0 true

-- each of so many signals is marked where a port shows it
pub record AreShown (n : ℕ) (qs : List Port) (marks : List Bool) : Type 0 where
  pub long : length marks ≡ n
  pub each : (x : ℕ) → slice_index_or marks x false ≡ is_shown x qs
