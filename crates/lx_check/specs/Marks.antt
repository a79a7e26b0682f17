-- What is known of the drivings of each signal.
use Rattle.std.specs.Prelude.{◌≡◌, ℕ, Bool, true, false, ◌<◌, List, Option, Some, None, length, not, nat_eq, nat_lt, option_map, slice_get, slice_index_or, slice_set, if◌then◌else◌}
use Rattle.std.specs.List.{find, list_all}
use Rattle.std.specs.Option.{is_some, option_and_then, option_or}
use Rattle.lx_fhdl.specs.declared.design.Design.{Design}
use Rattle.lx_fhdl.specs.declared.design.Port.{Port}
use Rattle.lx_fhdl.specs.declared.exprs.SigId.{SigId}
use Rattle.lx_reads.specs.Drivings.{Driving, first_driving}
use Rattle.lx_reads.specs.Net.{driving_of}
use Rattle.lx_reads.specs.declared.net.Driven.{Driven}
use Rattle.lx_check.specs.Faults.{any_driving, fault, is_described, is_reader, memory_fault, second_driving, signal_name}
use Rattle.lx_text.specs.declared.faults.Fault.{Fault}
use Rattle.lx_text.specs.declared.faults.Kind.TheVariants.{StorageDriven, TwoDrivers}
use Rattle.lx_check.specs.declared.marks.Mark.{Mark}

abbrev pub no_mark : Mark
no_mark = record { described = None; first = None; second = None }

-- all that is driven is one of so many signals
abbrev pub are_below : ℕ → List Driven → Bool
are_below n driven = list_all (λ (a : Driven). nat_lt a.signal n) driven

-- the other driver than the first one
abbrev pub differs : Option Driven → Driven → Bool
differs None b = false
differs (Some a) b = not (nat_eq b.driver a.driver)

abbrev pub or_wanted : Option Driven → Driven → Bool → Option Driven
or_wanted found a is_wanted = option_or found (if is_wanted then Some a else None)

-- after a driving more
abbrev pub marked : Mark → Driven → Mark
marked m a = record {
  described = or_wanted m.described a (not (nat_eq a.line 0));
  first = or_wanted m.first a true;
  second = or_wanted m.second a (differs m.first a);
}

-- the mark of signal x after these drivings
pub record IsMark (x : ℕ) (all : List Driving) (m : Mark) : Type 0 where
  pub described : option_map driving_of m.described ≡ first_driving x is_described all
  pub first : option_map driving_of m.first ≡ first_driving x any_driving all
  pub second : option_map driving_of m.second ≡ second_driving x all

pub record AreMarks (n : ℕ) (all : List Driving) (marks : List Mark) : Type 0 where
  pub long : length marks ≡ n
  pub each : (x : ℕ) → x < n → IsMark x all (slice_index_or marks x no_mark)

-- ---- readers

-- a port stands where its signal has none yet
abbrev pub or_port : Option Port → Port → Option Port
or_port None q = Some q
or_port (Some p) q = Some p

abbrev pub put_at : List (Option Port) → Option SigId → Port → List (Option Port)
put_at readers None q = readers
put_at readers (Some x) q = slice_set readers x.0 (or_port (slice_index_or readers x.0 None) q)

abbrev pub with_reader : List (Option Port) → Port → List (Option Port)
with_reader readers q = put_at readers q.dat_r q

-- the first of these ports whose dat_r each signal is
pub record AreReaders (n : ℕ) (ports : List Port) (readers : List (Option Port)) : Type 0 where
  pub long : length readers ≡ n
  pub each : (x : ℕ) → x < n → slice_index_or readers x None ≡ find (is_reader x) ports

-- ---- faults, as marks tell them

abbrev pub storage_marked : Design → ℕ → Bool → Mark → Option Fault
storage_marked d x is_output m =
    if is_output
    then option_map (λ (a : Driven). fault a.line (StorageDriven (signal_name d x))) m.described
    else None

abbrev pub two_marked : Design → ℕ → Mark → Option Fault
two_marked d x m =
    option_and_then
    (λ (a : Driven). option_map (λ (b : Driven). fault b.line (TwoDrivers (signal_name d x) a.line)) m.second)
    m.first

abbrev pub memory_marked : Design → ℕ → Mark → Option Fault
memory_marked d m mark = if is_some mark.second then memory_fault (slice_get d.memories m) else None
