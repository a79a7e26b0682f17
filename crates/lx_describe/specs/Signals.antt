-- The signals of a design with their paths, with the bits of those that are the `state` of an FSM or the `enable` of an event
-- manager, and with those that the bus gives to interfaces.
use Rattle.std.specs.Prelude.{ℕ, Bool, true, false, ◌+◌, List, [], ◌∷◌, slice_get, Option, Some, None}
use Rattle.lx_num.specs.Ints.{unsigned}
use Rattle.lx_fhdl.specs.declared.design.Signal.{Signal}
use Rattle.lx_state.specs.declared.machine.Machine.{Machine}
use Rattle.lx_state.specs.declared.machine.Owner.{Owner}
use Rattle.lx_paths.specs.Paths.{owner_path}
use Rattle.lx_describe.specs.Apart.{late_bits}
use Rattle.lx_describe.specs.Systems.{is_bus_given}

-- what is nobody's keeps its path
abbrev pub with_path : List (List ℕ) → Signal → Signal
with_path [] s = s
with_path (w ∷ ws) s = record s { path = w ∷ ws }

-- `state` holds the numbers of all states, `enable` has a bit for each source
abbrev pub with_bits : Option ℕ → Signal → Signal
with_bits None s = s
with_bits (Some bits) s = record s { shape = unsigned bits }

-- the bus gives it
abbrev pub with_bus : Bool → Signal → Signal
with_bus false s = s
with_bus true s = record s { by_bus = true }

-- the signal of an owner
abbrev pub owned_signal : Machine → Option Owner → Signal → Signal
owned_signal m owner s = with_bus (is_bus_given m owner) (with_bits (late_bits m owner) (with_path (owner_path m owner) s))

-- the signal at a place
abbrev pub named_signal : Machine → ℕ → Signal → Signal
named_signal m x s = owned_signal m (slice_get m.owners x) s

-- the signals from a place on
unfoldable pub named_signals : Machine → ℕ → List Signal → List Signal
named_signals m x [] = []
named_signals m x (s ∷ ss) = named_signal m x s ∷ named_signals m (x + 1) ss
