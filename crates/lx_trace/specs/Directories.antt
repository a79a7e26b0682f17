-- Tables of the names of a design's signals.
use Rattle.std.specs.Prelude.{◌≡◌, ℕ, Bool, false, ◌&&◌, List, ◌<◌, Some, None, length, slice_index_or, if◌then◌else◌}
use Rattle.std.specs.Option.{option_or}
use Rattle.std.specs.Str.{bytes_eq}
use Rattle.lx_circuit.specs.Circuit.{role}
use Rattle.lx_fhdl.specs.Designs.{circuit_of}
use Rattle.lx_fhdl.specs.Keeping.{Keeps}
use Rattle.lx_fhdl.specs.declared.design.Design.{Design}
use Rattle.lx_names.specs.Tables.{Table, look_up}
use Rattle.lx_trace.specs.Traces.{is_input, signal_named}

-- a design, and the names of its nets
pub record Named : Type 0 where
  pub design : Design
  pub names : List (List ℕ)

-- a mark for each signal that is an input
pub record AreInputs (d : Design) (inputs : List Bool) : Type 0 where
  pub long : length inputs ≡ length d.signals
  pub each : (x : ℕ) → x < length d.signals → slice_index_or inputs x false ≡ is_input (role (circuit_of d) x)

-- what a name means
pub record IsTable (d : Design) (names : List (List ℕ)) (table : Table ℕ) : Type 0 where
  pub each : (name : List ℕ) → look_up table name ≡ signal_named d names name

-- where the test holds, a name that wasn't there means x; the others mean what they did
pub record IsAdded (old new : Table ℕ) (name : List ℕ) (test : Bool) (x : ℕ) : Type 0 where
  pub each : (other : List ℕ) → look_up new other ≡ option_or (look_up old other) (if bytes_eq other name && test then Some x else None)

pub record IsDirectory (d : Design) (names : List (List ℕ)) (inputs : List Bool) (table : Table ℕ) : Type 0 where
  pub keeps : Keeps d
  pub named : IsTable d names table
  pub marked : AreInputs d inputs
