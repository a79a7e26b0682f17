-- What the signals of a system are after any list of steps.
use Rattle.std.specs.Prelude.{◌≡◌, ℕ, ℤ, Bool, true, false, List, [], ◌∷◌, Option, Some, None, ◌<◌}
use Rattle.lx_circuit.specs.Places.{Place, Values, At, Word, Kept}
use Rattle.lx_circuit.specs.Circuit.{Step, by_place, next_state, first_state, is_among}
use Rattle.lx_circuit.specs.Reads.{reads_at}
use Rattle.lx_machine.specs.System.{System}
use Rattle.lx_machine.specs.Bus.{Bus, bus_next, first_bus}
use Rattle.lx_machine.specs.Gives.{Given, given_at, all_given}

-- the state of the description's circuit, and that of the bus
pub record State : Type 0 where
  pub held : Values
  pub bus : Bus

-- what the bus gives, else what the circuit says
abbrev pub given_or : Option Given → Bus → Values → ℤ → ℤ
given_or None b v z = z
given_or (Some g) b v z = g.value b v

abbrev pub given_place : System → Place → Option Given
given_place y (At x) = given_at x (all_given y)
given_place y (Word m k) = None
given_place y (Kept j) = None

abbrev pub by_system : System → State → Values → Values → Place → ℤ
by_system y st inputs v p = given_or (given_place y p) st.bus v (by_place y.circuit st.held inputs v p)

-- Settled: each place is what the bus gives, or what the circuit says, all under the same values.
pub record IsSystemSettled (y : System) (st : State) (inputs v : Values) : Type 0 where
  pub each : (p : Place) → v p ≡ by_system y st inputs v p

abbrev pub system_next : System → State → Values → (ℕ → Bool) → State
system_next y st v rises = record { held = next_state y.circuit st.held v rises; bus = bus_next y st.bus v rises }

abbrev pub first_system : System → State
first_system y = record { held = first_state y.circuit; bus = first_bus y }

-- the values of all places after these steps, under final inputs, from a state
abbrev pub SystemViewFrom : System → State → List Step → Values → Values → Type 0
SystemViewFrom y st [] inputs v = IsSystemSettled y st inputs v
SystemViewFrom y st (t ∷ ts) inputs v =
    (w : Values) × IsSystemSettled y st t.inputs w × SystemViewFrom y (system_next y st w t.rises) ts inputs v

-- The view of a system: its settled values after a list of steps, under final inputs.
abbrev pub IsSystemView : System → List Step → Values → Values → Type 0
IsSystemView y steps inputs v = SystemViewFrom y (first_system y) steps inputs v

-- the settled values of each step, from one state to another
abbrev pub Runs : System → State → List Step → List Values → State → Type 0
Runs y st [] [] new = new ≡ st
Runs y st [] (w ∷ ws) new = ⊥
Runs y st (t ∷ ts) [] new = ⊥
Runs y st (t ∷ ts) (w ∷ ws) new = IsSystemSettled y st t.inputs w × Runs y (system_next y st w t.rises) ts ws new

-- ---- reads

abbrev pub is_signal_of : List ℕ → Place → Bool
is_signal_of xs (At z) = is_among z xs
is_signal_of xs _ = false

abbrev pub reads_of : Option Given → Place → Bool → Bool
reads_of None q read = read
reads_of (Some g) q read = is_signal_of g.reads q

-- place p reads place q in the same moment
abbrev pub system_reads : System → Place → Place → Bool
system_reads y p q = reads_of (given_place y p) q (reads_at y.circuit p q)

-- An order in which each place stands after what it reads, the signals that the bus gives among them.
pub record HasSystemOrder (y : System) : Type 0 where
  pub rank : Place → ℕ
  pub after : (p q : Place) → system_reads y p q ≡ true → rank q < rank p
