-- Circuits with a memory that the laws speak of.
use Rattle.std.specs.Prelude.{◌≡◌, ℕ, pos, true, false, List, [], ◌∷◌, Some, None, codes}
use Rattle.lx_num.specs.Ints.{unsigned}
use Rattle.lx_circuit.specs.Places.{Values, At}
use Rattle.lx_circuit.specs.Terms.{Signal, Fetch}
use Rattle.lx_circuit.specs.Statements.{Done, Then, Assign, Whole}
use Rattle.lx_circuit.specs.Memories.{WriteFirst, ReadFirst, Memory, Port, Writer}
use Rattle.lx_circuit.specs.Circuit.{Made, Circuit, Step, IsView}
use Rattle.lx_circuit.specs.Reads.{HasOrder}
use Rattle.lx_circuit.specs.Fitting.{KeepsShapes, InputsFit, StepsFit}
use Rattle.lx_circuit.specs.WorkedMemories.{memory_circuit, moment, rises}

-- ---- a view

abbrev pub view_circuit : Circuit
view_circuit = memory_circuit WriteFirst

-- one step, in which the first port writes the upper part of word 1
abbrev pub one_step : List Step
one_step = record { inputs = moment 1 2 0 0; rises = rises } ∷ []

-- The reads have an order, signals have a bit, the inputs fit, and dat_r is the word as it was written.
pub record IsMemoryView : Type 0 where
  pub order : HasOrder view_circuit
  pub made : KeepsShapes view_circuit
  pub steps : StepsFit view_circuit one_step
  pub inputs : InputsFit view_circuit (moment 0 0 0 0)
  pub shown : (v : Values) → IsView view_circuit one_step (moment 0 0 0 0) v → v (At 1) ≡ pos 172

-- ---- an extension

abbrev pub of_bits : ℕ → Made
of_bits n = record { shape = unsigned n; reset = pos 0; reset_less = false; given = false }

-- adr, dat_r, dat_w and we of a memory of two words
abbrev pub port_signals : List Made
port_signals = of_bits 1 ∷ of_bits 8 ∷ of_bits 8 ∷ of_bits 1 ∷ []

abbrev pub two_words : Memory
two_words = record { width = 8; depth = 2; init = 17 ∷ 44 ∷ [] }

abbrev pub all_bits : Writer
all_bits = record { from = 2; we = 3; part = 8 }

abbrev pub reading_port : Port
reading_port = record { memory = 0; adr = 0; domain = Some 0; reader = Some 1; writer = Some all_bits; mode = ReadFirst }

abbrev pub writing_port : Port
writing_port = record { memory = 0; adr = 0; domain = Some 0; reader = None; writer = Some all_bits; mode = ReadFirst }

-- dat_r is what a port keeps
abbrev pub reading : Circuit
reading = record {
  signals = port_signals;
  comb = Done;
  domains = record { name = codes "sys"; reset = None; stmts = Done } ∷ [];
  memories = two_words ∷ [];
  ports = reading_port ∷ [];
  ios = 0 ∷ 2 ∷ 3 ∷ [];
}

-- dat_r is a register, signal 4, that takes the word at adr
abbrev pub registered : Circuit
registered = record {
  signals = of_bits 1 ∷ of_bits 8 ∷ of_bits 8 ∷ of_bits 1 ∷ record { shape = unsigned 8; reset = pos 0; reset_less = true; given = false } ∷ [];
  comb = Then (Assign (Whole 1) (Signal 4)) Done;
  domains = record { name = codes "sys"; reset = None; stmts = Then (Assign (Whole 4) (Fetch 0 8 (Signal 0))) Done } ∷ [];
  memories = two_words ∷ [];
  ports = writing_port ∷ [];
  ios = 0 ∷ 2 ∷ 3 ∷ [];
}
