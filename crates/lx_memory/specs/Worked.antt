-- Circuits with one port each, worked by hand over three steps, as they stand and lowered.
use Rattle.std.specs.Prelude.{◌≡◌, ℕ, ℤ, pos, true, false, List, [], ◌∷◌, ◌++◌, Option, Some, None, codes, slice_index_or}
use Rattle.std.proofs.Common.{zero, suc}
use Rattle.lx_num.specs.Ints.{unsigned}
use Rattle.lx_tables.specs.declared.operators.Op.TheVariants as op
use Rattle.lx_circuit.specs.Places.{Values, At}
use Rattle.lx_circuit.specs.Terms.{Term, Constant, Signal, Binary, Mux, Fetch}
use Rattle.lx_circuit.specs.Statements.{Block, Done, Assign, Whole}
use Rattle.lx_circuit.specs.Memories.{Mode, Async, WriteFirst, ReadFirst, NoChange, Memory, Port, Writer}
use Rattle.lx_circuit.specs.Circuit.{Circuit, Made, by_place, first_state, next_state}
use Rattle.lx_lowering.specs.Flat.{one, when}
use Rattle.lx_memory.specs.Ports.{lowered}

-- ---- adr is signal 0, dat_r signal 1, dat_w signal 2, we signal 3 with one bit for each part of four; signal 4 is the reset

abbrev pub of_bits : ℕ → Made
of_bits n = record { shape = unsigned n; reset = pos 0; reset_less = false; given = false }

abbrev pub port_signals : List Made
port_signals = of_bits 2 ∷ of_bits 8 ∷ of_bits 8 ∷ of_bits 2 ∷ of_bits 1 ∷ []

-- so many words of eight bits, of which the first are 17 and 44
abbrev pub words : ℕ → Memory
words depth = record { width = 8; depth = depth; init = 17 ∷ 44 ∷ [] }

abbrev pub parts_of_four : Writer
parts_of_four = record { from = 2; we = 3; part = 4 }

abbrev pub port : Mode → Option ℕ → Option Writer → Port
port mode reader writer = record { memory = 0; adr = 0; domain = Some 0; reader = reader; writer = writer; mode = mode }

abbrev pub circuit : List Made → Block → Block → ℕ → List Port → Circuit
circuit more comb sync depth ports = record {
  signals = port_signals ++ more;
  comb = comb;
  domains = record { name = codes "sys"; reset = Some 4; stmts = sync } ∷ [];
  memories = words depth ∷ [];
  ports = ports;
  ios = 0 ∷ 2 ∷ 3 ∷ [];
}

-- a memory with one port that reads and writes
abbrev pub small : ℕ → Mode → Circuit
small depth mode = circuit [] Done Done depth (port mode (Some 1) (Some parts_of_four) ∷ [])

-- and one that is read alone
abbrev pub read_alone : Mode → Circuit
read_alone mode = circuit [] Done Done 3 (port mode (Some 1) None ∷ [])

-- ---- the same lowered, with register 5

abbrev pub small_lowered : ℕ → Mode → List Made → Block → Block → Circuit
small_lowered depth mode more comb sync = circuit more comb sync depth (port mode None (Some parts_of_four) ∷ [])

abbrev pub without_reset : ℕ → Made
without_reset n = record { shape = unsigned n; reset = pos 0; reset_less = true; given = false }

-- the word at a signal of two bits, of three words
abbrev pub guarded : ℕ → Term
guarded x = Mux (Binary op.Lt (Signal x) (Constant (pos 3) (unsigned 2))) (Fetch 0 8 (Signal x)) (Constant (pos 0) (unsigned 8))

abbrev pub assigned : ℕ → Term → Block
assigned x e = one (Assign (Whole x) e)

-- where no bit of we is set
abbrev pub nothing_written : Term
nothing_written = Binary op.Eq (Signal 3) (Constant (pos 0) (unsigned 2))

-- ---- three steps

-- 171 is written to word 1; word 1 is read under a reset; and its lower part is written past the depth
abbrev pub inputs : ℕ → Values
inputs k (At x) = pos (slice_index_or (slice_index_or ((1 ∷ 0 ∷ 171 ∷ 3 ∷ 0 ∷ []) ∷ (1 ∷ 0 ∷ 171 ∷ 0 ∷ 1 ∷ []) ∷ (3 ∷ 0 ∷ 171 ∷ 1 ∷ 0 ∷ []) ∷ []) k []) x 0)
inputs k _ = pos 0

-- in these circuits all is settled after four rounds
abbrev pub settled : Circuit → Values → Values → ℕ → Values
settled c state i zero = state
settled c state i (suc n) = by_place c state i (settled c state i n)

abbrev pub state_after : Circuit → ℕ → Values
state_after c zero = first_state c
state_after c (suc k) = next_state c (state_after c k) (settled c (state_after c k) (inputs k) 4) (λ d. true)

-- a signal after so many steps
abbrev pub after : Circuit → ℕ → ℕ → ℤ
after c x k = settled c (state_after c k) (inputs k) 4 (At x)

-- dat_r after no step, one, two and three
abbrev pub shown : Circuit → List ℤ
shown c = after c 1 0 ∷ after c 1 1 ∷ after c 1 2 ∷ after c 1 3 ∷ []

-- What these are.
pub record AreWorked : Type 0 where
  -- what each mode becomes
  pub async : lowered (small 3 Async) ≡ small_lowered 3 Async [] (assigned 1 (guarded 0)) Done
  pub write_first : lowered (small 3 WriteFirst) ≡ small_lowered 3 WriteFirst (without_reset 2 ∷ []) (assigned 1 (guarded 5)) (assigned 5 (Signal 0))
  pub read_first : lowered (small 3 ReadFirst) ≡ small_lowered 3 ReadFirst (without_reset 8 ∷ []) (assigned 1 (Signal 5)) (assigned 5 (guarded 0))
  pub no_change : lowered (small 3 NoChange) ≡ small_lowered 3 NoChange (without_reset 8 ∷ []) (assigned 1 (Signal 5)) (when nothing_written (assigned 5 (guarded 0)))
  -- every address has a word
  pub four_words : lowered (small 4 Async) ≡ small_lowered 4 Async [] (assigned 1 (Fetch 0 8 (Signal 0))) Done
  -- a port that doesn't write goes, and where nothing is written NO_CHANGE is READ_FIRST
  pub read_alone_goes : lowered (read_alone NoChange) ≡ circuit (without_reset 8 ∷ []) (assigned 1 (Signal 5)) (assigned 5 (guarded 0)) 3 []
  -- what dat_r shows over three steps
  pub async_shown : shown (small 3 Async) ≡ pos 44 ∷ pos 171 ∷ pos 0 ∷ pos 17 ∷ []
  pub write_first_shown : shown (small 3 WriteFirst) ≡ pos 17 ∷ pos 171 ∷ pos 171 ∷ pos 0 ∷ []
  pub read_first_shown : shown (small 3 ReadFirst) ≡ pos 0 ∷ pos 44 ∷ pos 171 ∷ pos 0 ∷ []
  pub no_change_shown : shown (small 3 NoChange) ≡ pos 0 ∷ pos 0 ∷ pos 171 ∷ pos 171 ∷ []
  -- and what it shows lowered
  pub async_lowered : shown (lowered (small 3 Async)) ≡ pos 44 ∷ pos 171 ∷ pos 0 ∷ pos 17 ∷ []
  pub write_first_lowered : shown (lowered (small 3 WriteFirst)) ≡ pos 17 ∷ pos 171 ∷ pos 171 ∷ pos 0 ∷ []
  pub read_first_lowered : shown (lowered (small 3 ReadFirst)) ≡ pos 0 ∷ pos 44 ∷ pos 171 ∷ pos 0 ∷ []
  pub no_change_lowered : shown (lowered (small 3 NoChange)) ≡ pos 0 ∷ pos 0 ∷ pos 171 ∷ pos 171 ∷ []
