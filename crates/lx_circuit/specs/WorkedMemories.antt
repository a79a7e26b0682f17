-- A memory with two ports, worked by hand: each mode, parts of words, two writes at once, and what lies past the depth.
use Rattle.std.specs.Prelude.{◌≡◌, ℕ, ℤ, pos, Bool, true, false, [], ◌∷◌, None, Some, nat_eq, slice_index_or, codes}
use Rattle.lx_num.specs.Ints.{unsigned}
use Rattle.lx_circuit.specs.declared.WidthFault.TheVariants.{BadWidth, BadSlice}
use Rattle.lx_circuit.specs.Places.{Values, At, Word, Kept}
use Rattle.lx_circuit.specs.Terms.{Signal, Slice, Fetch}
use Rattle.lx_circuit.specs.Shapes.{shape_of, fault_of}
use Rattle.lx_circuit.specs.Values.{value_of}
use Rattle.lx_circuit.specs.Statements.{Done}
use Rattle.lx_circuit.specs.Memories.{Mode, Async, WriteFirst, ReadFirst, NoChange, Memory, Port}
use Rattle.lx_circuit.specs.Circuit.{Made, Circuit, Input, Read, shapes, role, by_place, next_state, first_state}

abbrev pub bits : ℕ → Made
bits n = record { shape = unsigned n; reset = pos 0; reset_less = false; given = false }

-- three words of eight bits; 300 is 44 modulo 256, and the third word is missing
abbrev pub three_words : Memory
three_words = record { width = 8; depth = 3; init = 17 ∷ 300 ∷ [] }

-- adr is signal 0, dat_r signal 1, dat_w signal 2, and we signal 3, one bit for each part of four
abbrev pub first_port : Mode → Port
first_port mode = record {
  memory = 0;
  adr = 0;
  domain = Some 0;
  reader = Some 1;
  writer = Some (record { from = 2; we = 3; part = 4 });
  mode = mode;
}

-- adr is signal 4, dat_w signal 5, and we signal 6
abbrev pub second_port : Port
second_port = record {
  memory = 0;
  adr = 4;
  domain = Some 0;
  reader = None;
  writer = Some (record { from = 5; we = 6; part = 8 });
  mode = ReadFirst;
}

abbrev pub memory_circuit : Mode → Circuit
memory_circuit mode = record {
  signals = bits 2 ∷ bits 8 ∷ bits 8 ∷ bits 2 ∷ bits 2 ∷ bits 8 ∷ bits 1 ∷ [];
  comb = Done;
  domains = record { name = codes "sys"; reset = None; stmts = Done } ∷ [];
  memories = three_words ∷ [];
  ports = first_port mode ∷ second_port ∷ [];
  ios = 0 ∷ 2 ∷ 3 ∷ 4 ∷ 5 ∷ 6 ∷ [];
}

-- the words are 17, 44 and 5, and each port keeps 2; the first port may write 0xab, and the second 0x55
abbrev pub moment : ℕ → ℕ → ℕ → ℕ → Values
moment adr we adr' we' (At x) = pos (slice_index_or (adr ∷ 0 ∷ 171 ∷ we ∷ adr' ∷ 85 ∷ we' ∷ []) x 0)
moment adr we adr' we' (Word m k) = pos (slice_index_or (17 ∷ 44 ∷ 5 ∷ []) k 0)
moment adr we adr' we' (Kept j) = pos 2

abbrev pub rises : ℕ → Bool
rises d = true

abbrev pub others_rise : ℕ → Bool
others_rise d = nat_eq d 1

-- dat_r at a moment where the first port has this address
abbrev pub now : Mode → ℕ → ℤ
now mode adr = let v = moment adr 0 0 0 in by_place (memory_circuit mode) v v v (At 1)

-- the state after a step, in which the first port has this address and we
abbrev pub stepped : Mode → (ℕ → Bool) → ℕ → ℕ → Values
stepped mode r adr we p = let v = moment adr we 0 0 in next_state (memory_circuit mode) v v r p

-- the settled words, then dat_r, under a state
abbrev pub shown_under : Mode → Values → ℤ
shown_under mode s = by_place (memory_circuit mode) s s (λ p. by_place (memory_circuit mode) s s s p) (At 1)

abbrev pub then_shown : Mode → ℕ → ℕ → ℤ
then_shown mode adr we = shown_under mode (stepped mode rises adr we)

-- a word after a step, in which both ports have these addresses and we
abbrev pub word_after : ℕ → ℕ → ℕ → ℕ → ℕ → ℤ
word_after k adr we adr' we' = let v = moment adr we adr' we' in next_state (memory_circuit Async) v v rises (Word 0 k)

-- What these are.
pub record AreRemembered : Type 0 where
  pub address : role (memory_circuit Async) 0 ≡ Input
  pub data_read : role (memory_circuit Async) 1 ≡ Read 0
  pub first_word : first_state (memory_circuit Async) (Word 0 0) ≡ pos 17
  pub content_modulo : first_state (memory_circuit Async) (Word 0 1) ≡ pos 44
  pub missing_content : first_state (memory_circuit Async) (Word 0 2) ≡ pos 0
  pub first_kept : first_state (memory_circuit WriteFirst) (Kept 0) ≡ pos 0
  pub last_word : by_place (memory_circuit Async) (λ p. pos 99) (λ p. pos 0) (λ p. pos 0) (Word 0 2) ≡ pos 99
  pub past_the_depth : by_place (memory_circuit Async) (λ p. pos 99) (λ p. pos 0) (λ p. pos 0) (Word 0 3) ≡ pos 0
  pub kept_value : by_place (memory_circuit Async) (λ p. pos 99) (λ p. pos 0) (λ p. pos 0) (Kept 0) ≡ pos 99
  -- dat_r at once
  pub async : now Async 1 ≡ pos 44
  pub async_past : now Async 3 ≡ pos 0
  pub at_kept_address : now WriteFirst 1 ≡ pos 5
  pub kept_data : now ReadFirst 1 ≡ pos 2
  pub kept_data_too : now NoChange 1 ≡ pos 2
  -- dat_r after a step that writes the upper part of word 1
  pub async_then : then_shown Async 1 2 ≡ pos 172
  pub new_word : then_shown WriteFirst 1 2 ≡ pos 172
  pub old_word : then_shown ReadFirst 1 2 ≡ pos 44
  pub held : then_shown NoChange 1 2 ≡ pos 2
  pub held_by_one_bit : then_shown NoChange 1 1 ≡ pos 2
  -- and after one that writes nothing
  pub same_word : then_shown WriteFirst 1 0 ≡ pos 44
  pub word_read : then_shown ReadFirst 1 0 ≡ pos 44
  pub word_taken : then_shown NoChange 1 0 ≡ pos 44
  -- past the depth, where all parts are written
  pub past_at_once : then_shown Async 3 3 ≡ pos 0
  pub past_write_first : then_shown WriteFirst 3 3 ≡ pos 0
  pub past_read_first : then_shown ReadFirst 3 3 ≡ pos 0
  -- without a rise of the domain
  pub address_stays : shown_under WriteFirst (stepped WriteFirst others_rise 1 3) ≡ pos 5
  pub data_stays : shown_under ReadFirst (stepped ReadFirst others_rise 1 3) ≡ pos 2
  pub word_stays : stepped ReadFirst others_rise 1 3 (Word 0 1) ≡ pos 44
  -- words after a step
  pub nothing_written : word_after 1 1 0 0 0 ≡ pos 44
  pub all_parts : word_after 1 1 3 0 0 ≡ pos 171
  pub lower_part : word_after 1 1 1 0 0 ≡ pos 43
  pub upper_part : word_after 1 1 2 0 0 ≡ pos 172
  pub other_word : word_after 2 1 3 0 0 ≡ pos 5
  pub beside_the_end : word_after 2 3 3 0 0 ≡ pos 5
  pub later_port_wins : word_after 1 1 3 1 1 ≡ pos 85
  pub earlier_port_alone : word_after 1 1 3 1 0 ≡ pos 171
  pub later_port_alone : word_after 1 1 0 1 1 ≡ pos 85
  pub both_addresses : word_after 2 1 3 2 1 ≡ pos 85
  -- a word in an expression, of which four bits are read in the second
  pub fetched : value_of (shapes (memory_circuit Async)) (moment 1 0 0 0) (Fetch 0 8 (Signal 0)) ≡ pos 44
  pub fetched_bits : value_of (shapes (memory_circuit Async)) (moment 1 0 0 0) (Fetch 0 4 (Signal 0)) ≡ pos 12
  pub fetched_shape : shape_of (shapes (memory_circuit Async)) (Fetch 0 8 (Signal 0)) ≡ unsigned 8
  pub fetched_faultless : fault_of (shapes (memory_circuit Async)) (Fetch 0 8 (Signal 0)) ≡ None
  pub fetched_nothing : fault_of (shapes (memory_circuit Async)) (Fetch 0 0 (Signal 0)) ≡ Some BadWidth
  pub fault_of_index : fault_of (shapes (memory_circuit Async)) (Fetch 0 0 (Slice (Signal 0) 1 1)) ≡ Some BadSlice
