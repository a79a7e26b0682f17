-- The small system, worked by hand: RAM, ROM, a slave, raw registers and statuses; and that it meets every
-- premise of the laws.
use Rattle.std.specs.Prelude.{◌≡◌, ℕ, ℤ, pos, List, [], ◌∷◌, ◌++◌, Some, ◌/◌, ◌%◌, ◌^◌, ◌<◌, nat_eq, if◌then◌else◌, map}
use Rattle.lx_circuit.specs.Places.{Place, Values, At}
use Rattle.lx_circuit.specs.Circuit.{Step}
use Rattle.lx_machine.specs.Map.{CsrWord, Storage, Status, Raw, EventStatus, EventPending, Register, words_of}
use Rattle.lx_machine.specs.Bus.{register, manager_at, word_at}
use Rattle.lx_machine.specs.Maps.{MapsBanks}
use Rattle.lx_machine.specs.Views.{State, first_system, HasSystemOrder}
use Rattle.lx_machine.specs.Access.{Ask, Trace, reads_all, writes_all, result_of}
use Rattle.lx_machine.specs.Running.{rounds, state_run, inputs_of, ticks, access_steps, after_asks, traces_of, values_run}
use Rattle.lx_machine.specs.Sound.{IsSound}
use Rattle.lx_machine.specs.Laws.{CsrRan, RegisterRan}
use Rattle.lx_machine.specs.Tiny.{tiny, tiny_banks, more_regions, usual, plain_parts, atomic_parts, enable_parts}
use Rattle.lx_machine.specs.Worked.{seen_first, seen_last, write_to, read_from}

abbrev pub tiny_start : State
tiny_start = first_system tiny

-- one input is another number
abbrev pub with_input : ℕ → ℕ → Values → Values
with_input x n v (At z) = if nat_eq z x then pos n else v (At z)
with_input x n v p = v p

-- an access under these further inputs, and what a signal is then
abbrev pub access_with : ℕ → ℕ → Ask → List Step
access_with x n q = ticks tiny (with_input x n (inputs_of tiny q)) ∷ ticks tiny (with_input x n (inputs_of tiny q)) ∷ []

abbrev pub state_after : List Step → State
state_after steps = state_run tiny 4 tiny_start steps

abbrev pub seen : List Step → Values → ℕ → ℤ
seen steps inputs x = rounds tiny (state_after steps) inputs 4 (At x)

-- bytes of a word of RAM that `wb_sel`, signal 2, marks
abbrev pub ram_after : ℕ → ℕ
ram_after sel = (state_after (access_with 2 sel (write_to 0x10000000 0xaabbccdd))).bus.ram 1 0

-- one step of an access, and then the address alone
abbrev pub first_step : Ask → List Step
first_step q = ticks tiny (inputs_of tiny q) ∷ []

abbrev pub address_alone : ℕ → Values
address_alone addr p = with_input 0 (addr / 4) (λ q. pos 0) p

-- a step with the reset, signal 10, on
abbrev pub reset_step : Step
reset_step = ticks tiny (with_input 10 1 (λ q. pos 0))

abbrev pub plain_words : List CsrWord
plain_words = words_of usual 40 0xf0000000

abbrev pub atomic_words : List CsrWord
atomic_words = words_of usual 40 0xf0000008

-- the state after the write accessor of a number
abbrev pub wrote_plain : ℕ → State
wrote_plain v = after_asks tiny 4 tiny_start (writes_all v plain_words)

abbrev pub wrote_atomic : ℕ → State
wrote_atomic v = after_asks tiny 4 tiny_start (writes_all v atomic_words)

pub record TinyIsWorked : Type 0 where
  -- RAM: the bytes that are marked, and none; its contents; and past its depth
  pub ram_first : (state_after []).bus.ram 1 0 ≡ 0x11223344
  pub ram_whole : ram_after 15 ≡ 0xaabbccdd
  pub ram_one_byte : ram_after 1 ≡ 0x112233dd
  pub ram_top_byte : ram_after 8 ≡ 0xaa223344
  pub ram_no_byte : ram_after 0 ≡ 0x11223344
  pub ram_read : seen_last tiny [] (read_from 0x10000000) 6 ≡ pos 0x11223344
  pub ram_past : seen_last tiny [] (read_from 0x1000000c) 6 ≡ pos 0
  pub ram_past_acknowledged : seen_last tiny [] (read_from 0x1000000c) 7 ≡ pos 1
  pub rom_read : seen_last tiny [] (read_from 0x20000000) 6 ≡ pos 7
  pub rom_kept : (state_after (access_with 2 15 (write_to 0x20000000 9))).bus.ram 2 0 ≡ 7
  -- a user slave answers by itself, at once, and sees `cyc` only where it is selected
  pub slave_answers : seen_first tiny [] (read_from 0x80000000) 7 ≡ pos 1
  pub slave_word : seen_first tiny [] (read_from 0x80000000) 6 ≡ pos 0x55
  pub slave_cyc : seen_first tiny [] (read_from 0x80000000) 44 ≡ pos 1
  pub slave_other_cyc : seen_first tiny [] (read_from 0x10000000) 44 ≡ pos 0
  pub slave_other_stb : seen_first tiny [] (read_from 0x10000000) 45 ≡ pos 1
  -- a raw register shows a write while it is offered, and not after it was taken; the description keeps it
  pub raw_number : seen_first tiny [] (write_to 0xf0000014 0x15a) 20 ≡ pos 0x5a
  pub raw_written : seen_first tiny [] (write_to 0xf0000014 0x15a) 21 ≡ pos 1
  pub raw_taken : seen_last tiny [] (write_to 0xf0000014 0x15a) 21 ≡ pos 0
  pub raw_kept : seen_last tiny [] (write_to 0xf0000014 0x15a) 51 ≡ pos 0x5a
  pub raw_read : seen_first tiny [] (read_from 0xf0000014) 22 ≡ pos 1
  pub raw_value : seen (access_with 23 0x77 (read_from 0xf0000000)) (address_alone 0) 51 ≡ pos 0
  -- a status's `we` is 1 in the clock after it was read
  pub status_offered : seen_first tiny [] (read_from 0xf0000010) 19 ≡ pos 0
  pub status_read : seen_last tiny [] (read_from 0xf0000010) 19 ≡ pos 1
  pub status_word : seen (ticks tiny (with_input 18 0x3c (inputs_of tiny (read_from 0xf0000010))) ∷ []) (inputs_of tiny (read_from 0xf0000010)) 6 ≡ pos 0x3c
  -- the answer looks at the address alone: with `cyc` taken away it stays, with another region's address it goes
  pub answer_stays : seen (first_step (read_from 0xf0000000)) (address_alone 0xf0000000) 7 ≡ pos 1
  pub answer_goes : seen (first_step (read_from 0xf0000000)) (address_alone 0x10000000) 7 ≡ pos 0
  -- a storage that is collected nowhere keeps its reset value; a field is a slice
  pub nowhere : seen [] (address_alone 0) 50 ≡ pos 5
  pub field : rounds tiny (wrote_plain 0x123456789a) (address_alone 0) 4 (At 13) ≡ pos 0x12
  -- a device's write comes first, and a word is laid over it; into an atomic storage the buffer goes whole
  pub device : (state_after (ticks tiny (with_input 16 1 (with_input 17 0xff (address_alone 0))) ∷ [])).bus.storage 1 ≡ 0xff
  pub device_first_word : (state_after (ticks tiny (with_input 16 1 (with_input 17 0xff (inputs_of tiny (write_to 0xf0000008 0x12)))) ∷ [])).bus.storage 1 ≡ 0xff
  pub device_last_word : (state_after (ticks tiny (with_input 16 1 (with_input 17 0xff (inputs_of tiny (write_to 0xf000000c 0x12)))) ∷ [])).bus.storage 1 ≡ 0x12
  -- a reset edge
  pub reset_value : (state_after (ticks tiny (with_input 16 1 (with_input 17 0xff (address_alone 0))) ∷ reset_step ∷ [])).bus.storage 1 ≡ 7
  pub reset_keeps_ram : (state_after (access_with 2 15 (write_to 0x10000000 0xaabbccdd) ++ reset_step ∷ [])).bus.ram 1 0 ≡ 0xaabbccdd
  -- three accessors
  pub plain_written : (wrote_plain 0x123456789a).bus.storage 0 ≡ 0x123456789a
  pub atomic_written : (wrote_atomic 0x123456789a).bus.storage 1 ≡ 0x123456789a
  pub plain_read : result_of tiny plain_words (traces_of tiny 4 (wrote_plain 0x123456789a) (reads_all plain_words)) ≡ 0x123456789a

-- ---- premises

abbrev pub tiny_trace : Ask → Trace
tiny_trace q = record { from = tiny_start; steps = access_steps tiny q; values = values_run tiny 4 tiny_start (access_steps tiny q) }

-- The small system keeps to the rules, has an order of its reads, and every access and accessor of its
-- registers runs on it: so each law speaks of it, for registers of each kind.
pub record TinyMeetsPremises : Type 0 where
  pub sound : IsSound tiny
  pub order : HasSystemOrder tiny
  pub ranks : (p : Place) → order.rank p < 4
  pub kinds : map (λ (r : Register). r.kind) tiny.registers
      ≡ Storage plain_parts ∷ Storage atomic_parts ∷ Status 18 19 ∷ Raw 20 21 22 23 ∷ EventStatus 0 ∷ EventPending 0 ∷ Storage enable_parts ∷ []
  pub accesses : (k : ℕ) (r : Register) (w : CsrWord) (q : Ask) → register tiny k ≡ Some r → word_at r.words q.addr ≡ Some w
      → CsrRan tiny q (tiny_trace q) (state_run tiny 4 tiny_start (access_steps tiny q))
  pub accessors : (k : ℕ) (r : Register) (asks : List Ask) → register tiny k ≡ Some r
      → RegisterRan tiny k r asks (traces_of tiny 4 tiny_start asks) (after_asks tiny 4 tiny_start asks)
  pub maps : MapsBanks tiny usual tiny_banks more_regions
  pub pending : (manager_at tiny 0).pending ≡ 5
  -- so the laws of accessors hold of it
  pub plain : (v : ℕ) → (wrote_plain v).bus.storage 0 ≡ v % 2 ^ 40
  pub atomic : (v : ℕ) → (wrote_atomic v).bus.storage 1 ≡ v % 2 ^ 40
  pub others : (v : ℕ) → (wrote_plain v).bus.storage 6 ≡ 0
