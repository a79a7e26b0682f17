-- Systems that run, worked by hand.
use Rattle.std.specs.Prelude.{◌≡◌, ℕ, ℤ, pos, Bool, true, false, List, [], ◌∷◌, ◌++◌, Some, None, nat_eq, if◌then◌else◌, codes, map}
use Rattle.lx_circuit.specs.Places.{Values, At}
use Rattle.lx_circuit.specs.Statements.{Done}
use Rattle.lx_circuit.specs.Circuit.{Made, Circuit, Step}
use Rattle.lx_machine.specs.Map.{CsrWord, CsrOptions, StorageParts, Storage, EventStatus, EventPending, words_of, map_of}
use Rattle.lx_machine.specs.System.{System, SourceKind, Pulse, Rising, Falling, Level}
use Rattle.lx_machine.specs.Views.{first_system}
use Rattle.lx_machine.specs.Access.{Ask, reads_all, writes_all, result_of}
use Rattle.lx_machine.specs.Running.{rounds, state_run, inputs_of, ticks, after_asks, traces_of}
use Rattle.lx_machine.specs.Tiny.{own, other, port, port_signals, usual, csr_region, enable_parts, tiny_source}

-- ---- words

abbrev pub word : ℕ → ℕ → ℕ → CsrWord
word addr low len = record { addr = addr; low = low; len = len }

-- words of 32 bits, the least significant one first; and words of 8 bits
abbrev pub little : CsrOptions
little = record usual { little = true }

abbrev pub narrow : CsrOptions
narrow = record usual { data_width = 8 }

-- what a write accessor of v writes
abbrev pub numbers_of : CsrOptions → ℕ → ℕ → List ℤ
numbers_of o size v = map (λ (q : Ask). q.number) (writes_all v (words_of o size 0xf0000000))

-- ---- one storage alone in bank 0: signal 11 is `storage`, 12 is `re`

abbrev pub alone_parts : Bool → StorageParts
alone_parts atomic = record { reset = 0; atomic = atomic; device = None; shown = Some (record { storage = 11; re = 12; fields = [] }) }

abbrev pub circuit_of : List Made → Circuit
circuit_of more = record {
  signals = port_signals ++ own 1 ∷ more;
  comb = Done;
  domains = record { name = codes "sys"; reset = Some 10; stmts = Done } ∷ [];
  memories = [];
  ports = [];
  ios = 0 ∷ 1 ∷ 2 ∷ 3 ∷ 4 ∷ 5 ∷ 6 ∷ 7 ∷ 8 ∷ 9 ∷ 12 ∷ [];
}

abbrev pub alone : CsrOptions → ℕ → Bool → System
alone o size atomic = record {
  circuit = circuit_of (other size 0 ∷ other 1 0 ∷ []);
  sys = 0;
  port = port;
  registers = map_of o (record { number = 0; registers = record { size = size; kind = Storage (alone_parts atomic) } ∷ [] } ∷ []);
  managers = [];
  regions = csr_region o ∷ [];
}

-- the storage after these accesses from the start
abbrev pub stored_after : System → List Ask → ℕ
stored_after y asks = (after_asks y 4 (first_system y) asks).bus.storage 0

-- what a read accessor of a register at 0xf0000000 returns after these accesses
abbrev pub read_after : System → CsrOptions → ℕ → List Ask → ℕ
read_after y o size asks = result_of y (words_of o size 0xf0000000) (traces_of y 4 (after_asks y 4 (first_system y) asks) (reads_all (words_of o size 0xf0000000)))

abbrev pub write_to : ℕ → ℕ → Ask
write_to addr n = record { addr = addr; writes = true; number = pos n }

abbrev pub read_from : ℕ → Ask
read_from addr = record { addr = addr; writes = false; number = pos 0 }

-- a signal in the last step of an access, after others; `from` is what it reads in the first step
abbrev pub seen_first : System → List Ask → Ask → ℕ → ℤ
seen_first y before q x = rounds y (after_asks y 4 (first_system y) before) (inputs_of y q) 4 (At x)

abbrev pub seen_last : System → List Ask → Ask → ℕ → ℤ
seen_last y before q x =
    rounds y (state_run y 4 (after_asks y 4 (first_system y) before) (ticks y (inputs_of y q) ∷ [])) (inputs_of y q) 4 (At x)

abbrev pub big40 : System
big40 = alone usual 40 false

abbrev pub atomic40 : System
atomic40 = alone usual 40 true

abbrev pub all_of : CsrOptions → ℕ → ℕ → List Ask
all_of o size v = writes_all v (words_of o size 0xf0000000)

pub record StoragesAreWorked : Type 0 where
  -- a storage of 40 bits: its words, and what the write accessor writes
  pub words : words_of usual 40 0xf0000000 ≡ word 0xf0000000 32 8 ∷ word 0xf0000004 0 32 ∷ []
  pub numbers : numbers_of usual 40 0x123456789a ≡ pos 0x12 ∷ pos 0x3456789a ∷ []
  -- between the two writes, and after both; and it reads back whole
  pub between : stored_after big40 (write_to 0xf0000000 0x12 ∷ []) ≡ 0x1200000000
  pub whole : stored_after big40 (all_of usual 40 0x123456789a) ≡ 0x123456789a
  pub read_back : read_after big40 usual 40 (all_of usual 40 0x123456789a) ≡ 0x123456789a
  -- the same storage, atomic
  pub atomic_between : stored_after atomic40 (write_to 0xf0000000 0x12 ∷ []) ≡ 0
  pub atomic_whole : stored_after atomic40 (all_of usual 40 0x123456789a) ≡ 0x123456789a
  -- addresses without a register: acknowledged, nothing is stored, and 0 is read
  pub past_stored : stored_after big40 (write_to 0xf0000008 0x12 ∷ write_to 0xf0000800 0x12 ∷ []) ≡ 0
  pub next_acknowledged : seen_last big40 [] (write_to 0xf0000008 0x12) 7 ≡ pos 1
  pub next_read : seen_last big40 (all_of usual 40 0x123456789a) (read_from 0xf0000008) 6 ≡ pos 0
  pub past_acknowledged : seen_last big40 [] (write_to 0xf0000800 0x12) 7 ≡ pos 1
  pub past_no_error : seen_last big40 [] (write_to 0xf0000800 0x12) 8 ≡ pos 0
  pub past_read : seen_last big40 (all_of usual 40 0x123456789a) (read_from 0xf0000800) 6 ≡ pos 0
  -- addresses of no region
  pub null_error : seen_last big40 [] (read_from 0x7ffffffc) 8 ≡ pos 1
  pub null_no_answer : seen_last big40 [] (read_from 0x7ffffffc) 7 ≡ pos 0
  pub null_word : seen_last big40 [] (read_from 0x7ffffffc) 6 ≡ pos 0xffffffff
  -- before the taking edge nothing is answered
  pub not_yet : seen_first big40 [] (read_from 0xf0000000) 7 ≡ pos 0
  -- a storage of 33 bits: the write accessor, and a write of 3 to the word of its top bit alone
  pub one_over : numbers_of usual 33 0x100000002 ≡ pos 1 ∷ pos 2 ∷ []
  pub top_bit : stored_after (alone usual 33 false) (write_to 0xf0000000 3 ∷ []) ≡ 0x100000000
  -- words of 8 bits: five of them
  pub narrow_words : words_of narrow 40 0xf0000000 ≡ word 0xf0000000 32 8 ∷ word 0xf0000004 24 8 ∷ word 0xf0000008 16 8 ∷ word 0xf000000c 8 8 ∷ word 0xf0000010 0 8 ∷ []
  pub narrow_numbers : numbers_of narrow 40 0x123456789a ≡ pos 0x12 ∷ pos 0x1234 ∷ pos 0x123456 ∷ pos 0x12345678 ∷ pos 0x3456789a ∷ []
  pub narrow_back : read_after (alone narrow 40 false) narrow 40 (all_of narrow 40 0x123456789a) ≡ 0x123456789a
  -- the least significant word first
  pub little_words : words_of little 40 0xf0000000 ≡ word 0xf0000000 0 32 ∷ word 0xf0000004 32 8 ∷ []
  pub little_numbers : numbers_of little 40 0x123456789a ≡ pos 0x3456789a ∷ pos 0x12 ∷ []
  pub little_back : read_after (alone little 40 false) little 40 (all_of little 40 0x123456789a) ≡ 0x123456789a
  -- 12 bits in words of 8: the words read
  pub first_of_twelve : seen_last (alone narrow 12 false) (all_of narrow 12 0xabc) (read_from 0xf0000000) 6 ≡ pos 0x0a
  pub second_of_twelve : seen_last (alone narrow 12 false) (all_of narrow 12 0xabc) (read_from 0xf0000004) 6 ≡ pos 0xbc
  -- `re` is 1 in the clock after the last word was taken, and at no other time
  pub strobe_offered : seen_first big40 (write_to 0xf0000000 0x12 ∷ []) (write_to 0xf0000004 5) 12 ≡ pos 0
  pub strobe_after : seen_last big40 (write_to 0xf0000000 0x12 ∷ []) (write_to 0xf0000004 5) 12 ≡ pos 1
  pub strobe_of_first : seen_last big40 [] (write_to 0xf0000000 0x12) 12 ≡ pos 0
  pub strobe_of_read : seen_last big40 [] (read_from 0xf0000004) 12 ≡ pos 0

-- ---- one event manager alone, with one source: 11 is `irq`, 12 the trigger, 13 `status`, 14 `pending`,
-- and 15 `clear`; its registers stand at 0xf0000000, `pending` at 0xf0000004, `enable` at 0xf0000008

abbrev pub events : SourceKind → System
events kind = record {
  circuit = circuit_of (other 1 0 ∷ own 1 ∷ other 1 0 ∷ other 1 0 ∷ other 1 0 ∷ []);
  sys = 0;
  port = port;
  registers = map_of usual
      (record {
        number = 0;
        registers = record { size = 1; kind = EventStatus 0 } ∷ record { size = 1; kind = EventPending 0 } ∷ record { size = 1; kind = Storage enable_parts } ∷ [];
      } ∷ []);
  managers = record { pending = 1; enable = 2; irq = 11; interrupt = Some 3; sources = tiny_source kind 12 ∷ [] } ∷ [];
  regions = csr_region usual ∷ [];
}

-- inputs with this trigger
abbrev pub with_trigger : ℕ → Values → Values
with_trigger n v (At x) = if nat_eq x 12 then pos n else v (At x)
with_trigger n v p = v p

abbrev pub no_inputs : Values
no_inputs p = pos 0

-- steps in which the bus's domain rises, with these triggers
abbrev pub triggers : SourceKind → List ℕ → List Step
triggers kind [] = []
triggers kind (n ∷ ns) = ticks (events kind) (with_trigger n no_inputs) ∷ triggers kind ns

-- an access of two steps under these two triggers
abbrev pub under : SourceKind → ℕ → ℕ → Ask → List Step
under kind m n q = ticks (events kind) (with_trigger m (inputs_of (events kind) q)) ∷ ticks (events kind) (with_trigger n (inputs_of (events kind) q)) ∷ []

abbrev pub pending_after : SourceKind → List Step → Bool
pending_after kind steps = (state_run (events kind) 4 (first_system (events kind)) steps).bus.pend 0 0

abbrev pub seen_after : SourceKind → List Step → Values → ℕ → ℤ
seen_after kind steps inputs x = rounds (events kind) (state_run (events kind) 4 (first_system (events kind)) steps) inputs 4 (At x)

abbrev pub clear_it : Ask
clear_it = write_to 0xf0000004 1

abbrev pub enable_it : Ask
enable_it = write_to 0xf0000008 1

pub record EventsAreWorked : Type 0 where
  -- a pulse that is pending stays so where it is cleared at an edge at which it fires; one edge later it goes
  pub fired : pending_after Pulse (triggers Pulse (1 ∷ [])) ≡ true
  pub trigger_wins : pending_after Pulse (triggers Pulse (1 ∷ []) ++ under Pulse 1 0 clear_it) ≡ true
  pub cleared : pending_after Pulse (triggers Pulse (1 ∷ []) ++ under Pulse 0 0 clear_it) ≡ false
  -- a write of 0 clears nothing, nor does a write to `enable`
  pub zero_kept : pending_after Pulse (triggers Pulse (1 ∷ []) ++ under Pulse 0 0 (write_to 0xf0000004 0)) ≡ true
  pub other_kept : pending_after Pulse (triggers Pulse (1 ∷ []) ++ under Pulse 0 0 enable_it) ≡ true
  -- `clear` is 1 while the write is offered
  pub clear_shown : seen_after Pulse [] (inputs_of (events Pulse) clear_it) 15 ≡ pos 1
  -- rising and falling triggers; the trigger of the edge before is 0 at the start
  pub rises : pending_after Rising (triggers Rising (0 ∷ 1 ∷ [])) ≡ true
  pub rises_at_once : pending_after Rising (triggers Rising (1 ∷ [])) ≡ true
  pub no_fall : pending_after Rising (triggers Rising (0 ∷ 0 ∷ [])) ≡ false
  pub falls : pending_after Falling (triggers Falling (1 ∷ 0 ∷ [])) ≡ true
  pub no_rise : pending_after Falling (triggers Falling (0 ∷ 1 ∷ [])) ≡ false
  -- a level is pending while its trigger stands, and is not kept
  pub level_shown : seen_after Level [] (with_trigger 1 no_inputs) 14 ≡ pos 1
  pub level_gone : seen_after Level (triggers Level (1 ∷ [])) no_inputs 14 ≡ pos 0
  -- `irq` of the manager and of the port
  pub not_enabled : seen_after Level [] (with_trigger 1 no_inputs) 11 ≡ pos 0
  pub enabled : seen_after Level (under Level 0 0 enable_it) (with_trigger 1 no_inputs) 11 ≡ pos 1
  pub line_three : seen_after Level (under Level 0 0 enable_it) (with_trigger 1 no_inputs) 9 ≡ pos 8
