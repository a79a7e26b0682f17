-- What accesses and accessors do, from every trace that leaves the bus idle.
use Rattle.std.specs.Prelude.{◌≡◌, ◌≢◌, ℕ, ℤ, pos, Bool, true, false, List, [], ◌∷◌, Option, Some, None, ◌+◌, ◌*◌, ◌/◌, ◌%◌, ◌^◌, ◌≤◌, nat_le, nat_lt, not, ◌&&◌, if◌then◌else◌, is_some}
use Rattle.lx_num.specs.Ints.{modulo, field_of}
use Rattle.lx_circuit.specs.Places.{Values, At}
use Rattle.lx_circuit.specs.Values.{flag}
use Rattle.lx_circuit.specs.Statements.{laid_over}
use Rattle.lx_machine.specs.Map.{CsrWord, Shown, StorageParts, Kind, Storage, Status, Raw, Register}
use Rattle.lx_machine.specs.System.{System, Csr}
use Rattle.lx_machine.specs.Bus.{Bus, Idle, is_on, bit_of, register, manager_at, source_at, target_of, word_at, is_last, fires, pend_next, value_of, device_next}
use Rattle.lx_machine.specs.Views.{State, IsSystemSettled}
use Rattle.lx_machine.specs.Access.{Ask, AccessRan, AccessorRan, Trace, Each, until_edge, after_edge, taking, closing, write_ask, reads_all, writes_all, result_of, from_of, IsIdle}
use Rattle.lx_machine.specs.Sound.{IsSound}

-- an access of a register's region that ran from an idle bus in a system that keeps to the rules
pub record CsrRan (y : System) (q : Ask) (t : Trace) (new : State) : Type 0 where
  pub sound : IsSound y
  pub aligned : q.addr ≡ 4 * (q.addr / 4)
  pub csr : target_of y q.addr ≡ Csr
  pub ran : AccessRan y q t new

-- ---- answers

-- the bus acknowledges, with this word
pub record Acknowledges (y : System) (word : ℕ) (v : Values) : Type 0 where
  pub ack : v (At y.port.ack) ≡ pos 1
  pub err : v (At y.port.err) ≡ pos 0
  pub dat_r : v (At y.port.dat_r) ≡ pos word

-- After the taking edge, up to the last step, the access is acknowledged; then the bus is idle again.
abbrev pub IsAnswerLaw : Type 0
IsAnswerLaw = (y : System) (q : Ask) (t : Trace) (new : State) → CsrRan y q t new
    → (word : ℕ) × Each (Acknowledges y word) (after_edge y t.steps t.values) × (new.bus.phase ≡ Idle)

-- ---- one access

-- the word of this register that a write asks for
abbrev pub asked_word : Ask → Register → Option CsrWord
asked_word q r = if q.writes then word_at r.words q.addr else None

-- A storage, and its buffer, over an access. At the taking edge the device's write comes first, and the
-- word that is written is laid over it; in an atomic storage a word that isn't the last goes to the
-- buffer alone, and the last one makes the storage the buffer with this word. At the second edge the
-- device alone writes. A register without the word, and every register over a read, keeps its value but
-- for its device.
abbrev pub written : StorageParts → Register → Ask → Option CsrWord → (device buffer : ℕ) → ℕ
written s r q None device buffer = device
written s r q (Some w) device buffer =
    if s.atomic
    then (if is_last r.words q.addr then laid_over buffer w.low w.len q.number else device)
    else laid_over device w.low w.len q.number

abbrev pub buffered : StorageParts → Register → Ask → Option CsrWord → (buffer : ℕ) → ℕ
buffered s r q None buffer = buffer
buffered s r q (Some w) buffer = if s.atomic && not (is_last r.words q.addr) then laid_over buffer w.low w.len q.number else buffer

-- the storage of register k, with these parts, over the access
abbrev pub over_access : System → StorageParts → Register → Ask → Trace → ℕ → ℕ
over_access y s r q t k =
    device_next s.device r.size (closing t)
    (written s r q (asked_word q r) (device_next s.device r.size (taking y t) (t.from.bus.storage k)) (t.from.bus.buffer k))

pub record IsStorageOver (y : System) (s : StorageParts) (r : Register) (q : Ask) (t : Trace) (new : State) (k : ℕ) : Type 0 where
  pub storage : new.bus.storage k ≡ over_access y s r q t k
  pub buffer : new.bus.buffer k ≡ buffered s r q (asked_word q r) (t.from.bus.buffer k)

-- What laying a word over a register does: the word's bits become those of the number, and no others change.
pub record IsLaidLaw : Type 0 where
  pub word : (p low len : ℕ) (z : ℤ) → field_of (pos (laid_over p low len z)) low len ≡ modulo z (2 ^ len)
  pub below : (p low len : ℕ) (z : ℤ) → laid_over p low len z % 2 ^ low ≡ p % 2 ^ low
  pub above : (p low len : ℕ) (z : ℤ) → laid_over p low len z / 2 ^ (low + len) ≡ p / 2 ^ (low + len)

abbrev pub IsStorageLaw : Type 0
IsStorageLaw = (y : System) (q : Ask) (t : Trace) (new : State) → CsrRan y q t new
    → (k : ℕ) (r : Register) (s : StorageParts) → register y k ≡ Some r → r.kind ≡ Storage s → IsStorageOver y s r q t new k

-- ---- strobes

-- After the taking edge, up to the last step, `re` of a storage is 1 exactly where its last word was
-- written, and `we` of a status exactly where its last word was read.
pub record IsStrobeLaw : Type 0 where
  pub storage : (y : System) (q : Ask) (t : Trace) (new : State) → CsrRan y q t new
      → (k : ℕ) (r : Register) (s : StorageParts) (h : Shown) → register y k ≡ Some r → r.kind ≡ Storage s → s.shown ≡ Some h
      → Each (λ v. v (At h.re) ≡ flag (q.writes && is_last r.words q.addr)) (after_edge y t.steps t.values)
  pub status : (y : System) (q : Ask) (t : Trace) (new : State) → CsrRan y q t new
      → (k : ℕ) (r : Register) (status we : ℕ) → register y k ≡ Some r → r.kind ≡ Status status we
      → Each (λ v. v (At we) ≡ flag (not q.writes && is_last r.words q.addr)) (after_edge y t.steps t.values)

-- ---- events

-- whether source i of manager m fires at an edge, where its trigger was this at the edge before
abbrev pub fires_at : System → ℕ → ℕ → Values → Bool → Bool
fires_at y m i v last = fires (source_at y m i).kind (is_on v (source_at y m i).trigger) last

-- A pending bit over an access that clears it or not: at the taking edge it becomes 1 where its source
-- fires, else 0 where it is cleared, else it holds; at the second edge it becomes 1 where its source
-- fires, else it holds.
abbrev pub pend_over : System → ℕ → ℕ → Trace → (clear : Bool) → Bool
pend_over y m i t clear =
    pend_next (fires_at y m i (closing t) (is_on (taking y t) (source_at y m i).trigger)) false
    (pend_next (fires_at y m i (taking y t) (t.from.bus.last m i)) clear (t.from.bus.pend m i))

-- a write accessor of v to `pending`, of which this access is one word: bit i is marked where the word
-- holds it and v has it
abbrev pub marked : CsrWord → ℕ → ℕ → Bool
marked w v i = nat_le w.low i && (nat_lt i (w.low + w.len) && bit_of (pos v) i)

pub record IsPendingLaw : Type 0 where
  -- an access that writes a word of v to `pending` of manager m
  pub written : (y : System) (v : ℕ) (w : CsrWord) (t : Trace) (new : State) → CsrRan y (write_ask v w) t new
      → (m i k : ℕ) (r : Register) → (manager_at y m).pending ≡ k → register y k ≡ Some r → word_at r.words w.addr ≡ Some w
      → w.len ≤ 32 → new.bus.pend m i ≡ pend_over y m i t (marked w v i)
  -- and every access that doesn't
  pub others : (y : System) (q : Ask) (t : Trace) (new : State) → CsrRan y q t new
      → (m i k : ℕ) (r : Register) → (manager_at y m).pending ≡ k → register y k ≡ Some r → asked_word q r ≡ None
      → new.bus.pend m i ≡ pend_over y m i t false

-- ---- raw registers

-- what a raw register shows while it is written, or read
pub record ShowsAsked (y : System) (size to re we : ℕ) (q : Ask) (v : Values) : Type 0 where
  pub number : q.writes ≡ true → v (At to) ≡ pos (modulo q.number (2 ^ size))
  pub written : v (At re) ≡ flag q.writes
  pub read : v (At we) ≡ flag (not q.writes)

pub record ShowsNothing (re we : ℕ) (v : Values) : Type 0 where
  pub written : v (At re) ≡ pos 0
  pub read : v (At we) ≡ pos 0

-- In every view from the access's first step until its taking edge, and in the views after it up to
-- the last step.
pub record IsRawOver (y : System) (size to re we : ℕ) (q : Ask) (t : Trace) : Type 0 where
  pub until : Each (ShowsAsked y size to re we q) (until_edge y t.steps t.values)
  pub after : Each (ShowsNothing re we) (after_edge y t.steps t.values)

abbrev pub IsRawLaw : Type 0
IsRawLaw = (y : System) (q : Ask) (t : Trace) (new : State) → CsrRan y q t new
    → (k : ℕ) (r : Register) (w : CsrWord) (to re we from : ℕ) → register y k ≡ Some r → r.kind ≡ Raw to re we from → word_at r.words q.addr ≡ Some w
    → IsRawOver y r.size to re we q t

-- ---- nothing else

-- An access of a register changes no word of a RAM. (Storages, buffers and pending bits of other
-- registers: the laws above, without a word.)
abbrev pub IsRamLaw : Type 0
IsRamLaw = (y : System) (q : Ask) (t : Trace) (new : State) → CsrRan y q t new → (place n : ℕ) → new.bus.ram place n ≡ t.from.bus.ram place n

-- ---- accessors

-- an accessor of a register, from every trace that leaves the bus idle
pub record RegisterRan (y : System) (k : ℕ) (r : Register) (asks : List Ask) (ts : List Trace) (new : State) : Type 0 where
  pub sound : IsSound y
  pub is : register y k ≡ Some r
  pub idle : IsIdle y (from_of ts new)
  pub ran : AccessorRan y asks ts new

-- the words' fields of the register's value, each in the view before its taking edge, times 2 to its low bit
abbrev pub fields_of : System → ℕ → Kind → List CsrWord → List Trace → ℕ
fields_of y k kind (w ∷ ws) (t ∷ ts) = field_of (value_of y t.from.bus (taking y t) k kind) w.low w.len * 2 ^ w.low + fields_of y k kind ws ts
fields_of y k kind _ _ = 0

-- A read accessor.
abbrev pub IsReadLaw : Type 0
IsReadLaw = (y : System) (k : ℕ) (r : Register) (ts : List Trace) (new : State) → RegisterRan y k r (reads_all r.words) ts new
    → result_of y r.words ts ≡ fields_of y k r.kind r.words ts

-- the last access
abbrev pub last_trace : Trace → List Trace → Trace
last_trace t [] = t
last_trace t (u ∷ us) = last_trace u us

-- A write accessor of v leaves v, modulo 2 to the register's size, in a storage that no device writes.
abbrev pub IsWriteLaw : Type 0
IsWriteLaw = (y : System) (k v : ℕ) (r : Register) (s : StorageParts) (ts : List Trace) (new : State) → RegisterRan y k r (writes_all v r.words) ts new
    → r.kind ≡ Storage s → s.device ≡ None → new.bus.storage k ≡ v % 2 ^ r.size

-- An atomic storage becomes v as a whole at the last taking edge, whatever its device does before.
abbrev pub IsAtomicLaw : Type 0
IsAtomicLaw = (y : System) (k v : ℕ) (r : Register) (s : StorageParts) (t : Trace) (ts : List Trace) (new : State)
    → RegisterRan y k r (writes_all v r.words) (t ∷ ts) new → r.kind ≡ Storage s → s.atomic ≡ true
    → new.bus.storage k ≡ device_next s.device r.size (closing (last_trace t ts)) (v % 2 ^ r.size)

-- What the description sees of a storage is what is kept of it.
abbrev pub IsShownLaw : Type 0
IsShownLaw = (y : System) → IsSound y → (st : State) (inputs v : Values) → IsSystemSettled y st inputs v
    → (k : ℕ) (r : Register) (s : StorageParts) (h : Shown) → register y k ≡ Some r → r.kind ≡ Storage s → s.shown ≡ Some h
    → (v (At h.storage) ≡ pos (st.bus.storage k)) × (v (At h.re) ≡ flag (st.bus.strobe k))

-- ---- nothing else, over a whole accessor

-- each of these accesses is of a word of the register
abbrev pub AsksOf : Register → List Ask → Type 0
AsksOf r asks = Each (λ (q : Ask). is_some (word_at r.words q.addr) ≡ true) asks

-- each access of an accessor ran from an idle bus
abbrev pub EachRan : System → List Ask → List Trace → State → Type 0
EachRan y [] [] new = Unit {0}
EachRan y [] (t ∷ ts) new = ⊥
EachRan y (q ∷ qs) [] new = ⊥
EachRan y (q ∷ qs) (t ∷ ts) new = CsrRan y q t (from_of ts new) × EachRan y qs ts new

-- So the laws of one access hold of each access of an accessor.
pub record IsEachLaw : Type 0 where
  pub reads : (y : System) (k : ℕ) (r : Register) → IsSound y → register y k ≡ Some r → AsksOf r (reads_all r.words)
  pub writes : (y : System) (k v : ℕ) (r : Register) → IsSound y → register y k ≡ Some r → AsksOf r (writes_all v r.words)
  pub each : (y : System) (k : ℕ) (r : Register) (asks : List Ask) (ts : List Trace) (new : State) → RegisterRan y k r asks ts new → AsksOf r asks → EachRan y asks ts new

-- storage j, with these parts, is as it was, unless its device wrote it
pub record IsKept (s : StorageParts) (j : ℕ) (old new : Bus) : Type 0 where
  pub storage : s.device ≡ None → new.storage j ≡ old.storage j
  pub buffer : new.buffer j ≡ old.buffer j

pub record IsOthersLaw : Type 0 where
  -- an accessor of register k changes no storage of another register
  pub storages : (y : System) (k : ℕ) (r : Register) (asks : List Ask) (ts : List Trace) (new : State) → RegisterRan y k r asks ts new → AsksOf r asks
      → (j : ℕ) (g : Register) (s : StorageParts) → register y j ≡ Some g → g.kind ≡ Storage s → j ≢ k → IsKept s j (from_of ts new).bus new.bus
  -- a read accessor changes none at all
  pub reads : (y : System) (k : ℕ) (r : Register) (ts : List Trace) (new : State) → RegisterRan y k r (reads_all r.words) ts new
      → (j : ℕ) (g : Register) (s : StorageParts) → register y j ≡ Some g → g.kind ≡ Storage s → IsKept s j (from_of ts new).bus new.bus
  -- and no accessor changes a word of a RAM
  pub ram : (y : System) (k : ℕ) (r : Register) (asks : List Ask) (ts : List Trace) (new : State) → RegisterRan y k r asks ts new → AsksOf r asks
      → (place n : ℕ) → new.bus.ram place n ≡ (from_of ts new).bus.ram place n
