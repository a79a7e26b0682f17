-- The system machine: what the bus does, with no bank, decoder or bridge.
use Rattle.std.specs.Prelude.{ℕ, ℤ, pos, Bool, true, false, List, [], ◌∷◌, Option, Some, None, ◌+◌, ◌-◌, ◌*◌, ◌/◌, ◌%◌, ◌^◌, nat_eq, nat_le, nat_lt, not, ◌&&◌, ◌||◌, if◌then◌else◌, slice_get, slice_index_or, length, is_some}
use Rattle.std.proofs.Common.{zero, suc}
use Rattle.lx_num.specs.Ints.{modulo, field_of}
use Rattle.lx_circuit.specs.Values.{count_of, is_zero}
use Rattle.lx_circuit.specs.Statements.{laid_over}
use Rattle.lx_circuit.specs.Memories.{laid_parts}
use Rattle.lx_circuit.specs.Circuit.{is_reset, domain_at}
use Rattle.lx_circuit.specs.Places.{Values, At}
use Rattle.lx_machine.specs.Map.{CsrWord, Device, Kind, Storage, Status, Raw, EventStatus, EventPending, Register}
use Rattle.lx_machine.specs.System.{System, Source, SourceKind, Pulse, Rising, Falling, Level, Manager, Store, Target, Csr, Memory, User, Null, Region}

abbrev pub is_on : Values → ℕ → Bool
is_on v x = not (is_zero (v (At x)))

-- bit k of a number
abbrev pub bit_of : ℤ → ℕ → Bool
bit_of z k = nat_eq (field_of z k 1) 1

-- the number with the bits f 0 to f (n - 1)
abbrev pub number_of : (ℕ → Bool) → ℕ → ℕ
number_of f zero = 0
number_of f (suc n) = number_of f n + (if f n then 2 ^ n else 0)

-- ---- the state of the bus

pub data Phase : Type 0 where
  Idle : Phase
  -- the target's place among the regions, or their number for null; and the word
  Answering : (target word : ℕ) → Phase

-- What is kept of each register, by its place in the map; of each source, by the places of its manager
-- and its own; of each RAM and ROM, by the place of its region and the word's number; and the phase.
pub record Bus : Type 0 where
  pub storage : ℕ → ℕ
  pub buffer : ℕ → ℕ
  pub strobe : ℕ → Bool
  pub pend : ℕ → ℕ → Bool
  pub last : ℕ → ℕ → Bool
  pub ram : ℕ → ℕ → ℕ
  pub phase : Phase

abbrev pub register : System → ℕ → Option Register
register y k = slice_get y.registers k

abbrev pub no_manager : Manager
no_manager = record { pending = 0; enable = 0; irq = 0; interrupt = None; sources = [] }

abbrev pub manager_at : System → ℕ → Manager
manager_at y m = slice_index_or y.managers m no_manager

-- ---- addresses

abbrev pub null_region : Region
null_region = record { origin = 0; rounded = 0; target = Null }

abbrev pub region_at : System → ℕ → Region
region_at y t = slice_index_or y.regions t null_region

abbrev pub holds : Region → ℕ → Bool
holds r a = nat_le r.origin a && nat_lt a (r.origin + r.rounded)

-- the place of the first region that holds the address, or their number; k regions stand before these
abbrev pub place_in : List Region → ℕ → ℕ → ℕ
place_in [] a k = k
place_in (r ∷ rs) a k = if holds r a then k else place_in rs a (k + 1)

abbrev pub place_of : System → ℕ → ℕ
place_of y a = place_in y.regions a 0

-- the target at an address
abbrev pub target_of : System → ℕ → Target
target_of y a = (region_at y (place_of y a)).target

-- the byte address on the bus, and its target's place
abbrev pub address : System → Values → ℕ
address y v = 4 * count_of (v (At y.port.adr))

abbrev pub selected : System → Values → ℕ
selected y v = place_of y (address y v)

abbrev pub target : System → Values → Target
target y v = target_of y (address y v)

-- the first word with the address
abbrev pub word_at : List CsrWord → ℕ → Option CsrWord
word_at [] a = None
word_at (w ∷ ws) a = if nat_eq w.addr a then Some w else word_at ws a

-- no word has a higher address
abbrev pub is_highest : List CsrWord → ℕ → Bool
is_highest [] a = true
is_highest (w ∷ ws) a = nat_le w.addr a && is_highest ws a

-- the address is that of the register's last word
abbrev pub is_last : List CsrWord → ℕ → Bool
is_last ws a = is_some (word_at ws a) && is_highest ws a

-- ---- offers

abbrev pub is_csr : Target → Bool
is_csr Csr = true
is_csr _ = false

abbrev pub is_user : Target → Bool
is_user (User s) = true
is_user _ = false

abbrev pub answers : Phase → ℕ → Bool
answers Idle t = false
answers (Answering t' w) t = nat_eq t' t

abbrev pub in_reset : System → Values → Bool
in_reset y v = is_reset v (domain_at y.circuit y.sys).reset

-- an access stands on the bus
abbrev pub asks : System → Values → Bool
asks y v = not (in_reset y v) && (is_on v y.port.cyc && is_on v y.port.stb)

-- An offer: an access of a target that is idle, whatever domains rise.
abbrev pub offers : System → Bus → Values → Bool
offers y b v = asks y v && (not (is_user (target y v)) && not (answers b.phase (selected y v)))

abbrev pub writes : System → Bus → Values → Bool
writes y b v = offers y b v && is_on v y.port.we

abbrev pub reads : System → Bus → Values → Bool
reads y b v = offers y b v && not (is_on v y.port.we)

-- an offer of a write, or of a read, to a register; `wb_sel` is not looked at
abbrev pub csr_writes : System → Bus → Values → Bool
csr_writes y b v = is_csr (target y v) && writes y b v

abbrev pub csr_reads : System → Bus → Values → Bool
csr_reads y b v = is_csr (target y v) && reads y b v

-- the word of a register to which a write is offered
abbrev pub written_word : System → Bus → Values → Register → Option CsrWord
written_word y b v r = if csr_writes y b v then word_at r.words (address y v) else None

-- ---- sources of events

abbrev pub fires : SourceKind → (trigger last : Bool) → Bool
fires Pulse trigger last = trigger
fires Rising trigger last = trigger && not last
fires Falling trigger last = not trigger && last
fires Level trigger last = false

abbrev pub status_of : SourceKind → (trigger : Bool) → Bool
status_of Pulse trigger = false
status_of _ trigger = trigger

abbrev pub pending_of : SourceKind → (trigger pend : Bool) → Bool
pending_of Level trigger pend = trigger
pending_of _ trigger pend = pend

-- the word holds bit i, and the number on the bus has it
abbrev pub marks : Option CsrWord → ℤ → ℕ → Bool
marks None z i = false
marks (Some w) z i = nat_le w.low i && (nat_lt i (w.low + w.len) && bit_of z (i - w.low))

abbrev pub clears_in : System → Bus → Values → Option Register → ℕ → Bool
clears_in y b v None i = false
clears_in y b v (Some r) i = marks (written_word y b v r) (v (At y.port.dat_w)) i

-- the `clear` of source i of manager m
abbrev pub clears : System → Bus → Values → ℕ → ℕ → Bool
clears y b v m i = clears_in y b v (register y (manager_at y m).pending) i

-- a pending bit after an edge: a trigger wins over a clear
abbrev pub pend_next : (fires clear pend : Bool) → Bool
pend_next fires clear pend = fires || (not clear && pend)

-- ---- words

abbrev pub no_source : Source
no_source = record { kind = Level; trigger = 0; status = 0; pending = 0; clear = 0 }

abbrev pub source_at : System → ℕ → ℕ → Source
source_at y m i = slice_index_or (manager_at y m).sources i no_source

abbrev pub sources_of : System → ℕ → List Source
sources_of y m = (manager_at y m).sources

-- the value of the register at place k, of this kind
abbrev pub value_of : System → Bus → Values → ℕ → Kind → ℤ
value_of y b v k (Storage s) = pos (b.storage k)
value_of y b v k (Status status we) = v (At status)
value_of y b v k (Raw r re we w) = v (At w)
value_of y b v k (EventStatus m) = pos (number_of (λ i. is_on v (source_at y m i).status) (length (sources_of y m)))
value_of y b v k (EventPending m) = pos (number_of (λ i. is_on v (source_at y m i).pending) (length (sources_of y m)))

abbrev pub read_word : ℤ → Option CsrWord → ℕ → ℕ
read_word z None rest = rest
read_word z (Some w) rest = field_of z w.low w.len

-- what is read at an address: the word's bits of its register's value, 0 where there is none
abbrev pub read_at : System → Bus → Values → List Register → ℕ → ℕ → ℕ
read_at y b v [] k a = 0
read_at y b v (r ∷ rs) k a = read_word (value_of y b v k r.kind) (word_at r.words a) (read_at y b v rs (k + 1) a)

-- the number of the word at an address in a region
abbrev pub offset_in : Region → ℕ → ℕ
offset_in r a = (a - r.origin) / 4

-- a word of a RAM or a ROM, 0 past its depth
abbrev pub stored_word : Bus → Store → ℕ → ℕ → ℕ
stored_word b s t n = if nat_lt n s.depth then b.ram t n else 0

-- what a read of this target, at this place, answers
abbrev pub read_of : System → Bus → Values → ℕ → Target → ℕ
read_of y b v t Csr = read_at y b v y.registers 0 (address y v)
read_of y b v t (Memory s) = stored_word b s t (offset_in (region_at y t) (address y v))
read_of y b v t (User s) = 0
read_of y b v t Null = 2 ^ 32 - 1

abbrev pub write_of : Target → ℕ
write_of Null = 2 ^ 32 - 1
write_of _ = 0

-- the word with which an access of the selected target is answered
abbrev pub offer_word : System → Bus → Values → ℕ
offer_word y b v = if is_on v y.port.we then write_of (target y v) else read_of y b v (selected y v) (target y v)

-- ---- an edge of the bus

-- what its device leaves of a storage
abbrev pub device_next : Option Device → ℕ → Values → ℕ → ℕ
device_next None size v old = old
device_next (Some d) size v old = if is_on v d.we then modulo (v (At d.dat_w)) (2 ^ size) else old

-- What a write of a word leaves of a storage: the word is laid over what the device left. Of an atomic
-- storage the last word is laid over the buffer, and no other word changes it.
abbrev pub storage_written : (atomic last : Bool) → (device buffer : ℕ) → Option CsrWord → ℤ → ℕ
storage_written atomic last device buffer None z = device
storage_written false last device buffer (Some w) z = laid_over device w.low w.len z
storage_written true true device buffer (Some w) z = laid_over buffer w.low w.len z
storage_written true false device buffer (Some w) z = device

-- and of the buffer of an atomic storage, which takes all words but the last
abbrev pub buffer_written : (atomic last : Bool) → ℕ → Option CsrWord → ℤ → ℕ
buffer_written atomic last buffer None z = buffer
buffer_written true false buffer (Some w) z = laid_over buffer w.low w.len z
buffer_written _ _ buffer (Some w) z = buffer

abbrev pub is_last_of : System → Values → Register → Bool
is_last_of y v r = is_last r.words (address y v)

abbrev pub storage_of : System → Bus → Values → ℕ → Register → Kind → ℕ
storage_of y b v k r (Storage s) =
    storage_written s.atomic (is_last_of y v r) (device_next s.device r.size v (b.storage k)) (b.buffer k) (written_word y b v r) (v (At y.port.dat_w))
storage_of y b v k r _ = b.storage k

abbrev pub storage_next : System → Bus → Values → ℕ → Option Register → ℕ
storage_next y b v k None = b.storage k
storage_next y b v k (Some r) = storage_of y b v k r r.kind

abbrev pub buffer_of : System → Bus → Values → ℕ → Register → Kind → ℕ
buffer_of y b v k r (Storage s) = buffer_written s.atomic (is_last_of y v r) (b.buffer k) (written_word y b v r) (v (At y.port.dat_w))
buffer_of y b v k r _ = b.buffer k

abbrev pub buffer_next : System → Bus → Values → ℕ → Option Register → ℕ
buffer_next y b v k None = b.buffer k
buffer_next y b v k (Some r) = buffer_of y b v k r r.kind

-- the direction that a register's strobe tells: writes of a storage, reads of a status
abbrev pub tells : System → Bus → Values → Kind → Bool
tells y b v (Storage s) = csr_writes y b v
tells y b v (Status status we) = csr_reads y b v
tells y b v _ = false

abbrev pub strobe_next : System → Bus → Values → Option Register → Bool
strobe_next y b v None = false
strobe_next y b v (Some r) = tells y b v r.kind && is_last_of y v r

abbrev pub takes : Target → ℕ → Bool
takes (Memory s) n = s.writable && nat_lt n s.depth
takes _ n = false

-- a write of word n of the RAM at place t is offered
abbrev pub ram_writes : System → Bus → Values → ℕ → ℕ → Bool
ram_writes y b v t n =
    writes y b v && (nat_eq (selected y v) t && (nat_eq (offset_in (region_at y t) (address y v)) n && takes (target y v) n))

-- the bytes that `wb_sel` marks
abbrev pub ram_next : System → Bus → Values → ℕ → ℕ → ℕ
ram_next y b v t n =
    if ram_writes y b v t n then laid_parts 8 (v (At y.port.sel)) (v (At y.port.dat_w)) (b.ram t n) 4 else b.ram t n

abbrev pub phase_next : System → Bus → Values → Phase
phase_next y b v = if offers y b v then Answering (selected y v) (offer_word y b v) else Idle

abbrev pub source_pend : System → Bus → Values → ℕ → ℕ → Bool
source_pend y b v m i =
    let s = source_at y m i in
    pend_next (fires s.kind (is_on v s.trigger) (b.last m i)) (clears y b v m i) (b.pend m i)

abbrev pub reset_of_kind : ℕ → Kind → ℕ
reset_of_kind size (Storage s) = s.reset % 2 ^ size
reset_of_kind size _ = 0

abbrev pub reset_of : Option Register → ℕ
reset_of None = 0
reset_of (Some r) = reset_of_kind r.size r.kind

-- after an edge
abbrev pub edge : System → Bus → Values → Bus
edge y b v = record {
  storage = λ k. storage_next y b v k (register y k);
  buffer = λ k. buffer_next y b v k (register y k);
  strobe = λ k. strobe_next y b v (register y k);
  pend = λ m i. source_pend y b v m i;
  last = λ m i. is_on v (source_at y m i).trigger;
  ram = λ t n. ram_next y b v t n;
  phase = phase_next y b v;
}

-- after an edge with the reset, which leaves RAM as it is
abbrev pub reset_edge : System → Bus → Bus
reset_edge y b = record {
  storage = λ k. reset_of (register y k);
  buffer = λ k. 0;
  strobe = λ k. false;
  pend = λ m i. false;
  last = λ m i. false;
  ram = b.ram;
  phase = Idle;
}

-- after a step: whether the bus's domain rises, and whether its reset is on
abbrev pub moved : System → Bus → Values → (rises reset : Bool) → Bus
moved y b v false reset = b
moved y b v true true = reset_edge y b
moved y b v true false = edge y b v

abbrev pub bus_next : System → Bus → Values → (ℕ → Bool) → Bus
bus_next y b v rises = moved y b v (rises y.sys) (in_reset y v)

abbrev pub init_of : Target → ℕ → ℕ
init_of (Memory s) n = slice_index_or s.init n 0 % 2 ^ 32
init_of _ n = 0

-- at the start
abbrev pub first_bus : System → Bus
first_bus y = record {
  storage = λ k. reset_of (register y k);
  buffer = λ k. 0;
  strobe = λ k. false;
  pend = λ m i. false;
  last = λ m i. false;
  ram = λ t n. init_of (region_at y t).target n;
  phase = Idle;
}
