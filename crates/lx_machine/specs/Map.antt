-- A register map: registers, and the words that the bus reaches them by (LiteX, "CSR").
use Rattle.std.specs.Prelude.{ℕ, Bool, List, [], ◌∷◌, ◌++◌, Option, ◌+◌, ◌-◌, ◌*◌, ◌/◌, min, if◌then◌else◌}
use Rattle.std.proofs.Common.{zero, suc}

-- bits low to low + len - 1 of a register, at a byte address
pub record CsrWord : Type 0 where
  pub addr : ℕ
  pub low : ℕ
  pub len : ℕ

-- How a map is laid out: the bits of a word, 1 to 32; whether the least significant word comes first;
-- the bytes of a bank; and the address of bank 0.
pub record CsrOptions : Type 0 where
  pub data_width : ℕ
  pub little : Bool
  pub paging : ℕ
  pub base : ℕ

abbrev pub word_count : CsrOptions → ℕ → ℕ
word_count o size = (size + o.data_width - 1) / o.data_width

-- the low bit of word i of so many
abbrev pub low_bit : CsrOptions → ℕ → ℕ → ℕ
low_bit o count i = if o.little then o.data_width * i else o.data_width * (count - 1 - i)

-- word i of a register of this size that begins at this address
abbrev pub word_of : CsrOptions → ℕ → ℕ → ℕ → CsrWord
word_of o size addr i =
    let low = low_bit o (word_count o size) i in
    record { addr = addr + 4 * i; low = low; len = min o.data_width (size - low) }

-- n words from word i on
abbrev pub words_from : CsrOptions → ℕ → ℕ → ℕ → ℕ → List CsrWord
words_from o size addr i zero = []
words_from o size addr i (suc n) = word_of o size addr i ∷ words_from o size addr (i + 1) n

-- the words of a register of this size that begins at this address, in order of address
abbrev pub words_of : CsrOptions → ℕ → ℕ → List CsrWord
words_of o size addr = words_from o size addr 0 (word_count o size)

-- ---- registers

-- a storage's device port: it takes `dat_w` where `we` is 1
pub record Device : Type 0 where
  pub we : ℕ
  pub dat_w : ℕ

-- a field of a storage as a signal: its bits low to low + len - 1
pub record FieldSignal : Type 0 where
  pub signal : ℕ
  pub low : ℕ
  pub len : ℕ

-- the signals by which the description sees a storage
pub record Shown : Type 0 where
  pub storage : ℕ
  pub re : ℕ
  pub fields : List FieldSignal

pub record StorageParts : Type 0 where
  pub reset : ℕ
  pub atomic : Bool
  pub device : Option Device
  -- `enable` of an event manager is seen by no signal
  pub shown : Option Shown

-- What a register is, with its signals.
pub data Kind : Type 0 where
  Storage : (parts : StorageParts) → Kind
  Status : (status we : ℕ) → Kind
  Raw : (r re we w : ℕ) → Kind
  -- `status` and `pending` of an event manager
  EventStatus : (manager : ℕ) → Kind
  EventPending : (manager : ℕ) → Kind

-- a register of the map: its words in order of address
pub record Register : Type 0 where
  pub size : ℕ
  pub kind : Kind
  pub words : List CsrWord

-- ---- the map of banks

-- a register as it is declared, before it has an address
pub record Declared : Type 0 where
  pub size : ℕ
  pub kind : Kind

pub record Bank : Type 0 where
  pub number : ℕ
  pub registers : List Declared

-- the registers of a bank follow one another from this address on
abbrev pub bank_map : CsrOptions → ℕ → List Declared → List Register
bank_map o addr [] = []
bank_map o addr (d ∷ ds) =
    record { size = d.size; kind = d.kind; words = words_of o d.size addr }
    ∷ bank_map o (addr + 4 * word_count o d.size) ds

-- The map: bank n begins n times the paging past the base.
abbrev pub map_of : CsrOptions → List Bank → List Register
map_of o [] = []
map_of o (b ∷ bs) = bank_map o (o.base + o.paging * b.number) b.registers ++ map_of o bs
