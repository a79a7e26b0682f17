-- Where the words of registers stand.
use Rattle.std.specs.Prelude.{ℕ, false, List, [], ◌∷◌, ◌+◌, ◌*◌, ◌≤◌, map, flat_map}
use Rattle.lx_fhdl.specs.Keeping.{EachOf}
use Rattle.lx_machine.specs.Map.{CsrOptions, CsrWord, word_count, words_of}
use Rattle.lx_csr.specs.declared.registers.WordPlace.{WordPlace}
use Rattle.lx_csr.specs.declared.registers.Register.{Register}
use Rattle.lx_csr.specs.declared.registers.Bank.{Bank}

-- words of 32 bits, the most significant word of a register first; banks of 0x800 bytes (LiteX's `csr_data_width`,
-- `csr_ordering` and `csr_paging`)
abbrev pub options : CsrOptions
options = record { data_width = 32; little = false; paging = 2048; base = 0 }

-- how many words a register of this size has
abbrev pub word_count_of : ℕ → ℕ
word_count_of size = word_count options size

abbrev pub word_place : CsrWord → WordPlace
word_place w = record { addr = w.addr; low = w.low; len = w.len }

-- the words of a register of this size, which begins at this address
abbrev pub words_at : ℕ → ℕ → List WordPlace
words_at size addr = map word_place (words_of options size addr)

-- the register in a bank, from this address on
abbrev pub placed : ℕ → ℕ → Register → Register
placed bank addr r = record r { bank = bank; words = words_at r.size addr }

-- registers of a bank, one after the other from this address on
abbrev pub follow : ℕ → ℕ → List Register → List Register
follow bank addr [] = []
follow bank addr (r ∷ rs) = placed bank addr r ∷ follow bank (addr + 4 * word_count_of r.size) rs

-- how many words they have together
abbrev pub words_in : List Register → ℕ
words_in [] = 0
words_in (r ∷ rs) = word_count_of r.size + words_in rs

-- the addresses of all words of registers
abbrev pub addresses : List Register → List ℕ
addresses rs = flat_map (λ (r : Register). map (λ (w : WordPlace). w.addr) r.words) rs

-- words of four bytes at these addresses rise: each begins behind the one before, none below `low`, and all end at
-- `high` or before
abbrev pub Rise : ℕ → ℕ → List ℕ → Type 0
Rise low high [] = low ≤ high
Rise low high (a ∷ rest) = (low ≤ a) × Rise (a + 4) high rest

-- the addresses of a bank's words rise from its start on, and there are as many words as it wishes for
abbrev pub IsBank : Bank → Type 0
IsBank b = Rise 0 (4 * b.wish.words) (addresses b.registers)

-- What the banks of a system keep.
abbrev pub AreBanks : List Bank → Type 0
AreBanks bs = EachOf IsBank bs

-- What a register map keeps: the addresses of its words rise, so no two words have one address.
abbrev pub IsMap : List Register → Type 0
IsMap rs = Rise 0 4294967296 (addresses rs)
