-- The map of any banks that fit meets what the laws of accessors ask of a system's registers.
use Rattle.std.specs.Prelude.{◌≡◌, ℕ, true, List, [], ◌∷◌, ◌+◌, ◌*◌, ◌/◌, ◌≤◌}
use Rattle.lx_machine.specs.Map.{CsrOptions, Declared, Bank, word_count, map_of}
use Rattle.lx_machine.specs.System.{System, Region, Csr}
use Rattle.lx_machine.specs.Access.{Each}
use Rattle.lx_machine.specs.Sound.{IsRegister, addresses_of, is_distinct}

-- words of 1 to 32 bits; banks begin at whole words
pub record OptionsFit (o : CsrOptions) : Type 0 where
  pub some : 1 ≤ o.data_width
  pub most : o.data_width ≤ 32
  pub base : o.base ≡ 4 * (o.base / 4)
  pub paging : o.paging ≡ 4 * (o.paging / 4)

abbrev pub bank_words : CsrOptions → List Declared → ℕ
bank_words o [] = 0
bank_words o (d ∷ ds) = word_count o d.size + bank_words o ds

-- a bank of number 0 to 31 has room for its words, and its registers have bits
pub record BankFits (o : CsrOptions) (b : Bank) : Type 0 where
  pub number : b.number ≤ 31
  pub room : 4 * bank_words o b.registers ≤ o.paging
  pub some : Each (λ (d : Declared). 1 ≤ d.size) b.registers

-- the banks stand in order of their numbers, from n on
abbrev pub BanksFit : CsrOptions → ℕ → List Bank → Type 0
BanksFit o n [] = Unit {0}
BanksFit o n (b ∷ bs) = (n ≤ b.number) × BankFits o b × BanksFit o (b.number + 1) bs

-- the region of 32 banks
abbrev pub banks_region : CsrOptions → Region
banks_region o = record { origin = o.base; rounded = 32 * o.paging; target = Csr }

pub record MapsBanks (y : System) (o : CsrOptions) (banks : List Bank) (more : List Region) : Type 0 where
  pub options : OptionsFit o
  pub fit : BanksFit o 0 banks
  pub registers : y.registers ≡ map_of o banks
  pub regions : y.regions ≡ banks_region o ∷ more

-- each register has its words without gaps, and no two words have one address
pub record HasMap (y : System) : Type 0 where
  pub registers : Each (IsRegister y) y.registers
  pub addresses : is_distinct (addresses_of y.registers) ≡ true

-- For every width of words, ordering, paging and base, and all banks that fit.
abbrev pub IsMapLaw : Type 0
IsMapLaw = (y : System) (o : CsrOptions) (banks : List Bank) (more : List Region) → MapsBanks y o banks more → HasMap y
