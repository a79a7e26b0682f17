-- The register map of a placed system.
use Rattle.std.specs.Prelude.{◌≡◌, ℕ, List, [], ◌∷◌, Option, Some, None, ◌+◌, ◌*◌, ◌≤◌, ◌⊎◌, nat_eq, map, flat_map, length, slice_get, IsSomeAnd, if◌then◌else◌}
use Rattle.std.specs.List.{range_with_len}
use Rattle.lx_fhdl.specs.Keeping.{EachOf}
use Rattle.lx_fhdl.specs.declared.places.BankWish.{BankWish}
use Rattle.lx_fhdl.specs.declared.places.Numbered.{Numbered}
use Rattle.lx_fhdl.specs.declared.places.Placement.{Placement}
use Rattle.lx_fhdl.specs.declared.places.Region.{Region}
use Rattle.lx_fhdl.specs.declared.places.Wishes.{Wishes}
use Rattle.lx_description.specs.Keeping.{IsFirstRegion}
use Rattle.lx_alloc.specs.Answer.{IsPlacement}
use Rattle.lx_csr.specs.declared.registers.WordPlace.{WordPlace}
use Rattle.lx_csr.specs.declared.registers.Register.{Register}
use Rattle.lx_csr.specs.declared.registers.Bank.{Bank}

-- ---- banks

abbrev pub wishes_of : List Bank → List BankWish
wishes_of bs = map (λ (b : Bank). b.wish) bs

-- ---- the map

-- where the registers begin: at the origin of the first region
abbrev pub base_of : List Region → ℕ
base_of [] = 0
base_of (r ∷ rs) = r.origin

-- a register of bank n, which begins at this address
abbrev pub mapped : ℕ → ℕ → Register → Register
mapped start n r = record r { bank = n; words = map (λ (w : WordPlace). record w { addr = start + w.addr }) r.words }

-- the registers of the bank that has this number
abbrev pub numbered : ℕ → List Numbered → List Bank → ℕ → List Register
numbered base (p ∷ ps) (b ∷ bs) n = if nat_eq p.number n then map (mapped (base + 2048 * n) n) b.registers else numbered base ps bs n
numbered base _ _ n = []

abbrev pub registers_of : Option Bank → List Register
registers_of (Some b) = b.registers
registers_of None = []

-- The register map: bank by bank in the order of their numbers, bank n from 0x800 times n past the base on.
unfoldable pub map_of : List Bank → Placement → List Register
map_of bs p = flat_map (numbered (base_of p.regions) p.banks bs) (range_with_len 0 32)

-- the placement is the least one of wishes for these banks; their region is the first
pub record IsHoused (bs : List Bank) (p : Placement) : Type 0 where
  pub wishes : Wishes
  pub banks : wishes.banks ≡ wishes_of bs
  pub region : (length bs ≡ 0) ⊎ IsSomeAnd (slice_get wishes.regions 0) IsFirstRegion
  pub placement : IsPlacement wishes p

-- each word lies in the first 0x800 bytes
abbrev pub IsShort : Register → Type 0
IsShort r = EachOf (λ (w : WordPlace). w.addr + 4 ≤ 2048) r.words

abbrev pub AreShort : List Bank → Type 0
AreShort bs = EachOf (λ (b : Bank). EachOf IsShort b.registers) bs

-- ---- an address

-- word j of register i has the address
pub record IsAt (rs : List Register) (addr i j : ℕ) : Type 0 where
  pub register : Register
  pub is_register : slice_get rs i ≡ Some register
  pub word : WordPlace
  pub is_word : slice_get register.words j ≡ Some word
  pub address : word.addr ≡ addr

-- register and word that have the address, or none has it
abbrev pub Finds : List Register → ℕ → Option (ℕ × ℕ) → Type 0
Finds rs addr (Some at) = IsAt rs addr at.0 at.1
Finds rs addr None = (i j : ℕ) → IsAt rs addr i j → ⊥

-- the word of a register that has the address, or none has it
abbrev pub FindsWord : List WordPlace → ℕ → Option ℕ → Type 0
FindsWord ws addr (Some j) = IsSomeAnd (slice_get ws j) (λ (w : WordPlace). w.addr ≡ addr)
FindsWord ws addr None = (j : ℕ) (w : WordPlace) → slice_get ws j ≡ Some w → w.addr ≡ addr → ⊥
