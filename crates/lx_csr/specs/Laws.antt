-- What holds of the registers of every system.
use Rattle.std.specs.Prelude.{◌≡◌, ℕ, List, Some, ◌+◌, ◌*◌, ◌≤◌, flat_map, slice_get}
use Rattle.lx_fhdl.specs.Keeping.{EachOf}
use Rattle.lx_fhdl.specs.declared.places.Placement.{Placement}
use Rattle.lx_csr.specs.Names.{upper}
use Rattle.lx_csr.specs.Mapped.{base_of}
use Rattle.lx_csr.specs.declared.registers.WordPlace.{WordPlace}
use Rattle.lx_csr.specs.declared.registers.Register.{Register}
use Rattle.lx_csr.specs.declared.registers.Bank.{Bank}

abbrev pub all_registers : List Bank → List Register
all_registers bs = flat_map (λ (b : Bank). b.registers) bs

-- no two registers have names that differ in case alone
abbrev pub AreNamedApart : List Bank → Type 0
AreNamedApart bs =
    (i j : ℕ) (r q : Register) → slice_get (all_registers bs) i ≡ Some r → slice_get (all_registers bs) j ≡ Some q →
    upper r.name ≡ upper q.name → i ≡ j

-- the word lies in the 0x800 bytes of its register's bank
pub record IsInBank (base : ℕ) (r : Register) (w : WordPlace) : Type 0 where
  pub from : base + 2048 * r.bank ≤ w.addr
  pub below : w.addr + 4 ≤ base + 2048 * (r.bank + 1)

-- each word of a register lies in its bank
abbrev pub AreInBanks : Placement → List Register → Type 0
AreInBanks p rs = EachOf (λ (r : Register). EachOf (IsInBank (base_of p.regions) r) r.words) rs
