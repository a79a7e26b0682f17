-- Registers and constants while they are gathered.
use Rattle.std.specs.Prelude.{◌≡◌, ℕ, List, [], ◌∷◌, ◌++◌, ◌+◌, ◌*◌, ◌/◌, ◌≤◌, flat_map, length}
use Rattle.lx_fhdl.specs.Keeping.{EachOf}
use Rattle.lx_description.specs.declared.modules.Part.{Part}
use Rattle.lx_description.specs.declared.modules.Part.TheVariants as part
use Rattle.lx_description.specs.declared.description.Description.{Description}
use Rattle.lx_csr.specs.Collected.{Attribute, Peripheral, banks_from, part_constants, part_registers, peripherals}
use Rattle.lx_csr.specs.Places.{follow, words_in}
use Rattle.lx_csr.specs.declared.registers.Register.{Register}
use Rattle.lx_csr.specs.declared.gathering.Gathered.{Gathered}

-- these registers follow
abbrev pub with_registers : Gathered → List Register → Gathered
with_registers g rs = record g {
  registers = g.registers ++ follow (length g.banks) g.next rs;
  next = g.next + 4 * words_in rs;
}

-- the attributes of a module, one after the other
abbrev pub with_part : Gathered → List ℕ → Part → Gathered
with_part g owner p =
    record (with_registers g (part_registers owner p)) { constants = g.constants ++ part_constants owner p }

abbrev pub with_attributes : Gathered → List Attribute → Gathered
with_attributes g [] = g
with_attributes g (x ∷ xs) = with_attributes (with_part g x.owner x.part) xs

-- the peripheral with this name is whole
abbrev pub banked : Gathered → List ℕ → List Register → Gathered
banked g name [] = g
banked g name (r ∷ rs) = record g {
  banks = g.banks ++ record { wish = record { name = name; words = g.next / 4; line = r.line }; registers = r ∷ rs } ∷ [];
  registers = [];
  next = 0;
}

abbrev pub with_bank : Gathered → List ℕ → Gathered
with_bank g name = banked g name g.registers

-- numbers and addresses have room for these registers
pub record HasRoom (g : Gathered) (rs : List Register) : Type 0 where
  pub banks : length g.banks ≤ 1000000
  pub words : g.next + 4 * words_in rs ≤ 64000000

-- a register has 1 to 64 bits, and an event manager at most 32 sources
abbrev pub IsSized : Part → Type 0
IsSized (part.Reg r) = (1 ≤ r.size) × (r.size ≤ 64)
IsSized (part.Manager name m) = length m.sources ≤ 32
IsSized _ = Unit {0}

-- ---- peripherals

-- no peripheral is at hand
pub record IsReady (g : Gathered) : Type 0 where
  pub registers : g.registers ≡ []
  pub next : g.next ≡ 0

abbrev pub with_peripheral : Gathered → Peripheral → Gathered
with_peripheral g p = with_bank (record (with_registers g p.registers) { constants = g.constants ++ p.constants }) p.name

abbrev pub with_peripherals : Gathered → List Peripheral → Gathered
with_peripherals g [] = g
with_peripherals g (p ∷ ps) = with_peripherals (with_peripheral g p) ps

-- what is gathered of these
abbrev pub gathered_of : List Peripheral → Gathered
gathered_of ps = record { banks = banks_from 0 ps; registers = []; next = 0; constants = flat_map (λ (p : Peripheral). p.constants) ps }

-- numbers and addresses have room for each
abbrev pub HaveRoom : Gathered → List Peripheral → Type 0
HaveRoom g ps = EachOf (λ (p : Peripheral). HasRoom g p.registers) ps

-- no more registers than a description may have, and for each peripheral there are addresses
pub record IsRoomy (ps : List Peripheral) : Type 0 where
  pub registers : length (flat_map (λ (p : Peripheral). p.registers) ps) ≤ 1000000
  pub words : EachOf (λ (p : Peripheral). 4 * words_in p.registers ≤ 64000000) ps

-- the peripherals of a system are gathered
abbrev pub IsGathered : Description → Gathered → Type 0
IsGathered d g = g ≡ gathered_of (peripherals d)
