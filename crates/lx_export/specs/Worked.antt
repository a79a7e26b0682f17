-- The files of systems, worked by hand.
use Rattle.std.specs.Prelude.{◌≡◌, ℕ, pos, negsuc, true, false, List, [], ◌∷◌, ◌++◌, codes}
use Rattle.lx_fhdl.specs.declared.places.Numbered.{Numbered}
use Rattle.lx_fhdl.specs.declared.places.Placement.{Placement}
use Rattle.lx_fhdl.specs.declared.places.Region.{Region}
use Rattle.lx_description.specs.declared.modules.ConstDecl.{ConstDecl}
use Rattle.lx_description.specs.declared.modules.ConstValue.{ConstValue}
use Rattle.lx_description.specs.declared.modules.ConstValue.TheVariants as value
use Rattle.lx_csr.specs.Collected.{banks}
use Rattle.lx_csr.specs.Mapped.{map_of}
use Rattle.lx_csr.specs.Worked.{dev, placed_at, storage, timer_map}
use Rattle.lx_csr.specs.declared.registers.Register.{Register}
use Rattle.lx_export.specs.Csv.{csv_text}
use Rattle.lx_export.specs.Json.{json_text}
use Rattle.lx_export.specs.Ld.{ld_text}
use Rattle.lx_export.specs.Listing.{listing_text}

-- a timer with an interrupt, LEDs and a RAM
abbrev pub timer_placement : Placement
timer_placement = placed_at 0 1

-- the same where the LEDs are bank 2 and the timer is bank 31
abbrev pub moved : Placement
moved = placed_at 31 2

abbrev pub region : List ℕ → ℕ → ℕ → ℕ → Region
region name origin size rounded = record { name = name; origin = origin; size = size; rounded = rounded; cached = true }

abbrev pub csr : Region
csr = record { name = codes "csr"; origin = 0xf0000000; size = 65536; rounded = 65536; cached = false }

abbrev pub numbered : List ℕ → ℕ → Numbered
numbered name number = record { name = name; number = number }

abbrev pub constant : List ℕ → ConstValue → ConstDecl
constant name value = record { name = name; value = value; line = 4 }

-- one bank `dev` with a register of two words
abbrev pub dev_placement : Placement
dev_placement = record { regions = csr ∷ []; banks = numbered (codes "dev") 0 ∷ []; irqs = [] }

abbrev pub dev_map : List Register
dev_map = map_of (banks (dev (storage (codes "x") 40 9 ∷ []))) dev_placement

-- no bank, three regions of which one has no power of two of bytes, two interrupts
abbrev pub sized : Placement
sized = record {
  regions = csr ∷ region (codes "main_ram") 0x40000000 0x1800 0x2000 ∷ region (codes "ROM") 0 6 8 ∷ [];
  banks = [];
  irqs = numbered (codes "Uart") 5 ∷ numbered (codes "timer0") 0 ∷ [];
}

-- constants of each kind
abbrev pub constants : List ConstDecl
constants =
    constant (codes "LOW") (value.Number (negsuc 9223372036854775807))
    ∷ constant (codes "High") (value.Number (pos 18446744073709551615))
    ∷ constant (codes "board") (value.Text (codes "Arty A7"))
    ∷ constant (codes "flag") value.Nothing
    ∷ []

abbrev pub nothing : Placement
nothing = record { regions = []; banks = []; irqs = [] }

pub record CsvIsWorked : Type 0 where
  pub timer : csv_text timer_map timer_placement [] ≡
      codes "csr_base,timer0,0xf0000000,,\n"
      ++ codes "csr_base,leds,0xf0000800,,\n"
      ++ codes "csr_register,timer0_load,0xf0000000,1,rw\n"
      ++ codes "csr_register,timer0_reload,0xf0000004,1,rw\n"
      ++ codes "csr_register,timer0_en,0xf0000008,1,rw\n"
      ++ codes "csr_register,timer0_update_value,0xf000000c,1,rw\n"
      ++ codes "csr_register,timer0_value,0xf0000010,1,ro\n"
      ++ codes "csr_register,timer0_ev_status,0xf0000014,1,ro\n"
      ++ codes "csr_register,timer0_ev_pending,0xf0000018,1,rw\n"
      ++ codes "csr_register,timer0_ev_enable,0xf000001c,1,rw\n"
      ++ codes "csr_register,leds_out,0xf0000800,1,rw\n"
      ++ codes "constant,timer0_interrupt,0,,\n"
      ++ codes "memory_region,sram,0x10000000,8192,cached\n"
      ++ codes "memory_region,csr,0xf0000000,65536,io\n"
  -- the address of two words is that of the first
  pub two_words : csv_text dev_map dev_placement [] ≡
      codes "csr_base,dev,0xf0000000,,\n"
      ++ codes "csr_register,dev_x,0xf0000000,2,rw\n"
      ++ codes "memory_region,csr,0xf0000000,65536,io\n"
  -- interrupts by number, before the other constants; names of constants in lower case; sizes aren't rounded
  pub constants : csv_text [] sized constants ≡
      codes "constant,timer0_interrupt,0,,\n"
      ++ codes "constant,uart_interrupt,5,,\n"
      ++ codes "constant,low,-9223372036854775808,,\n"
      ++ codes "constant,high,18446744073709551615,,\n"
      ++ codes "constant,board,Arty A7,,\n"
      ++ codes "constant,flag,None,,\n"
      ++ codes "memory_region,ROM,0x00000000,6,cached\n"
      ++ codes "memory_region,main_ram,0x40000000,6144,cached\n"
      ++ codes "memory_region,csr,0xf0000000,65536,io\n"
  -- no system
  pub alone : csv_text [] nothing [] ≡ []

pub record JsonIsWorked : Type 0 where
  pub two_words : json_text dev_map dev_placement [] ≡
      codes "{\"constants\":{},\"csr_bases\":{\"dev\":4026531840},"
      ++ codes "\"csr_registers\":{\"dev_x\":{\"addr\":4026531840,\"size\":2,\"type\":\"rw\"}},"
      ++ codes "\"memories\":{\"csr\":{\"base\":4026531840,\"size\":65536,\"type\":\"io\"}}}\n"
  -- keys in the order of their bytes, those of constants in lower case
  pub constants : json_text [] sized constants ≡
      codes "{\"constants\":{\"board\":\"Arty A7\",\"flag\":null,\"high\":18446744073709551615,\"low\":-9223372036854775808,"
      ++ codes "\"timer0_interrupt\":0,\"uart_interrupt\":5},\"csr_bases\":{},\"csr_registers\":{},"
      ++ codes "\"memories\":{\"ROM\":{\"base\":0,\"size\":6,\"type\":\"cached\"},\"csr\":{\"base\":4026531840,\"size\":65536,\"type\":\"io\"},"
      ++ codes "\"main_ram\":{\"base\":1073741824,\"size\":6144,\"type\":\"cached\"}}}\n"
  pub alone : json_text [] nothing [] ≡ codes "{\"constants\":{},\"csr_bases\":{},\"csr_registers\":{},\"memories\":{}}\n"

pub record LdIsWorked : Type 0 where
  pub timer : ld_text timer_placement ≡
      codes "MEMORY {\n"
      ++ codes "\tsram : ORIGIN = 0x10000000, LENGTH = 0x00002000\n"
      ++ codes "\tcsr : ORIGIN = 0xf0000000, LENGTH = 0x00010000\n"
      ++ codes "}\n"
  -- sizes aren't rounded
  pub sized : ld_text sized ≡
      codes "MEMORY {\n"
      ++ codes "\tROM : ORIGIN = 0x00000000, LENGTH = 0x00000006\n"
      ++ codes "\tmain_ram : ORIGIN = 0x40000000, LENGTH = 0x00001800\n"
      ++ codes "\tcsr : ORIGIN = 0xf0000000, LENGTH = 0x00010000\n"
      ++ codes "}\n"
  pub alone : ld_text nothing ≡ codes "MEMORY {\n}\n"

pub record ListingIsWorked : Type 0 where
  pub timer : listing_text timer_map timer_placement ≡
      codes "region 0x10000000 0x00002000 cached sram\n"
      ++ codes "region 0xf0000000 0x00010000 io csr\n"
      ++ codes "bank 0 0xf0000000 timer0\n"
      ++ codes "bank 1 0xf0000800 leds\n"
      ++ codes "register 0xf0000000 32 rw timer0_load\n"
      ++ codes "register 0xf0000004 32 rw timer0_reload\n"
      ++ codes "register 0xf0000008 1 rw timer0_en\n"
      ++ codes "register 0xf000000c 1 rw timer0_update_value\n"
      ++ codes "register 0xf0000010 32 ro timer0_value\n"
      ++ codes "register 0xf0000014 1 ro timer0_ev_status\n"
      ++ codes "register 0xf0000018 1 rw timer0_ev_pending\n"
      ++ codes "register 0xf000001c 1 rw timer0_ev_enable\n"
      ++ codes "register 0xf0000800 8 rw leds_out\n"
      ++ codes "interrupt 0 timer0\n"
  -- banks of other numbers, the later one first
  pub moved : listing_text [] moved ≡
      codes "region 0x10000000 0x00002000 cached sram\n"
      ++ codes "region 0xf0000000 0x00010000 io csr\n"
      ++ codes "bank 2 0xf0001000 leds\n"
      ++ codes "bank 31 0xf000f800 timer0\n"
      ++ codes "interrupt 0 timer0\n"
  -- bits, not words; interrupts by number, by the names of their modules
  pub two_words : listing_text dev_map (record sized { banks = numbered (codes "dev") 0 ∷ [] }) ≡
      codes "region 0x00000000 0x00000006 cached ROM\n"
      ++ codes "region 0x40000000 0x00001800 cached main_ram\n"
      ++ codes "region 0xf0000000 0x00010000 io csr\n"
      ++ codes "bank 0 0xf0000000 dev\n"
      ++ codes "register 0xf0000000 40 rw dev_x\n"
      ++ codes "interrupt 0 timer0\n"
      ++ codes "interrupt 5 Uart\n"
  pub alone : listing_text [] nothing ≡ []
