-- Register maps and faults worked by hand.
use Rattle.std.specs.Prelude.{◌≡◌, ℕ, pos, true, false, List, [], ◌∷◌, Option, Some, None, codes, map}
use Rattle.lx_fhdl.specs.Instance.{the_signal}
use Rattle.lx_fhdl.specs.declared.exprs.SigId.{SigId}
use Rattle.lx_fhdl.specs.declared.places.Fix.{Fix}
use Rattle.lx_fhdl.specs.declared.places.Placement.{Placement}
use Rattle.lx_fhdl.specs.declared.places.Wishes.{Wishes}
use Rattle.lx_text.specs.declared.faults.Fault.{Fault}
use Rattle.lx_text.specs.declared.faults.Kind.{Kind}
use Rattle.lx_text.specs.declared.faults.Kind.TheVariants as fault
use Rattle.lx_description.specs.Instance.{and_design}
use Rattle.lx_description.specs.declared.registers.Field.{Field}
use Rattle.lx_description.specs.declared.registers.RegKind.{RegKind}
use Rattle.lx_description.specs.declared.registers.RegKind.TheVariants as kind
use Rattle.lx_description.specs.declared.registers.SourceKind.TheVariants as source
use Rattle.lx_description.specs.declared.registers.ManagerDecl.{ManagerDecl}
use Rattle.lx_description.specs.declared.modules.Part.{Part}
use Rattle.lx_description.specs.declared.modules.Part.TheVariants as part
use Rattle.lx_description.specs.declared.modules.ConstDecl.{ConstDecl}
use Rattle.lx_description.specs.declared.modules.ConstValue.TheVariants as value
use Rattle.lx_description.specs.declared.modules.ModuleDecl.{ModuleDecl}
use Rattle.lx_description.specs.declared.description.Description.{Description}
use Rattle.lx_alloc.specs.Judged.{first}
use Rattle.lx_csr.specs.Names.{bare}
use Rattle.lx_csr.specs.Places.{addresses, words_at}
use Rattle.lx_csr.specs.Collected.{banks, constants, managers}
use Rattle.lx_csr.specs.Faults.{faults}
use Rattle.lx_csr.specs.Mapped.{map_of, wishes_of}
use Rattle.lx_csr.specs.declared.registers.WordPlace.{WordPlace}
use Rattle.lx_csr.specs.declared.registers.Register.{Register}
use Rattle.lx_csr.specs.declared.registers.Bank.{Bank}

-- ---- descriptions

abbrev pub wished : List Fix → List Fix → Wishes
wished fixes irqs = record {
  regions =
      record { name = codes "csr"; origin = Some 0xf0000000; size = 65536; cached = false; line = 3 }
      ∷ record { name = codes "sram"; origin = None; size = 8192; cached = true; line = 5 }
      ∷ [];
  banks = [];
  fixes = fixes;
  managers = [];
  irqs = irqs;
}

-- a system of these modules with these wishes and constants
abbrev pub system_of : List ModuleDecl → Wishes → List ConstDecl → Description
system_of ms w cs = record {
  top = codes "Top";
  soc = true;
  design = and_design;
  modules = ms;
  slaves = [];
  wishes = w;
  constants = cs;
  fsm_stmts = [];
  fsms = [];
}

abbrev pub module_of : List ℕ → List Part → ModuleDecl
module_of name parts = record { name = name; named = true; parts = parts }

abbrev pub register_of : List ℕ → RegKind → ℕ → List Field → ℕ → Part
register_of name k size fields at = part.Reg (record {
  name = name;
  kind = k;
  size = size;
  reset = pos 0;
  atomic = false;
  from_dev = false;
  fields = fields;
  signals = [];
  line = at;
})

abbrev pub storage : List ℕ → ℕ → ℕ → Part
storage name size at = register_of name kind.Storage size [] at

-- an event manager with one source
abbrev pub manager : ManagerDecl
manager = record {
  sources =
      record {
        name = codes "zero";
        kind = source.Falling;
        signals = the_signal 20 ∷ the_signal 21 ∷ the_signal 22 ∷ the_signal 23 ∷ [];
      }
      ∷ [];
  irq = the_signal 24;
  enable = the_signal 25;
  line = 12;
}

abbrev pub wish : List ℕ → ℕ → Fix
wish name at = record { name = name; number = None; line = at }

abbrev pub number : List ℕ → ℕ → ConstDecl
number name at = record { name = name; value = value.Number (pos 7); line = at }

abbrev pub number_part : List ℕ → ℕ → Part
number_part name at = part.Constant (number name at)

-- ---- a timer, with LEDs beside

abbrev pub timer : ModuleDecl
timer = module_of (codes "timer0")
    (storage (codes "_load") 32 7
    ∷ storage (codes "_reload") 32 8
    ∷ storage (codes "_en") 1 9
    ∷ storage (codes "_update_value") 1 10
    ∷ register_of (codes "_value") kind.Status 32 [] 11
    ∷ part.Manager (codes "ev") manager
    ∷ [])

abbrev pub leds : ModuleDecl
leds = module_of (codes "leds") (storage (codes "_out") 8 25 ∷ [])

-- the LEDs were made first, but are the second attribute
abbrev pub timer_system : Description
timer_system =
    system_of (module_of (codes "Top") (part.Module 2 ∷ part.Module 1 ∷ []) ∷ leds ∷ timer ∷ []) (wished [] (wish (codes "timer0") 30 ∷ [])) []

-- the banks have these numbers
abbrev pub placed_at : ℕ → ℕ → Placement
placed_at timer_number leds_number = record {
  regions =
      record { name = codes "csr"; origin = 0xf0000000; size = 65536; rounded = 65536; cached = false }
      ∷ record { name = codes "sram"; origin = 0x10000000; size = 8192; rounded = 8192; cached = true }
      ∷ [];
  banks = record { name = codes "timer0"; number = timer_number } ∷ record { name = codes "leds"; number = leds_number } ∷ [];
  irqs = record { name = codes "timer0"; number = 0 } ∷ [];
}

-- a line of the listing of registers: their addresses, bits and name
pub record Listed : Type 0 where
  pub at : List ℕ
  pub bits : ℕ
  pub name : List ℕ

abbrev pub listed : List Register → List Listed
listed rs = map (λ (r : Register). record { at = addresses (r ∷ []); bits = r.size; name = r.name }) rs

abbrev pub line : ℕ → ℕ → List ℕ → Listed
line at bits name = record { at = at ∷ []; bits = bits; name = name }

abbrev pub kinds : List Register → List RegKind
kinds rs = map (λ (r : Register). r.kind) rs

abbrev pub signals : List Register → List (List SigId)
signals rs = map (λ (r : Register). r.signals) rs

abbrev pub names : List Register → List (List ℕ)
names rs = map (λ (r : Register). r.name) rs

abbrev pub timer_map : List Register
timer_map = map_of (banks timer_system) (placed_at 0 1)

abbrev pub word : ℕ → ℕ → ℕ → WordPlace
word addr low len = record { addr = addr; low = low; len = len }

-- ---- systems with one bank `dev`

abbrev pub dev_system : List Part → Wishes → List ConstDecl → Description
dev_system parts w cs = system_of (module_of (codes "Top") (part.Module 1 ∷ []) ∷ module_of (codes "dev") parts ∷ []) w cs

-- a register of these two fields
abbrev pub fields_at : ℕ → ℕ → Part
fields_at a b =
    register_of (codes "x") kind.Storage 12
    (record { name = codes "a"; offset = a; size = 4; reset = pos 0; line = 31 }
    ∷ record { name = codes "b"; offset = b; size = 4; reset = pos 0; line = 32 }
    ∷ [])
    30

-- an attribute of `dev` or two, in a system without wishes
abbrev pub dev : List Part → Description
dev parts = dev_system parts (wished [] []) []

abbrev pub fault_at : ℕ → Kind → Option Fault
fault_at at k = Some (record { line = at; kind = k })

-- ---- what they give

pub record NamesAreWorked : Type 0 where
  pub one : bare (codes "_load") ≡ codes "load"
  pub two : bare (codes "__x_") ≡ codes "x_"
  pub none : bare (codes "x") ≡ codes "x"
  -- nothing, or a digit, would be left
  pub underscores : bare (codes "__") ≡ codes "__"
  pub digit : bare (codes "_1") ≡ codes "_1"

pub record WordsAreWorked : Type 0 where
  pub byte : words_at 8 4 ≡ word 4 0 8 ∷ []
  pub whole : words_at 32 0 ≡ word 0 0 32 ∷ []
  -- the most significant word first
  pub more : words_at 40 0 ≡ word 0 32 8 ∷ word 4 0 32 ∷ []
  pub most : words_at 64 8 ≡ word 8 32 32 ∷ word 12 0 32 ∷ []

pub record MapsAreWorked : Type 0 where
  -- a timer and LEDs
  pub timer : listed timer_map ≡
      line 0xf0000000 32 (codes "timer0_load")
      ∷ line 0xf0000004 32 (codes "timer0_reload")
      ∷ line 0xf0000008 1 (codes "timer0_en")
      ∷ line 0xf000000c 1 (codes "timer0_update_value")
      ∷ line 0xf0000010 32 (codes "timer0_value")
      ∷ line 0xf0000014 1 (codes "timer0_ev_status")
      ∷ line 0xf0000018 1 (codes "timer0_ev_pending")
      ∷ line 0xf000001c 1 (codes "timer0_ev_enable")
      ∷ line 0xf0000800 8 (codes "leds_out")
      ∷ []
  pub kind : kinds timer_map ≡
      kind.Storage ∷ kind.Storage ∷ kind.Storage ∷ kind.Storage ∷ kind.Status
      ∷ kind.Status ∷ kind.Pending ∷ kind.Storage ∷ kind.Storage ∷ []
  pub seen : signals timer_map ≡
      [] ∷ [] ∷ [] ∷ [] ∷ []
      ∷ (the_signal 21 ∷ []) ∷ (the_signal 22 ∷ the_signal 23 ∷ []) ∷ (the_signal 25 ∷ []) ∷ [] ∷ []
  -- banks of other numbers: their registers stand in order of address
  pub other_numbers : listed (map_of (banks timer_system) (placed_at 31 2)) ≡
      line 0xf0001000 8 (codes "leds_out")
      ∷ line 0xf000f800 32 (codes "timer0_load")
      ∷ line 0xf000f804 32 (codes "timer0_reload")
      ∷ line 0xf000f808 1 (codes "timer0_en")
      ∷ line 0xf000f80c 1 (codes "timer0_update_value")
      ∷ line 0xf000f810 32 (codes "timer0_value")
      ∷ line 0xf000f814 1 (codes "timer0_ev_status")
      ∷ line 0xf000f818 1 (codes "timer0_ev_pending")
      ∷ line 0xf000f81c 1 (codes "timer0_ev_enable")
      ∷ []
  -- what the banks wish for, and who has an interrupt
  pub wanted : wishes_of (banks timer_system) ≡
      record { name = codes "timer0"; words = 8; line = 7 } ∷ record { name = codes "leds"; words = 1; line = 25 } ∷ []
  pub interrupts : managers timer_system ≡ codes "timer0" ∷ []
  pub sound : faults timer_system ≡ []

-- the top adds `t`, and a module without a name; `t` has a register, a submodule `sub` with a register and a constant,
-- and one without a name; and an event manager stands in the top itself
abbrev pub nested : Description
nested =
    system_of
    (module_of (codes "Top") (part.Manager (codes "ev") manager ∷ part.Module 1 ∷ number_part (codes "free") 40 ∷ part.Module 4 ∷ [])
    ∷ module_of (codes "t") (part.Module 2 ∷ storage (codes "y") 40 21 ∷ part.Module 3 ∷ [])
    ∷ module_of (codes "sub") (storage (codes "_x") 8 22 ∷ number_part (codes "_limit") 23 ∷ [])
    ∷ record { name = codes "lost"; named = false; parts = storage (codes "z") 8 24 ∷ [] }
    ∷ record { name = codes "gone"; named = false; parts = storage (codes "z") 8 25 ∷ part.Manager (codes "ev") manager ∷ [] }
    ∷ [])
    (wished [] []) (number (codes "limit") 50 ∷ [])

pub record CollectionsAreWorked : Type 0 where
  pub gathered : map (λ (b : Bank). names b.registers) (banks nested) ≡
      (codes "ev_status" ∷ codes "ev_pending" ∷ codes "ev_enable" ∷ []) ∷ (codes "t_sub_x" ∷ codes "t_y" ∷ []) ∷ []
  pub follow : map (λ (b : Bank). addresses b.registers) (banks nested) ≡ (0 ∷ 4 ∷ 8 ∷ []) ∷ (0 ∷ 4 ∷ 8 ∷ []) ∷ []
  pub numbers : constants nested ≡ number (codes "t_sub_limit") 23 ∷ number (codes "limit") 50 ∷ []
  -- the one is the top's, the other that of a module without a name
  pub interrupts : managers nested ≡ []
  pub sound : faults nested ≡ []
  -- no system
  pub alone : banks (record nested { soc = false }) ≡ []
  pub no_constants : constants (record nested { soc = false }) ≡ []

pub record FaultsAreWorked : Type 0 where
  -- a register of the top comes before all
  pub top : first (faults (system_of (module_of (codes "Top") (storage (codes "_a") 8 9 ∷ part.Module 1 ∷ []) ∷ module_of (codes "dev") (fields_at 8 0 ∷ []) ∷ []) (wished [] []) [])) ≡ fault_at 9 (fault.TopRegister (codes "a"))
  -- names that differ in case alone, and in underscores alone
  pub folded : first (faults (dev (storage (codes "x") 8 9 ∷ storage (codes "X") 8 10 ∷ []))) ≡ fault_at 10 (fault.NameTaken (codes "CSR_DEV_X_ADDR"))
  pub underscores : first (faults (dev (storage (codes "_x") 8 9 ∷ storage (codes "x") 8 10 ∷ []))) ≡ fault_at 10 (fault.NameTaken (codes "CSR_DEV_X_ADDR"))
  -- `x_addr` beside `x` is another name
  pub other : faults (dev (storage (codes "x") 8 9 ∷ storage (codes "x_addr") 8 10 ∷ [])) ≡ []
  -- the later name of the list is told, whichever call came first
  pub constant : first (faults (dev_system (storage (codes "x") 8 9 ∷ []) (wished [] []) (number (codes "csr_dev_x_size") 4 ∷ []))) ≡ fault_at 4 (fault.NameTaken (codes "CSR_DEV_X_SIZE"))
  -- a name of the headers themselves, and the region's own
  pub base : first (faults (dev_system [] (wished [] []) (number (codes "csr_base") 41 ∷ []))) ≡ fault_at 41 (fault.NameTaken (codes "CSR_BASE"))
  pub size : first (faults (dev_system [] (wished [] []) (number (codes "csr_size") 41 ∷ []))) ≡ fault_at 3 (fault.NameTaken (codes "CSR_SIZE"))
  -- a word of C in upper case is none
  pub keyword : faults (dev_system [] (wished [] []) (number (codes "int") 41 ∷ [])) ≡ []
  -- wished twice
  pub interrupts : first (faults (dev_system [] (wished [] (wish (codes "t") 30 ∷ wish (codes "t") 31 ∷ [])) [])) ≡ fault_at 31 (fault.NameTaken (codes "T_INTERRUPT"))
  pub numbers : first (faults (dev_system [] (wished (wish (codes "t") 30 ∷ wish (codes "t") 31 ∷ []) []) [])) ≡ fault_at 31 (fault.NameTaken (codes "t"))
  pub apart : faults (dev_system [] (wished (wish (codes "t") 30 ∷ []) (wish (codes "t") 31 ∷ [])) []) ≡ []
  -- a field that begins before the end of an earlier one, below it too
  pub cut : faults (dev (fields_at 0 3 ∷ [])) ≡ record { line = 32; kind = fault.FieldOverlap (codes "a") (codes "b") } ∷ []
  pub below : faults (dev (fields_at 8 0 ∷ [])) ≡ record { line = 32; kind = fault.FieldOverlap (codes "a") (codes "b") } ∷ []
  pub touching : faults (dev (fields_at 0 4 ∷ [])) ≡ []
  -- no system has no fault
  pub alone : faults (record (dev (storage (codes "x") 8 9 ∷ storage (codes "X") 8 10 ∷ [])) { soc = false }) ≡ []
