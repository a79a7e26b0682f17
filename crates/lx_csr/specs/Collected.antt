-- The registers of a system, bank by bank (LiteX's CSR documentation).
use Rattle.std.specs.Prelude.{ℕ, pos, Bool, false, List, [], ◌∷◌, ◌++◌, Option, Some, None, ◌+◌, codes, flat_map, length, slice_get, if◌then◌else◌}
use Rattle.std.specs.List.{list_any}
use Rattle.std.specs.Str.{bytes_eq}
use Rattle.std.proofs.Common.{zero, suc}
use Rattle.lx_num.specs.Ints.{unsigned, wrapped}
use Rattle.lx_fhdl.specs.declared.exprs.SigId.{SigId}
use Rattle.lx_description.specs.declared.registers.Field.{Field}
use Rattle.lx_description.specs.declared.registers.RegKind.{RegKind}
use Rattle.lx_description.specs.declared.registers.RegKind.TheVariants as kind
use Rattle.lx_description.specs.declared.registers.RegDecl.{RegDecl}
use Rattle.lx_description.specs.declared.registers.SourceDecl.{SourceDecl}
use Rattle.lx_description.specs.declared.registers.ManagerDecl.{ManagerDecl}
use Rattle.lx_description.specs.declared.modules.Part.{Part}
use Rattle.lx_description.specs.declared.modules.Part.TheVariants as part
use Rattle.lx_description.specs.declared.modules.ConstDecl.{ConstDecl}
use Rattle.lx_description.specs.declared.modules.ModuleDecl.{ModuleDecl}
use Rattle.lx_description.specs.declared.description.Description.{Description}
use Rattle.lx_csr.specs.Names.{bare, joined}
use Rattle.lx_csr.specs.Places.{follow, words_in}
use Rattle.lx_csr.specs.declared.registers.Register.{Register}
use Rattle.lx_csr.specs.declared.registers.Bank.{Bank}

-- ---- what a module holds

-- an attribute of a module, with the full name of that module
pub record Attribute : Type 0 where
  pub owner : List ℕ
  pub part : Part

abbrev pub attribute_of : List ℕ → Part → Attribute
attribute_of owner p = record { owner = owner; part = p }

-- what a submodule with a name holds, under its full name
abbrev pub named_attributes : (List ℕ → ModuleDecl → List Attribute) → List ℕ → Option ModuleDecl → List Attribute
named_attributes within owner (Some m) = if m.named then within (joined owner m.name) m else []
named_attributes within owner None = []

abbrev pub below : (List ℕ → ModuleDecl → List Attribute) → List ModuleDecl → List ℕ → Part → List Attribute
below within ms owner (part.Module k) = named_attributes within owner (slice_get ms k)
below within ms owner _ = []

-- the attributes of a module with this full name, in order, each submodule followed by its own; so many levels deep
abbrev pub attributes_within : List ModuleDecl → ℕ → List ℕ → ModuleDecl → List Attribute
attributes_within ms zero name m = []
attributes_within ms (suc n) name m = flat_map (λ p. attribute_of name p ∷ below (attributes_within ms n) ms name p) m.parts

-- all of them: a submodule stands behind its module, so there are no more levels than modules
abbrev pub attributes : List ModuleDecl → List ℕ → ModuleDecl → List Attribute
attributes ms name m = attributes_within ms (length ms) name m

-- ---- registers that have no place yet

abbrev pub declared : List ℕ → RegDecl → Register
declared name r = record {
  name = name;
  bank = 0;
  kind = r.kind;
  size = r.size;
  reset = wrapped (unsigned r.size) r.reset;
  atomic = r.atomic;
  from_dev = r.from_dev;
  fields = r.fields;
  words = [];
  signals = r.signals;
  line = r.line;
}

-- a field of one bit for each source, from bit i on
abbrev pub source_fields : ℕ → List SourceDecl → List Field
source_fields i [] = []
source_fields i (s ∷ ss) = record { name = s.name; offset = i; size = 1; reset = pos 0; line = 0 } ∷ source_fields (i + 1) ss

abbrev pub event_register : List ℕ → RegKind → ManagerDecl → List SigId → Register
event_register name k m signals = record {
  name = name;
  bank = 0;
  kind = k;
  size = length m.sources;
  reset = pos 0;
  atomic = false;
  from_dev = false;
  fields = source_fields 0 m.sources;
  words = [];
  signals = signals;
  line = m.line;
}

abbrev pub some_signal : Option SigId → List SigId
some_signal (Some x) = x ∷ []
some_signal None = []

-- signal k of each source: 1 is its `status`, 2 its `pending`, 3 its `clear`
abbrev pub source_signals : ℕ → List SourceDecl → List SigId
source_signals k ss = flat_map (λ (s : SourceDecl). some_signal (slice_get s.signals k)) ss

abbrev pub status_register : List ℕ → ManagerDecl → Register
status_register name m = event_register (joined name (codes "status")) kind.Status m (source_signals 1 m.sources)

abbrev pub pending_register : List ℕ → ManagerDecl → Register
pending_register name m =
    event_register (joined name (codes "pending")) kind.Pending m (source_signals 2 m.sources ++ source_signals 3 m.sources)

abbrev pub enable_register : List ℕ → ManagerDecl → Register
enable_register name m = event_register (joined name (codes "enable")) kind.Storage m (m.enable ∷ [])

-- the registers of an event manager
abbrev pub event_registers : List ℕ → ManagerDecl → List Register
event_registers name m = status_register name m ∷ pending_register name m ∷ enable_register name m ∷ []

abbrev pub part_registers : List ℕ → Part → List Register
part_registers owner (part.Reg r) = declared (joined owner (bare r.name)) r ∷ []
part_registers owner (part.Manager name m) = event_registers (joined owner name) m
part_registers owner _ = []

abbrev pub part_constants : List ℕ → Part → List ConstDecl
part_constants owner (part.Constant c) = record c { name = joined owner (bare c.name) } ∷ []
part_constants owner _ = []

abbrev pub registers_of : List Attribute → List Register
registers_of xs = flat_map (λ (x : Attribute). part_registers x.owner x.part) xs

abbrev pub constants_of : List Attribute → List ConstDecl
constants_of xs = flat_map (λ (x : Attribute). part_constants x.owner x.part) xs

-- ---- peripherals

-- a submodule of the top with a name, or an event manager of the top: its registers, and its constants
pub record Peripheral : Type 0 where
  pub name : List ℕ
  pub registers : List Register
  pub constants : List ConstDecl

abbrev pub events : List ℕ → ManagerDecl → Peripheral
events name m = record { name = name; registers = event_registers name m; constants = [] }

abbrev pub submodule : List ModuleDecl → ModuleDecl → Peripheral
submodule ms m =
    let xs = attributes ms m.name m in
    record { name = m.name; registers = registers_of xs; constants = constants_of xs }

abbrev pub named_peripheral : List ModuleDecl → Option ModuleDecl → List Peripheral
named_peripheral ms (Some m) = if m.named then submodule ms m ∷ [] else []
named_peripheral ms None = []

abbrev pub part_peripheral : List ModuleDecl → Part → List Peripheral
part_peripheral ms (part.Manager name m) = events name m ∷ []
part_peripheral ms (part.Module k) = named_peripheral ms (slice_get ms k)
part_peripheral ms _ = []

abbrev pub parts_of : Option ModuleDecl → List Part
parts_of (Some m) = m.parts
parts_of None = []

-- the attributes of a system's top; those of another top aren't looked at
unfoldable pub top_parts : Description → List Part
top_parts d = if d.soc then parts_of (slice_get d.modules 0) else []

-- The peripherals of a system, in the order of the top's attributes.
abbrev pub peripherals : Description → List Peripheral
peripherals d = flat_map (part_peripheral d.modules) (top_parts d)

-- ---- banks

-- a peripheral with registers is a bank, whose line is that of its first register
abbrev pub bank_of : ℕ → List ℕ → List Register → List Bank
bank_of n name [] = []
bank_of n name (r ∷ rs) =
    record { wish = record { name = name; words = words_in (r ∷ rs); line = r.line }; registers = follow n 0 (r ∷ rs) } ∷ []

-- the banks among these peripherals, the first one being bank n
abbrev pub banks_from : ℕ → List Peripheral → List Bank
banks_from n [] = []
banks_from n (p ∷ ps) =
    let bs = bank_of n p.name p.registers in
    bs ++ banks_from (n + length bs) ps

-- The banks of a system, in declared order, each with its registers from the bank's start on.
abbrev pub banks : Description → List Bank
banks d = banks_from 0 (peripherals d)

-- The constants of a system: those of its peripherals under their full names, then those that the top adds itself.
abbrev pub constants : Description → List ConstDecl
constants d = flat_map (λ (p : Peripheral). p.constants) (peripherals d) ++ (if d.soc then d.constants else [])

-- ---- event managers

abbrev pub is_ev : Part → Bool
is_ev (part.Manager name m) = bytes_eq name (codes "ev")
is_ev _ = false

abbrev pub named_manager : Option ModuleDecl → List (List ℕ)
named_manager (Some m) = if m.named then (if list_any is_ev m.parts then m.name ∷ [] else []) else []
named_manager None = []

abbrev pub part_manager : List ModuleDecl → Part → List (List ℕ)
part_manager ms (part.Module k) = named_manager (slice_get ms k)
part_manager ms _ = []

-- The submodules of the top with a name that have an event manager `ev`, and so an interrupt.
abbrev pub managers : Description → List (List ℕ)
managers d = flat_map (part_manager d.modules) (top_parts d)
