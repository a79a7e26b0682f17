-- The names that the headers of a system define (LiteX's `export`: `csr.h`, `soc.h`, `mem.h`).
use Rattle.std.specs.Prelude.{ℕ, List, [], ◌∷◌, ◌++◌, nat_eq, codes, map, flat_map, if◌then◌else◌}
use Rattle.lx_fhdl.specs.declared.places.Fix.{Fix}
use Rattle.lx_fhdl.specs.declared.places.RegionWish.{RegionWish}
use Rattle.lx_description.specs.declared.registers.Field.{Field}
use Rattle.lx_description.specs.declared.registers.RegKind.{RegKind}
use Rattle.lx_description.specs.declared.registers.RegKind.TheVariants as kind
use Rattle.lx_description.specs.declared.modules.ConstDecl.{ConstDecl}
use Rattle.lx_description.specs.declared.description.Description.{Description}
use Rattle.lx_csr.specs.Names.{csr_macro, joined, plain_macro}
use Rattle.lx_csr.specs.Collected.{banks, constants}
use Rattle.lx_csr.specs.declared.registers.Register.{Register}
use Rattle.lx_csr.specs.declared.registers.Bank.{Bank}
use Rattle.lx_csr.specs.declared.names.Defined.{Defined}

abbrev pub name_of : List ℕ → ℕ → Defined
name_of text line = record { text = text; line = line }

-- the line of a field's call; that of the manager's call where a manager makes it
abbrev pub field_line : ℕ → ℕ → ℕ
field_line register line = if nat_eq line 0 then register else line

abbrev pub field_names : Register → Field → List Defined
field_names r f =
    name_of (csr_macro (joined r.name f.name) (codes "_OFFSET")) (field_line r.line f.line)
    ∷ name_of (csr_macro (joined r.name f.name) (codes "_SIZE")) (field_line r.line f.line)
    ∷ []

-- a status is only read
abbrev pub accessors : RegKind → Register → List Defined
accessors kind.Status r = name_of (r.name ++ codes "_read") r.line ∷ []
accessors _ r = name_of (r.name ++ codes "_read") r.line ∷ name_of (r.name ++ codes "_write") r.line ∷ []

abbrev pub register_names : Register → List Defined
register_names r =
    name_of (csr_macro r.name (codes "_ADDR")) r.line
    ∷ name_of (csr_macro r.name (codes "_SIZE")) r.line
    ∷ (flat_map (field_names r) r.fields ++ accessors r.kind r)

abbrev pub bank_names : Bank → List Defined
bank_names b = name_of (csr_macro b.wish.name (codes "_BASE")) b.wish.line ∷ flat_map register_names b.registers

abbrev pub interrupt_name : Fix → Defined
interrupt_name f = name_of (plain_macro f.name (codes "_INTERRUPT")) f.line

abbrev pub constant_name : ConstDecl → Defined
constant_name c = name_of (plain_macro c.name []) c.line

abbrev pub size_name : RegionWish → Defined
size_name w = name_of (plain_macro w.name (codes "_SIZE")) w.line

abbrev pub region_names : RegionWish → List Defined
region_names w = name_of (plain_macro w.name (codes "_BASE")) w.line ∷ size_name w ∷ []

-- the first region is `csr`, whose `CSR_BASE` is a name of the headers themselves
abbrev pub all_region_names : List RegionWish → List Defined
all_region_names [] = []
all_region_names (w ∷ ws) = size_name w ∷ flat_map region_names ws

-- The names that the headers define: bank by bank in declared order, then interrupts, constants and regions.
unfoldable pub header_names : Description → List Defined
header_names d =
    flat_map bank_names (banks d)
    ++ (map interrupt_name d.wishes.irqs ++ (map constant_name (constants d) ++ all_region_names d.wishes.regions))

-- the name for which a bank's number is wished
abbrev pub fix_name : Fix → Defined
fix_name f = name_of f.name f.line

abbrev pub wish_names : Description → List Defined
wish_names d = map fix_name d.wishes.fixes
