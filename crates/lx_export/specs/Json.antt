-- The map as an object of JSON (RFC 8259) without blanks, the keys of each object in the order of their bytes: `csr.json`.
use Rattle.std.specs.Prelude.{ℕ, List, [], ◌∷◌, ◌++◌, codes, length, map}
use Rattle.lx_fhdl.specs.declared.places.Numbered.{Numbered}
use Rattle.lx_fhdl.specs.declared.places.Placement.{Placement}
use Rattle.lx_fhdl.specs.declared.places.Region.{Region}
use Rattle.lx_description.specs.declared.modules.ConstDecl.{ConstDecl}
use Rattle.lx_description.specs.declared.modules.ConstValue.{ConstValue}
use Rattle.lx_description.specs.declared.modules.ConstValue.TheVariants as value
use Rattle.lx_csr.specs.Mapped.{base_of}
use Rattle.lx_csr.specs.declared.registers.Register.{Register}
use Rattle.lx_export.specs.Rows.{access_word, address_of, all_constants, bank_address, lower, window_word}
use Rattle.serde_json.specs.Data.{Data, Members, no_members, null, number, object, put, string, unsigned}
use Rattle.serde_json.specs.Find.{of_integer}
use Rattle.serde_json.specs.Written.{compact_text}

-- a member of an object
pub record Entry : Type 0 where
  pub key : List ℕ
  pub held : Data

abbrev pub entry : List ℕ → Data → Entry
entry key held = record { key = key; held = held }

abbrev pub with_entries : Members → List Entry → Members
with_entries ms [] = ms
with_entries ms (e ∷ es) = with_entries (put e.key e.held ms) es

-- the object of these members, sorted by their keys
abbrev pub object_of : List Entry → Data
object_of es = object (with_entries no_members es)

abbrev pub count : ℕ → Data
count n = number (unsigned n)

abbrev pub value_data : ConstValue → Data
value_data (value.Number z) = number (of_integer z)
value_data (value.Text bytes) = string bytes
value_data value.Nothing = null

abbrev pub constant_entry : ConstDecl → Entry
constant_entry c = entry (lower c.name) (value_data c.value)

abbrev pub bank_entry : ℕ → Numbered → Entry
bank_entry base x = entry x.name (count (bank_address base x))

-- a register, with the number of its words
abbrev pub register_entry : Register → Entry
register_entry r = entry r.name (object_of
    (entry (codes "addr") (count (address_of r.words))
    ∷ entry (codes "size") (count (length r.words))
    ∷ entry (codes "type") (string (access_word r.kind))
    ∷ []))

-- a region, with the bytes that were wished for
abbrev pub region_entry : Region → Entry
region_entry r = entry r.name (object_of
    (entry (codes "base") (count r.origin)
    ∷ entry (codes "size") (count r.size)
    ∷ entry (codes "type") (string (window_word r.cached))
    ∷ []))

abbrev pub constants_data : Placement → List ConstDecl → Data
constants_data p cs = object_of (map constant_entry (all_constants p cs))

abbrev pub banks_data : Placement → Data
banks_data p = object_of (map (bank_entry (base_of p.regions)) p.banks)

abbrev pub registers_data : List Register → Data
registers_data rs = object_of (map register_entry rs)

abbrev pub regions_data : Placement → Data
regions_data p = object_of (map region_entry p.regions)

abbrev pub json_data : List Register → Placement → List ConstDecl → Data
json_data rs p cs = object_of
    (entry (codes "constants") (constants_data p cs)
    ∷ entry (codes "csr_bases") (banks_data p)
    ∷ entry (codes "csr_registers") (registers_data rs)
    ∷ entry (codes "memories") (regions_data p)
    ∷ [])

-- the whole text, on one line
unfoldable pub json_text : List Register → Placement → List ConstDecl → List ℕ
json_text rs p cs = compact_text (json_data rs p cs) ++ codes "\n"
