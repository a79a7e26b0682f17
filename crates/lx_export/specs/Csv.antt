-- The map as a table of five columns, one row a line: `csr.csv`.
use Rattle.std.specs.Prelude.{ℕ, List, ◌++◌, codes, decimal, flat_map, length}
use Rattle.std.specs.Fmt.{signed_decimal}
use Rattle.lx_fhdl.specs.declared.places.Numbered.{Numbered}
use Rattle.lx_fhdl.specs.declared.places.Placement.{Placement}
use Rattle.lx_fhdl.specs.declared.places.Region.{Region}
use Rattle.lx_description.specs.declared.modules.ConstDecl.{ConstDecl}
use Rattle.lx_description.specs.declared.modules.ConstValue.{ConstValue}
use Rattle.lx_description.specs.declared.modules.ConstValue.TheVariants as value
use Rattle.lx_csr.specs.Mapped.{base_of}
use Rattle.lx_csr.specs.declared.registers.Register.{Register}
use Rattle.lx_export.specs.Rows.{access_word, address_of, address_text, all_constants, bank_address, by_number, by_origin, lower, window_word}

unfoldable pub bank_row : ℕ → Numbered → List ℕ
bank_row base x = codes "csr_base," ++ x.name ++ codes "," ++ address_text (bank_address base x) ++ codes ",,\n"

-- a register, with the number of its words
unfoldable pub register_row : Register → List ℕ
register_row r =
    codes "csr_register," ++ r.name ++ codes "," ++ address_text (address_of r.words) ++ codes "," ++ decimal (length r.words)
    ++ codes "," ++ access_word r.kind ++ codes "\n"

abbrev pub value_text : ConstValue → List ℕ
value_text (value.Number z) = signed_decimal z
value_text (value.Text bytes) = bytes
value_text value.Nothing = codes "None"

unfoldable pub constant_row : ConstDecl → List ℕ
constant_row c = codes "constant," ++ lower c.name ++ codes "," ++ value_text c.value ++ codes ",,\n"

-- a region, with the bytes that were wished for
unfoldable pub region_row : Region → List ℕ
region_row r =
    codes "memory_region," ++ r.name ++ codes "," ++ address_text r.origin ++ codes "," ++ decimal r.size
    ++ codes "," ++ window_word r.cached ++ codes "\n"

-- banks by number, registers by address, interrupts by number, constants, regions by origin
unfoldable pub csv_text : List Register → Placement → List ConstDecl → List ℕ
csv_text rs p cs =
    flat_map (bank_row (base_of p.regions)) (by_number p.banks) ++ flat_map register_row rs
    ++ flat_map constant_row (all_constants p cs) ++ flat_map region_row (by_origin p.regions)
