-- The regions as memories of a linker script (GNU ld's command MEMORY): `regions.ld`.
use Rattle.std.specs.Prelude.{ℕ, List, ◌++◌, codes, flat_map}
use Rattle.lx_fhdl.specs.declared.places.Placement.{Placement}
use Rattle.lx_fhdl.specs.declared.places.Region.{Region}
use Rattle.lx_export.specs.Rows.{address_text, by_origin}

-- a region, with the bytes that were wished for
unfoldable pub memory_line : Region → List ℕ
memory_line r = codes "\t" ++ r.name ++ codes " : ORIGIN = " ++ address_text r.origin ++ codes ", LENGTH = " ++ address_text r.size ++ codes "\n"

-- all regions by origin
unfoldable pub ld_text : Placement → List ℕ
ld_text p = codes "MEMORY {\n" ++ flat_map memory_line (by_origin p.regions) ++ codes "}\n"
