-- The map for a reader, one part a line.
use Rattle.std.specs.Prelude.{ℕ, List, ◌++◌, codes, decimal, flat_map}
use Rattle.lx_fhdl.specs.declared.places.Numbered.{Numbered}
use Rattle.lx_fhdl.specs.declared.places.Placement.{Placement}
use Rattle.lx_fhdl.specs.declared.places.Region.{Region}
use Rattle.lx_csr.specs.Mapped.{base_of}
use Rattle.lx_csr.specs.declared.registers.Register.{Register}
use Rattle.lx_export.specs.Rows.{access_word, address_of, address_text, bank_address, by_number, by_origin, window_word}

-- a region, with the bytes that were wished for
unfoldable pub region_line : Region → List ℕ
region_line r =
    codes "region " ++ address_text r.origin ++ codes " " ++ address_text r.size ++ codes " " ++ window_word r.cached
    ++ codes " " ++ r.name ++ codes "\n"

unfoldable pub bank_line : ℕ → Numbered → List ℕ
bank_line base x = codes "bank " ++ decimal x.number ++ codes " " ++ address_text (bank_address base x) ++ codes " " ++ x.name ++ codes "\n"

-- a register, with its bits
unfoldable pub register_line : Register → List ℕ
register_line r =
    codes "register " ++ address_text (address_of r.words) ++ codes " " ++ decimal r.size ++ codes " " ++ access_word r.kind
    ++ codes " " ++ r.name ++ codes "\n"

unfoldable pub interrupt_line : Numbered → List ℕ
interrupt_line x = codes "interrupt " ++ decimal x.number ++ codes " " ++ x.name ++ codes "\n"

-- regions by origin, banks by number, registers by address, interrupts by number
unfoldable pub listing_text : List Register → Placement → List ℕ
listing_text rs p =
    flat_map region_line (by_origin p.regions) ++ flat_map (bank_line (base_of p.regions)) (by_number p.banks)
    ++ flat_map register_line rs ++ flat_map interrupt_line (by_number p.irqs)
