-- Files of several parts, one after the other.
use Rattle.std.proofs.Common.{◌≡◌, ℕ, List, [], ◌++◌, false, map, ap, ◌∙◌, append_assoc}
use Rattle.std.specs.Prelude.{codes, flat_map}
use Rattle.std.proofs.lemmas.Grind.{flat_map-append}
use Rattle.lx_fhdl.specs.declared.places.Numbered.{Numbered}
use Rattle.lx_fhdl.specs.declared.places.Placement.{Placement}
use Rattle.lx_fhdl.specs.declared.places.Region.{Region}
use Rattle.lx_description.specs.declared.modules.ConstDecl.{ConstDecl}
use Rattle.lx_csr.specs.Mapped.{base_of}
use Rattle.lx_csr.specs.declared.registers.Register.{Register}
use Rattle.lx_export.specs.Rows.{by_number, by_origin, interrupt_constant}
use Rattle.serde_json.specs.Data.{Data, Members, no_members, object, put}
use Rattle.serde_json.specs.Written.{compact_text, has_float}
use Rattle.lx_export.specs.Csv.{bank_row, constant_row, csv_text, region_row, register_row}
use Rattle.lx_export.specs.Json.{banks_data, constants_data, json_data, json_text, regions_data, registers_data}
use Rattle.lx_export.specs.Listing.{bank_line, interrupt_line, listing_text, region_line, register_line}
use Rattle.lx_export.proofs.Joined.{json_plain}

-- banks, registers, interrupts, constants and regions are the table
pub csv_joined : (rs : List Register) (p : Placement) (cs : List ConstDecl) (base : ℕ) (banks : List Numbered) (registers : List Register)
    (interrupts constants : List ConstDecl) (regions : List Region) (a b c d e f : List ℕ) →
    base ≡ base_of p.regions → banks ≡ by_number p.banks → registers ≡ rs → interrupts ≡ map interrupt_constant (by_number p.irqs) → constants ≡ cs → regions ≡ by_origin p.regions →
    a ≡ [] → b ≡ a ++ flat_map (bank_row base) banks → c ≡ b ++ flat_map register_row registers → d ≡ c ++ flat_map constant_row interrupts →
    e ≡ d ++ flat_map constant_row constants → f ≡ e ++ flat_map region_row regions → f ≡ csv_text rs p cs
unfolding csv_text
csv_joined rs p cs base banks registers interrupts constants regions a b c d e f hb hn hr hi hc ho ha h1 h2 h3 h4 h5 =
    rw (h5, h4, h3, h2, h1, ha, hb, hn, hr, hi, hc, ho) (simp (flat_map-append, append_assoc))

-- regions, banks, registers and interrupts are the listing
pub listing_joined : (rs : List Register) (p : Placement) (base : ℕ) (regions : List Region) (banks : List Numbered) (registers : List Register) (interrupts : List Numbered)
    (a b c d e : List ℕ) →
    base ≡ base_of p.regions → regions ≡ by_origin p.regions → banks ≡ by_number p.banks → registers ≡ rs → interrupts ≡ by_number p.irqs →
    a ≡ [] → b ≡ a ++ flat_map region_line regions → c ≡ b ++ flat_map (bank_line base) banks → d ≡ c ++ flat_map register_line registers →
    e ≡ d ++ flat_map interrupt_line interrupts → e ≡ listing_text rs p
unfolding listing_text
listing_joined rs p base regions banks registers interrupts a b c d e hb ho hn hr hi ha h1 h2 h3 h4 =
    rw (h4, h3, h2, h1, ha, hb, ho, hn, hr, hi) (simp append_assoc)

-- the text of an object without a float, and the end of its line
pub json_joined : (rs : List Register) (p : Placement) (cs : List ConstDecl) (d : Data) (t a b e : List ℕ) →
    d ≡ json_data rs p cs → (has_float d ≡ false → t ≡ compact_text d) → a ≡ [] → b ≡ a ++ t → e ≡ b ++ codes "\n" → e ≡ json_text rs p cs
unfolding json_text
json_joined rs p cs d t a b e hd ht ha h1 h2 =
    let text : t ≡ compact_text d = ht (ap has_float hd ∙ json_plain rs p cs) in
    h2 ∙ ap (λ x. x ++ codes "\n") (h1 ∙ (ap (λ x. x ++ t) ha ∙ (text ∙ ap compact_text hd)))

-- the four objects of a map, one after the other
pub members_joined : (rs : List Register) (p : Placement) (cs : List ConstDecl) (a b c d e : Members) (constants bases registers memories : Data) →
    a ≡ no_members → b ≡ put (codes "constants") constants a → c ≡ put (codes "csr_bases") bases b →
    d ≡ put (codes "csr_registers") registers c → e ≡ put (codes "memories") memories d →
    constants ≡ constants_data p cs → bases ≡ banks_data p → registers ≡ registers_data rs → memories ≡ regions_data p →
    object e ≡ json_data rs p cs
members_joined rs p cs a b c d e constants bases registers memories ha h1 h2 h3 h4 hc hb hr hm =
    let one : b ≡ put (codes "constants") (constants_data p cs) no_members =
    h1 ∙ (ap (λ x. put (codes "constants") x a) hc ∙ ap (put (codes "constants") (constants_data p cs)) ha) in
    let two : c ≡ put (codes "csr_bases") (banks_data p) (put (codes "constants") (constants_data p cs) no_members) =
    h2 ∙ (ap (λ x. put (codes "csr_bases") x b) hb ∙ ap (put (codes "csr_bases") (banks_data p)) one) in
    let three : d ≡ put (codes "csr_registers") (registers_data rs) (put (codes "csr_bases") (banks_data p) (put (codes "constants") (constants_data p cs) no_members)) =
    h3 ∙ (ap (λ x. put (codes "csr_registers") x c) hr ∙ ap (put (codes "csr_registers") (registers_data rs)) two) in
    ap object (h4 ∙ (ap (λ x. put (codes "memories") x d) hm ∙ ap (put (codes "memories") (regions_data p)) three))
