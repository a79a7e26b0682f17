-- The constants of interrupts are such as a system keeps, and stand before its own.
use Rattle.std.proofs.Common.{◌≡◌, ℕ, pos, ◌≤◌, Bool, true, false, ◌&&◌, List, [], ◌∷◌, ◌++◌, map, codes, flat_map, nat_eq, nat_le, refl, ap, sym, ◌∙◌, arith, if◌then◌else◌}
use Rattle.std.specs.List.{range_with_len}
use Rattle.std.proofs.lemmas.Bool.{and_from, and_parts, leb-true, lt-ltb}
use Rattle.lx_fhdl.specs.Keeping.{is_later}
use Rattle.lx_fhdl.specs.declared.places.Numbered.{Numbered}
use Rattle.lx_fhdl.specs.declared.places.Placement.{Placement}
use Rattle.lx_description.specs.Keeping.{is_value}
use Rattle.lx_description.specs.declared.modules.ConstDecl.{ConstDecl}
use Rattle.lx_description.specs.declared.modules.ConstValue.TheVariants as value
use Rattle.lx_soc.specs.Told.{are_constants, are_numbered, is_word}
use Rattle.lx_soc.proofs.Told.{all_append, all_flat, every_flat}
use Rattle.serde_json.specs.Data.{Members, no_members, object}
use Rattle.lx_export.specs.Json.{constant_entry, constants_data, with_entries}
use Rattle.lx_export.specs.Rows.{by_number, interrupt_constant, numbered}
use Rattle.lx_export.proofs.Joined.{mapped_entries}

abbrev is_known : Numbered → Bool
is_known x = is_word x.name && nat_le x.number 31

abbrev is_constant : ConstDecl → Bool
is_constant c = is_word c.name && is_value c.value

numbered_known : (n : ℕ) (x : Numbered) → is_known x ≡ true → are_numbered (numbered n x) ≡ true
numbered_known n x h =
    elim (nat_eq x.number n) as (λ t. are_numbered (if t then x ∷ [] else []) ≡ true) [
      | true ↦ and_from (is_known x) true h refl
      | false ↦ refl
    ]

-- banks or interrupts by number are such as they were
sorted_known : (xs : List Numbered) → are_numbered xs ≡ true → are_numbered (by_number xs) ≡ true
sorted_known xs h =
    every_flat is_known (λ n. flat_map (numbered n) xs) (λ n. all_flat is_known is_known (numbered n) (numbered_known n) xs h) (range_with_len 0 32)

small_value : (n : ℕ) → n ≤ 31 → is_value (value.Number (pos n)) ≡ true
small_value n h = lt-ltb n 18446744073709551616 (omega arith)

interrupt_known : (x : Numbered) → is_known x ≡ true → is_constant (interrupt_constant x) ≡ true
interrupt_known x h =
    let parts = and_parts (is_word x.name) (nat_le x.number 31) h in
    and_from (is_word (x.name ++ codes "_interrupt")) (is_value (value.Number (pos x.number)))
    (all_append is_later x.name (codes "_interrupt") parts.0 refl) (small_value x.number (leb-true x.number 31 parts.1))

each_known : (xs : List Numbered) → are_numbered xs ≡ true → are_constants (map interrupt_constant xs) ≡ true
each_known [] h = refl
each_known (x ∷ xs) h =
    let parts = and_parts (is_known x) (are_numbered xs) h in
    and_from (is_constant (interrupt_constant x)) (are_constants (map interrupt_constant xs)) (interrupt_known x parts.0) (each_known xs parts.1)

-- the constants of interrupts are such as a system keeps
pub interrupts_known : (xs : List Numbered) → are_numbered xs ≡ true → are_constants (map interrupt_constant (by_number xs)) ≡ true
interrupts_known xs h = each_known (by_number xs) (sorted_known xs h)

-- the object of interrupts and the system's own constants
pub constants_joined : (p : Placement) (cs interrupts own : List ConstDecl) (a b e : Members) → interrupts ≡ map interrupt_constant (by_number p.irqs) → own ≡ cs →
    a ≡ no_members → b ≡ with_entries a (map constant_entry interrupts) → e ≡ with_entries b (map constant_entry own) → object e ≡ constants_data p cs
constants_joined p cs interrupts own a b e hi hk ha h1 h2 =
    let before = map interrupt_constant (by_number p.irqs) in
    let first : b ≡ with_entries no_members (map constant_entry before) =
    h1 ∙ (ap (λ ms. with_entries ms (map constant_entry interrupts)) ha ∙ ap (λ xs. with_entries no_members (map constant_entry xs)) hi) in
    let last : e ≡ with_entries (with_entries no_members (map constant_entry before)) (map constant_entry cs) =
    h2 ∙ (ap (λ ms. with_entries ms (map constant_entry own)) first ∙ ap (λ xs. with_entries (with_entries no_members (map constant_entry before)) (map constant_entry xs)) hk) in
    ap object (last ∙ sym (mapped_entries constant_entry no_members before cs))
