-- Names of a description's registers, banks and constants are words.
use Rattle.std.proofs.Common.{◌≡◌, ℕ, zero, suc, ◌+◌, ◌*◌, Bool, true, false, ◌&&◌, List, [], ◌∷◌, ◌++◌, Option, Some, None, length, map, refl, ◌∙◌, if◌then◌else◌, nat_eq}
use Rattle.std.specs.Prelude.{codes, flat_map, slice_get}
use Rattle.std.specs.List.{list_all, range_with_len}
use Rattle.std.proofs.lemmas.Bool.{and_from, and_parts}
use Rattle.std.proofs.lemmas.List.Folds.{list_all-append}
use Rattle.lx_fhdl.specs.Keeping.{EachOf, is_first, is_identifier, is_later}
use Rattle.lx_fhdl.specs.declared.places.BankWish.{BankWish}
use Rattle.lx_fhdl.specs.declared.places.Numbered.{Numbered}
use Rattle.lx_fhdl.specs.declared.places.Placement.{Placement}
use Rattle.lx_description.specs.Keeping.{IsConstant, IsPart, ModulesKeep, is_value}
use Rattle.lx_description.specs.declared.registers.ManagerDecl.{ManagerDecl}
use Rattle.lx_description.specs.declared.modules.Part.{Part}
use Rattle.lx_description.specs.declared.modules.Part.TheVariants as part
use Rattle.lx_description.specs.declared.modules.ConstDecl.{ConstDecl}
use Rattle.lx_description.specs.declared.modules.ModuleDecl.{ModuleDecl}
use Rattle.lx_description.specs.declared.description.Description.{Description}
use Rattle.lx_fhdl.specs.declared.design.Design.{Design}
use Rattle.lx_csr.specs.Names.{after_underscores, bare, can_stand, joined}
use Rattle.lx_csr.specs.Places.{follow, word_count_of}
use Rattle.lx_csr.specs.Collected.{Attribute, Peripheral, attribute_of, attributes_within, bank_of, banks, banks_from, below, constants, constants_of, event_registers, named_attributes, named_peripheral, part_constants, part_peripheral, part_registers, parts_of, peripherals, registers_of, top_parts}
use Rattle.lx_csr.specs.Mapped.{base_of, map_of, mapped, numbered, wishes_of}
use Rattle.lx_csr.specs.declared.registers.Register.{Register}
use Rattle.lx_csr.specs.declared.registers.Bank.{Bank}
use Rattle.lx_soc.specs.Told.{are_constants, are_registers, is_word}

-- ---- lists

pub all_append : {X : Type 0} (p : X → Bool) (xs ys : List X) → list_all p xs ≡ true → list_all p ys ≡ true → list_all p (xs ++ ys) ≡ true
all_append p xs ys h k = list_all-append p xs ys ∙ and_from (list_all p xs) (list_all p ys) h k

-- what each element gives passes
pub all_flat : {X Y : Type 0} (q : X → Bool) (p : Y → Bool) (f : X → List Y) → ((x : X) → q x ≡ true → list_all p (f x) ≡ true) →
    (xs : List X) → list_all q xs ≡ true → list_all p (flat_map f xs) ≡ true
all_flat q p f each [] h = refl
all_flat q p f each (x ∷ xs) h =
    let parts = and_parts (q x) (list_all q xs) h in
    all_append p (f x) (flat_map f xs) (each x parts.0) (all_flat q p f each xs parts.1)

pub every_flat : {X Y : Type 0} (p : Y → Bool) (f : X → List Y) → ((x : X) → list_all p (f x) ≡ true) → (xs : List X) → list_all p (flat_map f xs) ≡ true
every_flat p f each [] = refl
every_flat p f each (x ∷ xs) = all_append p (f x) (flat_map f xs) (each x) (every_flat p f each xs)

-- ---- names

pub identifier_word : (name : List ℕ) → is_identifier name ≡ true → is_word name ≡ true
identifier_word [] h = refl
identifier_word (b ∷ bs) h =
    let parts = and_parts (is_first b) (list_all is_later bs) h in
    and_from (is_later b) (list_all is_later bs) (rw parts.0 refl) parts.1

joined_word : (owner name : List ℕ) → is_word owner ≡ true → is_word name ≡ true → is_word (joined owner name) ≡ true
joined_word owner name h k = all_append is_later owner (codes "_" ++ name) h k

after_word : (name : List ℕ) → is_word name ≡ true → is_word (after_underscores name) ≡ true
after_word [] h = refl
after_word (b ∷ bs) h =
    elim (nat_eq b 95) as (λ t. is_word (if t then after_underscores bs else b ∷ bs) ≡ true) [
      | true ↦ after_word bs (and_parts (is_later b) (list_all is_later bs) h).1
      | false ↦ h
    ]

bare_word : (name : List ℕ) → is_word name ≡ true → is_word (bare name) ≡ true
unfolding bare
bare_word name h =
    elim (can_stand (after_underscores name)) as (λ t. is_word (if t then after_underscores name else name) ≡ true) [
      | true ↦ after_word name h
      | false ↦ h
    ]

-- ---- attributes

-- what a part is named is a word
abbrev is_named : Part → Bool
is_named (part.Reg r) = is_word r.name
is_named (part.Constant c) = is_word c.name && is_value c.value
is_named (part.Manager name m) = is_word name
is_named (part.Module k) = true

abbrev is_owned : Attribute → Bool
is_owned x = is_word x.owner && is_named x.part

-- modules whose names, and those of their parts, are words
abbrev AreNamed : List ModuleDecl → Type 0
AreNamed ms = (k : ℕ) (m : ModuleDecl) → slice_get ms k ≡ Some m → (is_word m.name ≡ true) × (list_all is_named m.parts ≡ true)

part_named : (d : Design) (p : Part) → IsPart d p → is_named p ≡ true
part_named d (part.Reg r) h = identifier_word r.name h.name
part_named d (part.Constant c) h = and_from (is_word c.name) (is_value c.value) (identifier_word c.name h.name) h.value
part_named d (part.Manager name m) h = identifier_word name h.0
part_named d (part.Module k) h = refl

parts_named : (d : Design) (ps : List Part) → EachOf (IsPart d) ps → list_all is_named ps ≡ true
parts_named d [] h = refl
parts_named d (p ∷ ps) h = and_from (is_named p) (list_all is_named ps) (part_named d p h.0) (parts_named d ps h.1)

modules_named : (d : Description) → ModulesKeep d → AreNamed d.modules
modules_named d keep k m is =
    let own = keep.each k m is in
    (identifier_word m.name own.name, parts_named d.design m.parts own.parts)

-- what a module holds under a name of its own is named by words
abbrev IsOwned : (List ℕ → ModuleDecl → List Attribute) → Type 0
IsOwned within = (name : List ℕ) (m : ModuleDecl) → is_word name ≡ true → list_all is_named m.parts ≡ true → list_all is_owned (within name m) ≡ true

some_owned : (within : List ℕ → ModuleDecl → List Attribute) → IsOwned within → (name : List ℕ) (o : Option ModuleDecl) → is_word name ≡ true →
    ((m : ModuleDecl) → o ≡ Some m → (is_word m.name ≡ true) × (list_all is_named m.parts ≡ true)) →
    list_all is_owned (named_attributes within name o) ≡ true
some_owned within inside name None h each = refl
some_owned within inside name (Some m) h each =
    let own = each m refl in
    elim m.named as (λ t. list_all is_owned (if t then within (joined name m.name) m else []) ≡ true) [
      | true ↦ inside (joined name m.name) m (joined_word name m.name h own.0) own.1
      | false ↦ refl
    ]

below_owned : (ms : List ModuleDecl) → AreNamed ms → (within : List ℕ → ModuleDecl → List Attribute) → IsOwned within → (name : List ℕ) (p : Part) →
    is_word name ≡ true → list_all is_owned (below within ms name p) ≡ true
below_owned ms named within inside name (part.Reg r) h = refl
below_owned ms named within inside name (part.Constant c) h = refl
below_owned ms named within inside name (part.Manager x m) h = refl
below_owned ms named within inside name (part.Module k) h = some_owned within inside name (slice_get ms k) h (λ m is. named k m is)

within_owned : (ms : List ModuleDecl) → AreNamed ms → (n : ℕ) (name : List ℕ) (m : ModuleDecl) → is_word name ≡ true → list_all is_named m.parts ≡ true →
    list_all is_owned (attributes_within ms n name m) ≡ true
within_owned ms named zero name m h k = refl
within_owned ms named (suc n) name m h k =
    let inside = λ (x : List ℕ) (o : ModuleDecl) (a : is_word x ≡ true) (b : list_all is_named o.parts ≡ true). within_owned ms named n x o a b in
    all_flat is_named is_owned (λ p. attribute_of name p ∷ below (attributes_within ms n) ms name p)
    (λ p is. and_from (is_word name && is_named p) (list_all is_owned (below (attributes_within ms n) ms name p)) (and_from (is_word name) (is_named p) h is)
    (below_owned ms named (attributes_within ms n) inside name p h))
    m.parts k

-- ---- registers and constants of a peripheral

abbrev is_register : Register → Bool
is_register r = is_word r.name

events_told : (name : List ℕ) (m : ManagerDecl) → is_word name ≡ true → are_registers (event_registers name m) ≡ true
events_told name m h =
    let one = joined_word name (codes "status") h refl in
    let two = joined_word name (codes "pending") h refl in
    let three = joined_word name (codes "enable") h refl in
    rw (one, two, three) refl

part_told : (owner : List ℕ) (p : Part) → is_word owner ≡ true → is_named p ≡ true → are_registers (part_registers owner p) ≡ true
part_told owner (part.Reg r) h k = and_from (is_word (joined owner (bare r.name))) true (joined_word owner (bare r.name) h (bare_word r.name k)) refl
part_told owner (part.Constant c) h k = refl
part_told owner (part.Manager name m) h k = events_told (joined owner name) m (joined_word owner name h k)
part_told owner (part.Module j) h k = refl

part_constants_told : (owner : List ℕ) (p : Part) → is_word owner ≡ true → is_named p ≡ true → are_constants (part_constants owner p) ≡ true
part_constants_told owner (part.Reg r) h k = refl
part_constants_told owner (part.Constant c) h k =
    let own = and_parts (is_word c.name) (is_value c.value) k in
    and_from (is_word (joined owner (bare c.name)) && is_value c.value) true
    (and_from (is_word (joined owner (bare c.name))) (is_value c.value) (joined_word owner (bare c.name) h (bare_word c.name own.0)) own.1) refl
part_constants_told owner (part.Manager name m) h k = refl
part_constants_told owner (part.Module j) h k = refl

registers_told : (xs : List Attribute) → list_all is_owned xs ≡ true → are_registers (registers_of xs) ≡ true
registers_told xs h =
    all_flat is_owned is_register (λ (x : Attribute). part_registers x.owner x.part)
    (λ (x : Attribute) k. let own = and_parts (is_word x.owner) (is_named x.part) k in part_told x.owner x.part own.0 own.1) xs h

constants_told : (xs : List Attribute) → list_all is_owned xs ≡ true → are_constants (constants_of xs) ≡ true
constants_told xs h =
    all_flat is_owned (λ (c : ConstDecl). is_word c.name && is_value c.value) (λ (x : Attribute). part_constants x.owner x.part)
    (λ (x : Attribute) k. let own = and_parts (is_word x.owner) (is_named x.part) k in part_constants_told x.owner x.part own.0 own.1) xs h

-- ---- peripherals

abbrev is_told : Peripheral → Bool
is_told p = is_word p.name && (are_registers p.registers && are_constants p.constants)

told_from : (name : List ℕ) (rs : List Register) (cs : List ConstDecl) → is_word name ≡ true → are_registers rs ≡ true → are_constants cs ≡ true →
    (is_word name && (are_registers rs && are_constants cs)) ≡ true
told_from name rs cs a b c = and_from (is_word name) (are_registers rs && are_constants cs) a (and_from (are_registers rs) (are_constants cs) b c)

named_told : (ms : List ModuleDecl) → AreNamed ms → (o : Option ModuleDecl) →
    ((m : ModuleDecl) → o ≡ Some m → (is_word m.name ≡ true) × (list_all is_named m.parts ≡ true)) → list_all is_told (named_peripheral ms o) ≡ true
named_told ms named None each = refl
named_told ms named (Some m) each =
    let own = each m refl in
    let xs = attributes_within ms (length ms) m.name m in
    let owned = within_owned ms named (length ms) m.name m own.0 own.1 in
    let told = told_from m.name (registers_of xs) (constants_of xs) own.0 (registers_told xs owned) (constants_told xs owned) in
    elim m.named as (λ t. list_all is_told (if t then record { name = m.name; registers = registers_of xs; constants = constants_of xs } ∷ [] else []) ≡ true) [
      | true ↦ and_from (is_word m.name && (are_registers (registers_of xs) && are_constants (constants_of xs))) true told refl
      | false ↦ refl
    ]

part_peripheral_told : (ms : List ModuleDecl) → AreNamed ms → (p : Part) → is_named p ≡ true → list_all is_told (part_peripheral ms p) ≡ true
part_peripheral_told ms named (part.Reg r) h = refl
part_peripheral_told ms named (part.Constant c) h = refl
part_peripheral_told ms named (part.Manager name m) h =
    and_from (is_word name && (are_registers (event_registers name m) && true)) true (told_from name (event_registers name m) [] h (events_told name m h) refl) refl
part_peripheral_told ms named (part.Module k) h = named_told ms named (slice_get ms k) (λ m is. named k m is)

parts_of_named : (o : Option ModuleDecl) → ((m : ModuleDecl) → o ≡ Some m → (is_word m.name ≡ true) × (list_all is_named m.parts ≡ true)) → list_all is_named (parts_of o) ≡ true
parts_of_named None each = refl
parts_of_named (Some m) each = (each m refl).1

top_named : (d : Description) → AreNamed d.modules → list_all is_named (top_parts d) ≡ true
unfolding top_parts
top_named d named =
    elim d.soc as (λ t. list_all is_named (if t then parts_of (slice_get d.modules 0) else []) ≡ true) [
      | true ↦ parts_of_named (slice_get d.modules 0) (λ m is. named 0 m is)
      | false ↦ refl
    ]

peripherals_told : (d : Description) → ModulesKeep d → list_all is_told (peripherals d) ≡ true
peripherals_told d keep =
    let named = modules_named d keep in
    all_flat is_named is_told (part_peripheral d.modules) (part_peripheral_told d.modules named) (top_parts d) (top_named d named)

-- ---- banks and the map

abbrev is_bank : Bank → Bool
is_bank b = is_word b.wish.name && are_registers b.registers

follow_told : (n addr : ℕ) (rs : List Register) → are_registers rs ≡ true → are_registers (follow n addr rs) ≡ true
follow_told n addr [] h = refl
follow_told n addr (r ∷ rs) h =
    let own = and_parts (is_word r.name) (are_registers rs) h in
    and_from (is_word r.name) (are_registers (follow n (addr + 4 * word_count_of r.size) rs)) own.0 (follow_told n (addr + 4 * word_count_of r.size) rs own.1)

bank_told : (n : ℕ) (name : List ℕ) (rs : List Register) → is_word name ≡ true → are_registers rs ≡ true → list_all is_bank (bank_of n name rs) ≡ true
bank_told n name [] h k = refl
bank_told n name (r ∷ rs) h k =
    and_from (is_word name && are_registers (follow n 0 (r ∷ rs))) true (and_from (is_word name) (are_registers (follow n 0 (r ∷ rs))) h (follow_told n 0 (r ∷ rs) k)) refl

banks_told_from : (n : ℕ) (ps : List Peripheral) → list_all is_told ps ≡ true → list_all is_bank (banks_from n ps) ≡ true
banks_told_from n [] h = refl
banks_told_from n (p ∷ ps) h =
    let own = and_parts (is_told p) (list_all is_told ps) h in
    let name = and_parts (is_word p.name) (are_registers p.registers && are_constants p.constants) own.0 in
    let parts = and_parts (are_registers p.registers) (are_constants p.constants) name.1 in
    let bs = bank_of n p.name p.registers in
    all_append is_bank bs (banks_from (n + length bs) ps) (bank_told n p.name p.registers name.0 parts.0) (banks_told_from (n + length bs) ps own.1)

banks_told : (d : Description) → ModulesKeep d → list_all is_bank (banks d) ≡ true
banks_told d keep = banks_told_from 0 (peripherals d) (peripherals_told d keep)

mapped_told : (start n : ℕ) (rs : List Register) → are_registers rs ≡ true → are_registers (map (mapped start n) rs) ≡ true
mapped_told start n [] h = refl
mapped_told start n (r ∷ rs) h =
    let own = and_parts (is_word r.name) (are_registers rs) h in
    and_from (is_word r.name) (are_registers (map (mapped start n) rs)) own.0 (mapped_told start n rs own.1)

numbered_told : (base : ℕ) (ps : List Numbered) (bs : List Bank) (n : ℕ) → list_all is_bank bs ≡ true → are_registers (numbered base ps bs n) ≡ true
numbered_told base [] bs n h = refl
numbered_told base (p ∷ ps) [] n h = refl
numbered_told base (p ∷ ps) (b ∷ bs) n h =
    let own = and_parts (is_bank b) (list_all is_bank bs) h in
    let parts = and_parts (is_word b.wish.name) (are_registers b.registers) own.0 in
    elim (nat_eq p.number n) as (λ t. are_registers (if t then map (mapped (base + 2048 * n) n) b.registers else numbered base ps bs n) ≡ true) [
      | true ↦ mapped_told (base + 2048 * n) n b.registers parts.1
      | false ↦ numbered_told base ps bs n own.1
    ]

-- Names of registers in the map are words.
pub map_told : (d : Description) (p : Placement) → ModulesKeep d → are_registers (map_of (banks d) p) ≡ true
unfolding map_of
map_told d p keep =
    every_flat is_register (numbered (base_of p.regions) p.banks (banks d)) (λ n. numbered_told (base_of p.regions) p.banks (banks d) n (banks_told d keep)) (range_with_len 0 32)

wishes_words : (bs : List Bank) → list_all is_bank bs ≡ true → list_all is_word (map (λ (w : BankWish). w.name) (wishes_of bs)) ≡ true
wishes_words [] h = refl
wishes_words (b ∷ bs) h =
    let own = and_parts (is_bank b) (list_all is_bank bs) h in
    let parts = and_parts (is_word b.wish.name) (are_registers b.registers) own.0 in
    and_from (is_word b.wish.name) (list_all is_word (map (λ (w : BankWish). w.name) (wishes_of bs))) parts.0 (wishes_words bs own.1)

-- Names of banks are words.
pub bank_words : (d : Description) → ModulesKeep d → list_all is_word (map (λ (w : BankWish). w.name) (wishes_of (banks d))) ≡ true
bank_words d keep = wishes_words (banks d) (banks_told d keep)

-- ---- constants

own_told : (cs : List ConstDecl) → EachOf IsConstant cs → are_constants cs ≡ true
own_told [] h = refl
own_told (c ∷ cs) h =
    and_from (is_word c.name && is_value c.value) (are_constants cs)
    (and_from (is_word c.name) (is_value c.value) (identifier_word c.name h.0.name) h.0.value) (own_told cs h.1)

-- Names of constants are words, and their values those of a description.
pub all_constants_told : (d : Description) → ModulesKeep d → EachOf IsConstant d.constants → are_constants (constants d) ≡ true
all_constants_told d keep own =
    let told = λ (c : ConstDecl). is_word c.name && is_value c.value in
    all_append told (flat_map (λ (p : Peripheral). p.constants) (peripherals d)) (if d.soc then d.constants else [])
    (all_flat is_told told (λ (p : Peripheral). p.constants)
    (λ (p : Peripheral) h.
    let name = and_parts (is_word p.name) (are_registers p.registers && are_constants p.constants) h in
    (and_parts (are_registers p.registers) (are_constants p.constants) name.1).1)
    (peripherals d) (peripherals_told d keep))
    (elim d.soc as (λ t. are_constants (if t then d.constants else []) ≡ true) [
      | true ↦ own_told d.constants own
      | false ↦ refl
    ])
