-- Members of the objects of a map: their keys are ASCII, and none holds a float.
use Rattle.std.proofs.Common.{◌≡◌, ℕ, zero, suc, ◌<◌, ℤ, pos, negsuc, Bool, true, false, ◌&&◌, ◌||◌, List, [], ◌∷◌, ◌++◌, Less, Equal, Greater, length, map, get_or, drop, ◌+◌, add-one, drop-cons, nat_eq, nat_le, nat_lt, nat_cmp, not, inl, inr, int_le, int_lt, to_z, of_z, subst, refl, ap, sym, ◌∙◌, arith}
use Rattle.std.specs.Prelude.{FitsSigned, codes}
use Rattle.std.specs.Int.{w128}
use Rattle.std.specs.Char.{to_ascii_lowercase}
use Rattle.std.specs.Cmp.Lexicographic.{slice_cmp}
use Rattle.std.specs.List.{list_all}
use Rattle.std.specs.Ordering.{match_ordering}
use Rattle.std.proofs.lemmas.Bool.{and_from, and_parts, eqb-true, leb-true, lt-ltb, ltb-true, or_cases, or_from, or_parts}
use Rattle.std.proofs.lemmas.Int.{to_z-of_z}
use Rattle.std.proofs.lemmas.List.{map-append}
use Rattle.std.proofs.lemmas.Str.Ascii.{lowercase_ascii}
use Rattle.lx_fhdl.specs.Keeping.{EachOf, is_between, is_first, is_later}
use Rattle.lx_fhdl.specs.declared.places.Numbered.{Numbered}
use Rattle.lx_fhdl.specs.declared.places.Placement.{Placement}
use Rattle.lx_fhdl.specs.declared.places.Region.{Region}
use Rattle.lx_description.specs.Keeping.{is_plain, is_value}
use Rattle.lx_description.specs.declared.modules.ConstDecl.{ConstDecl}
use Rattle.lx_description.specs.declared.modules.ConstValue.{ConstValue}
use Rattle.lx_description.specs.declared.modules.ConstValue.TheVariants as value
use Rattle.lx_csr.specs.Mapped.{base_of}
use Rattle.lx_csr.specs.declared.registers.Register.{Register}
use Rattle.lx_soc.specs.Told.{are_constants, are_numbered, are_regions, are_registers, is_word}
use Rattle.lx_export.specs.Ascii.{are_ascii}
use Rattle.lx_export.specs.Rows.{all_constants, lower}
use Rattle.lx_export.specs.Json.{Entry, bank_entry, banks_data, constant_entry, constants_data, entry, json_data, region_entry, regions_data, register_entry, registers_data, value_data, with_entries}
use Rattle.serde_json.specs.Data.{Data, Members, member, no_members, put}
use Rattle.serde_json.specs.Written.{has_float, members_have_float}

-- ---- elements

-- each element passes
pub passes : {X : Type 0} (p : X → Bool) (xs : List X) (i : ℕ) (d x : X) → list_all p xs ≡ true → i < length xs → x ≡ get_or xs i d → p x ≡ true
passes p [] i d x h lt is = absurd (omega arith)
passes p (y ∷ ys) zero d x h lt is = ap p is ∙ (and_parts (p y) (list_all p ys) h).0
passes p (y ∷ ys) (suc i) d x h lt is = passes p ys i d x (and_parts (p y) (list_all p ys) h).1 (omega arith) is

each_passes : {X : Type 0} (p q : X → Bool) → ((x : X) → p x ≡ true → q x ≡ true) → (xs : List X) → list_all p xs ≡ true → list_all q xs ≡ true
each_passes p q each [] h = refl
each_passes p q each (x ∷ xs) h =
    let parts = and_parts (p x) (list_all p xs) h in
    and_from (q x) (list_all q xs) (each x parts.0) (each_passes p q each xs parts.1)

-- ---- ASCII

between_ascii : (low high b : ℕ) → high < 128 → is_between low high b ≡ true → nat_lt b 128 ≡ true
between_ascii low high b most h = lt-ltb b 128 (omega (arith, leb-true b high (and_parts (nat_le low b) (nat_le b high) h).1))

first_ascii : (b : ℕ) → is_first b ≡ true → nat_lt b 128 ≡ true
first_ascii b h =
    elim (or_cases (is_between 97 122 b) (is_between 65 90 b || nat_eq b 95) h) [
      | inl small ↦ between_ascii 97 122 b (omega arith) small
      | inr more ↦ elim (or_cases (is_between 65 90 b) (nat_eq b 95) more) [
        | inl large ↦ between_ascii 65 90 b (omega arith) large
        | inr same ↦ lt-ltb b 128 (omega (arith, eqb-true b 95 same))
      ]
    ]

later_ascii : (b : ℕ) → is_later b ≡ true → nat_lt b 128 ≡ true
later_ascii b h =
    elim (or_cases (is_first b) (is_between 48 57 b) h) [
      | inl first ↦ first_ascii b first
      | inr digit ↦ between_ascii 48 57 b (omega arith) digit
    ]

plain_ascii : (b : ℕ) → is_plain b ≡ true → nat_lt b 128 ≡ true
plain_ascii b h =
    between_ascii 32 126 b (omega arith)
    (and_parts (is_between 32 126 b) (not (nat_eq b 34) && (not (nat_eq b 92) && not (nat_eq b 44))) h).0

-- a word is ASCII
pub word_ascii : (name : List ℕ) → is_word name ≡ true → are_ascii name ≡ true
word_ascii name h = each_passes is_later (λ b. nat_lt b 128) later_ascii name h

-- the text of a constant is ASCII
pub text_ascii : (text : List ℕ) → list_all is_plain text ≡ true → are_ascii text ≡ true
text_ascii text h = each_passes is_plain (λ b. nat_lt b 128) plain_ascii text h

-- a word in lower case is ASCII
pub lower_ascii : (name : List ℕ) → is_word name ≡ true → are_ascii (lower name) ≡ true
lower_ascii [] h = refl
lower_ascii (b ∷ bs) h =
    let parts = and_parts (is_later b) (list_all is_later bs) h in
    and_from (nat_lt (to_ascii_lowercase b) 128) (are_ascii (lower bs))
    (lt-ltb (to_ascii_lowercase b) 128 (lowercase_ascii b (ltb-true b 128 (later_ascii b parts.0)))) (lower_ascii bs parts.1)

-- ---- members

-- members after members
pub entries_append : (ms : Members) (xs ys : List Entry) → with_entries ms (xs ++ ys) ≡ with_entries (with_entries ms xs) ys
entries_append ms [] ys = refl
entries_append ms (x ∷ xs) ys = entries_append (put x.key x.held ms) xs ys

-- the members of two lists, one after the other
pub mapped_entries : {X : Type 0} (f : X → Entry) (ms : Members) (xs ys : List X) → with_entries ms (map f (xs ++ ys)) ≡ with_entries (with_entries ms (map f xs)) (map f ys)
mapped_entries f ms xs ys = ap (with_entries ms) (map-append f xs ys) ∙ entries_append ms (map f xs) (map f ys)

-- the member of one element more
pub entries_step : {X : Type 0} (f : X → Entry) (ms : Members) (xs : List X) (i : ℕ) (x : X) → i < length xs → x ≡ get_or xs i x →
    with_entries (put (f x).key (f x).held ms) (map f (drop (i + 1) xs)) ≡ with_entries ms (map f (drop i xs))
entries_step f ms xs i x lt is =
    rw (add-one i, drop-cons xs i x) (ap (λ z. with_entries (put (f z).key (f z).held ms) (map f (drop (suc i) xs))) is)

-- an object with one member more, where what was left before it gives all
pub entries_next : {X : Type 0} (f : X → Entry) (begun old new : Members) (xs : List X) (i : ℕ) (x : X) (key : List ℕ) (held : Data) →
    i < length xs → x ≡ get_or xs i x → key ≡ (f x).key → held ≡ (f x).held → new ≡ put key held old →
    with_entries old (map f (drop i xs)) ≡ begun → with_entries new (map f (drop (i + 1) xs)) ≡ begun
entries_next f begun old new xs i x key held lt is k h n left = rw (n, k, h) (entries_step f old xs i x lt is ∙ left)

-- ---- names and values of a system

pub constant_at : (cs : List ConstDecl) (i : ℕ) (x : ConstDecl) → are_constants cs ≡ true → i < length cs → x ≡ get_or cs i x →
    (is_word x.name ≡ true) × (is_value x.value ≡ true)
constant_at cs i x h lt is =
    and_parts (is_word x.name) (is_value x.value) (passes (λ (c : ConstDecl). is_word c.name && is_value c.value) cs i x x h lt is)

pub number_at : (xs : List Numbered) (i : ℕ) (x : Numbered) → are_numbered xs ≡ true → i < length xs → x ≡ get_or xs i x →
    (is_word x.name ≡ true) × (nat_le x.number 31 ≡ true)
number_at xs i x h lt is =
    and_parts (is_word x.name) (nat_le x.number 31) (passes (λ (y : Numbered). is_word y.name && nat_le y.number 31) xs i x x h lt is)

pub register_at : (rs : List Register) (i : ℕ) (x : Register) → are_registers rs ≡ true → i < length rs → x ≡ get_or rs i x → is_word x.name ≡ true
register_at rs i x h lt is = passes (λ (r : Register). is_word r.name) rs i x x h lt is

pub region_at : (rs : List Region) (i : ℕ) (x : Region) → are_regions rs ≡ true → i < length rs → x ≡ get_or rs i x →
    (is_word x.name ≡ true) × (nat_lt x.origin 4294967296 ≡ true)
region_at rs i x h lt is =
    and_parts (is_word x.name) (nat_lt x.origin 4294967296) (passes (λ (r : Region). is_word r.name && nat_lt r.origin 4294967296) rs i x x h lt is)

fits_wide : (z : ℤ) → int_le (negsuc 9223372036854775807) z ≡ true → int_lt z (pos 18446744073709551616) ≡ true → FitsSigned w128 z
fits_wide (pos n) low high = record { sfits = omega (arith, ltb-true n 18446744073709551616 high) }
fits_wide (negsuc n) low high = record { sfits = omega (arith, leb-true n 9223372036854775807 low) }

-- a constant's number, as it is passed on, lies within JSON's numbers
pub number_within : (v : ConstValue) (z : ℤ) → is_value v ≡ true → v ≡ value.Number z →
    (int_le (negsuc 9223372036854775807) (to_z w128 (of_z w128 z)) ≡ true) × (int_lt (to_z w128 (of_z w128 z)) (pos 18446744073709551616) ≡ true)
number_within v z h is =
    let parts = and_parts (int_le (negsuc 9223372036854775807) z) (int_lt z (pos 18446744073709551616)) (subst (λ x. is_value x ≡ true) is h) in
    let same : to_z w128 (of_z w128 z) ≡ z = to_z-of_z w128 z (fits_wide z parts.0 parts.1) in
    (subst (λ x. int_le (negsuc 9223372036854775807) x ≡ true) (sym same) parts.0, subst (λ x. int_lt x (pos 18446744073709551616) ≡ true) (sym same) parts.1)

pub text_within : (v : ConstValue) (text : List ℕ) → is_value v ≡ true → v ≡ value.Text text → are_ascii text ≡ true
text_within v text h is = text_ascii text (subst (λ x. is_value x ≡ true) is h)

-- a key in lower case, written into an empty text
pub lowered : (key made empty own name : List ℕ) → key ≡ made → made ≡ empty ++ lower own → empty ≡ [] → own ≡ name → key ≡ lower name
lowered key made empty own name k m e o = rw (k, m, e, o)

-- ---- floats

put_plain : (k : List ℕ) (d : Data) (ms : Members) → has_float d ≡ false → members_have_float ms ≡ false → members_have_float (put k d ms) ≡ false
put_plain k d no_members h g = or_from (has_float d) false h refl
put_plain k d (member l e ms) h g =
    let parts = or_parts (has_float e) (members_have_float ms) g in
    elim (slice_cmp nat_cmp k l) as (λ o. members_have_float (match_ordering o (member k d (member l e ms)) (member l d ms) (member l e (put k d ms))) ≡ false) [
      | Less ↦ or_from (has_float d) (has_float e || members_have_float ms) h g
      | Equal ↦ or_from (has_float d) (members_have_float ms) h parts.1
      | Greater ↦ or_from (has_float e) (members_have_float (put k d ms)) parts.0 (put_plain k d ms h parts.1)
    ]

abbrev ArePlain : List Entry → Type 0
ArePlain es = EachOf (λ (e : Entry). has_float e.held ≡ false) es

entries_plain : (ms : Members) (es : List Entry) → members_have_float ms ≡ false → ArePlain es → members_have_float (with_entries ms es) ≡ false
entries_plain ms [] g h = g
entries_plain ms (e ∷ es) g h = entries_plain (put e.key e.held ms) es (put_plain e.key e.held ms h.0 g) h.1

mapped_plain : {X : Type 0} (f : X → Entry) → ((x : X) → has_float (f x).held ≡ false) → (xs : List X) → ArePlain (map f xs)
mapped_plain f each [] = tt
mapped_plain f each (x ∷ xs) = (each x, mapped_plain f each xs)

integer_plain : (z : ℤ) → has_float (value_data (value.Number z)) ≡ false
integer_plain (pos n) = refl
integer_plain (negsuc n) = refl

value_plain : (v : ConstValue) → has_float (value_data v) ≡ false
value_plain (value.Number z) = integer_plain z
value_plain (value.Text bytes) = refl
value_plain value.Nothing = refl

-- There is no float in the object of a map.
pub json_plain : (rs : List Register) (p : Placement) (cs : List ConstDecl) → has_float (json_data rs p cs) ≡ false
json_plain rs p cs =
    let base = base_of p.regions in
    let constants : has_float (constants_data p cs) ≡ false =
    entries_plain no_members (map constant_entry (all_constants p cs)) refl (mapped_plain constant_entry (λ (c : ConstDecl). value_plain c.value) (all_constants p cs)) in
    let banks : has_float (banks_data p) ≡ false =
    entries_plain no_members (map (bank_entry base) p.banks) refl (mapped_plain (bank_entry base) (λ (x : Numbered). refl) p.banks) in
    let registers : has_float (registers_data rs) ≡ false =
    entries_plain no_members (map register_entry rs) refl (mapped_plain register_entry (λ (r : Register). refl) rs) in
    let regions : has_float (regions_data p) ≡ false =
    entries_plain no_members (map region_entry p.regions) refl (mapped_plain region_entry (λ (r : Region). refl) p.regions) in
    entries_plain no_members
    (entry (codes "constants") (constants_data p cs) ∷ entry (codes "csr_bases") (banks_data p) ∷ entry (codes "csr_registers") (registers_data rs) ∷ entry (codes "memories") (regions_data p) ∷ [])
    refl (constants, (banks, (registers, (regions, tt))))
