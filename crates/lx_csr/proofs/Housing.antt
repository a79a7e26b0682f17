-- What the placement of banks gives.
use Rattle.std.proofs.Common.{◌≡◌, ℕ, ◌+◌, ◌*◌, ◌≤◌, List, [], ◌∷◌, ◌++◌, Option, Some, None, length, map, refl, ap, sym, ◌∙◌, arith, subst, true, false, Bool, inl, inr, nat_eq, if◌then◌else◌}
use Rattle.std.specs.Prelude.{◌==◌, flat_map, slice_get, nat_lt, is_none, IsSomeAnd}
use Rattle.std.specs.List.{AllZip, range_with_len}
use Rattle.std.proofs.lemmas.Bool.{eqb-false, eqb-true, ltb-false, true≢false}
use Rattle.lx_text.specs.declared.faults.Kind.{Kind}
use Rattle.lx_fhdl.specs.Keeping.{EachOf}
use Rattle.lx_fhdl.specs.declared.places.BankWish.{BankWish}
use Rattle.lx_fhdl.specs.declared.places.Numbered.{Numbered}
use Rattle.lx_fhdl.specs.declared.places.Placement.{Placement}
use Rattle.lx_fhdl.specs.declared.places.RegionWish.{RegionWish}
use Rattle.lx_fhdl.specs.declared.places.Wishes.{Wishes}
use Rattle.lx_description.specs.Keeping.{IsFirstRegion}
use Rattle.lx_regions.specs.Free.{Gets}
use Rattle.lx_regions.specs.Space.{is_open, origin_of}
use Rattle.lx_regions.specs.declared.spots.Spot.{Spot}
use Rattle.lx_regions.specs.Rounded.{first_block, rounded}
use Rattle.lx_alloc.specs.Judged.{each_pair, told}
use Rattle.lx_alloc.specs.Numbers.{all_bank_faults, bank_faults, full_faults, irq_faults}
use Rattle.lx_alloc.specs.Places.{fixed_faults, origin_at, origin_faults, overlap_faults, place_faults, place_of, regions_at, spot_of, spots_of}
use Rattle.lx_alloc.proofs.Judging.{no_parts}
use Rattle.lx_csr.specs.Places.{AreBanks, IsMap, addresses}
use Rattle.lx_csr.specs.Laws.{AreInBanks, IsInBank}
use Rattle.lx_csr.specs.Mapped.{AreShort, IsHoused, IsShort, base_of, map_of, mapped, numbered, wishes_of}
use Rattle.lx_csr.specs.declared.registers.WordPlace.{WordPlace}
use Rattle.lx_csr.specs.declared.registers.Register.{Register}
use Rattle.lx_csr.specs.declared.registers.Bank.{Bank}
use Rattle.lx_csr.proofs.Rising.{all_rise, are_short, numbers_rise, rise_high, rise_low}

-- what is told of no test is nothing
pub untold : (t : Bool) (line : ℕ) (k : Kind) → told t line k ≡ [] → t ≡ false
untold true line k e = cc
untold false line k e = refl

not_below : (a b : ℕ) → nat_lt a b ≡ false → b ≤ a
not_below a b e = ltb-false a b e

-- ---- words

full_none : (bs : List BankWish) → flat_map full_faults bs ≡ [] → EachOf (λ (b : BankWish). b.words ≤ 512) bs
full_none [] e = tt
full_none (b ∷ bs) e =
    let p = no_parts (full_faults b) (flat_map full_faults bs) e in
    (not_below 512 b.words (untold (nat_lt 512 b.words) b.line _ p.0), full_none bs p.1)

few_of : (bs : List Bank) → EachOf (λ (w : BankWish). w.words ≤ 512) (wishes_of bs) → EachOf (λ (b : Bank). b.wish.words ≤ 512) bs
few_of [] h = tt
few_of (b ∷ bs) h = (h.0, few_of bs h.1)

all_few : (w : Wishes) → all_bank_faults w.fixes w.banks ≡ [] → EachOf (λ (b : BankWish). b.words ≤ 512) w.banks
all_few w e =
    let a = no_parts (flat_map (bank_faults w.banks) w.fixes) _ e in
    let b = no_parts _ _ a.1 in
    let c = no_parts _ _ b.1 in
    let f = no_parts (flat_map full_faults w.banks) _ c.1 in
    full_none w.banks f.0

pub housed_few : (bs : List Bank) (p : Placement) → IsHoused bs p → EachOf (λ (b : Bank). b.wish.words ≤ 512) bs
housed_few bs p h =
    let w = h.wishes in
    let parts = no_parts (irq_faults w.managers w.irqs) (all_bank_faults w.fixes w.banks) h.placement.numbers in
    few_of bs (subst (λ xs. EachOf (λ (b : BankWish). b.words ≤ 512) xs) h.banks (all_few w parts.1))

-- ---- the base

-- a region with a stated origin is at it
stays : (x y : Spot) → is_open x.place ≡ false → Gets (λ z. is_open z.place) x y → y ≡ x
stays x y fixed (inl put) = absurd (true≢false (sym put.unplaced ∙ fixed))
stays x y fixed (inr same) = same.0

stated : (o : Option ℕ) → is_none o ≡ false → is_open (place_of o) ≡ false
stated None e = cc
stated (Some n) e = refl

-- the 64 KiB from a stated origin on end within the 4 GiB
within : (w : RegionWish) (o : Option ℕ) → is_none o ≡ false → origin_faults w 65536 o ≡ [] →
    (n : ℕ) × (o ≡ Some n) × (n + 65536 ≤ 4294967296)
within w None e f = cc
within w (Some n) e f =
    let p = no_parts (told (nat_lt 4294967296 (n + 65536)) w.line _) _ f in
    (n, refl, not_below 4294967296 (n + 65536) (untold _ _ _ p.0))

rounded_csr : rounded 65536 ≡ 65536
unfolding rounded first_block
rounded_csr = refl

first_within : (v : RegionWish) (y : Spot) → IsFirstRegion v → place_faults v ≡ [] → Gets (λ z. is_open z.place) (spot_of v) y →
    origin_at (origin_of y.place) + 65536 ≤ 4294967296
first_within v y f none gets =
    let same : y ≡ spot_of v = stays (spot_of v) y (stated v.origin f.origin) gets in
    let size : rounded v.size ≡ 65536 = ap rounded f.size ∙ rounded_csr in
    let faults : origin_faults v 65536 v.origin ≡ [] = subst (λ n. origin_faults v n v.origin ≡ []) size none in
    let at = within v v.origin f.origin faults in
    let place : origin_of y.place ≡ Some at.0 = ap (λ (z : Spot). origin_of z.place) same ∙ (ap (λ o. origin_of (place_of o)) at.1) in
    subst (λ o. origin_at o + 65536 ≤ 4294967296) (sym place) at.2

base_within : (ws : List RegionWish) (w : RegionWish) (spots : List Spot) → slice_get ws 0 ≡ Some w → IsFirstRegion w → fixed_faults ws ≡ [] →
    AllZip (Gets (λ z. is_open z.place)) (spots_of ws) spots → base_of (regions_at ws spots) + 65536 ≤ 4294967296
base_within [] w spots is f none each = cc
base_within (v ∷ ws) w [] is f none each = absurd each
base_within (v ∷ ws) w (y ∷ spots) is f none each =
    let same : v ≡ w = cc in
    let parts = no_parts (flat_map place_faults (v ∷ ws)) (each_pair overlap_faults [] (v ∷ ws)) none in
    let own = no_parts (place_faults v) (flat_map place_faults ws) parts.0 in
    first_within v y (subst (λ (z : RegionWish). IsFirstRegion z) (sym same) f) own.0 each.0

some_region : (o : Option RegionWish) → IsSomeAnd o IsFirstRegion → (w : RegionWish) × (o ≡ Some w) × IsFirstRegion w
some_region (Some w) h = (w, refl, h)
some_region None h = absurd h

pub housed_base : (bs : List Bank) (p : Placement) → IsHoused bs p → (length bs ≡ 0 → ⊥) → base_of p.regions + 65536 ≤ 4294967296
housed_base bs p h some =
    let region : IsSomeAnd (slice_get h.wishes.regions 0) IsFirstRegion = elim h.region [ inl none ↦ absurd (some none) | inr first ↦ first ] in
    let w = some_region (slice_get h.wishes.regions 0) region in
    let placed = h.placement.regions in
    subst (λ rs. base_of rs + 65536 ≤ 4294967296) (sym placed.are)
    (base_within h.wishes.regions w.0 placed.spots w.1 w.2 h.placement.fixed placed.least.placement.each)

-- ---- the map

none_numbered : (base : ℕ) (ps : List Numbered) (xs : List ℕ) → flat_map (numbered base ps []) xs ≡ []
none_numbered base [] [] = refl
none_numbered base (p ∷ ps) [] = refl
none_numbered base [] (x ∷ xs) = none_numbered base [] xs
none_numbered base (p ∷ ps) (x ∷ xs) = none_numbered base (p ∷ ps) xs

pub no_map : (bs : List Bank) (p : Placement) → length bs ≡ 0 → map_of bs p ≡ []
unfolding map_of
no_map [] p e = none_numbered (base_of p.regions) p.banks (range_with_len 0 32)
no_map (b ∷ bs) p e = absurd (omega arith)

pub map_rises : (bs : List Bank) (p : Placement) → AreBanks bs → IsHoused bs p → (length bs ≡ 0 → ⊥) → IsMap (map_of bs p)
unfolding map_of
map_rises bs p banks h some =
    let base = base_of p.regions in
    let top : base + 65536 ≤ 4294967296 = housed_base bs p h some in
    let rise = numbers_rise base p.banks bs (all_rise bs banks (housed_few bs p h)) 0 32 in
    let xs = addresses (flat_map (numbered base p.banks bs) (range_with_len 0 32)) in
    rise_low 0 (base + 2048 * 0) 4294967296 xs (omega arith) (rise_high (base + 2048 * 0) (base + 2048 * (0 + 32)) 4294967296 xs (omega arith) rise)

-- ---- words in their banks

words_in_bank : (base n : ℕ) (r : Register) (ws : List WordPlace) → EachOf (λ (w : WordPlace). w.addr + 4 ≤ 2048) ws →
    EachOf (IsInBank base (mapped (base + 2048 * n) n r)) (map (λ (w : WordPlace). record w { addr = (base + 2048 * n) + w.addr }) ws)
words_in_bank base n r [] h = tt
words_in_bank base n r (w ∷ ws) h =
    (record { from = omega arith; below = omega (arith, h.0) }, words_in_bank base n r ws h.1)

abbrev AllInBank : ℕ → List Register → Type 0
AllInBank base rs = EachOf (λ (r : Register). EachOf (IsInBank base r) r.words) rs

mapped_in_bank : (base n : ℕ) (rs : List Register) → EachOf IsShort rs → AllInBank base (map (mapped (base + 2048 * n) n) rs)
mapped_in_bank base n [] h = tt
mapped_in_bank base n (r ∷ rs) h = (words_in_bank base n r r.words h.0, mapped_in_bank base n rs h.1)

numbered_in_bank : (base n : ℕ) (ps : List Numbered) (bs : List Bank) → AreShort bs → AllInBank base (numbered base ps bs n)
numbered_in_bank base n [] bs h = tt
numbered_in_bank base n (p ∷ ps) [] h = tt
numbered_in_bank base n (p ∷ ps) (b ∷ bs) h =
    elim (nat_eq p.number n) as (λ t. AllInBank base (if t then map (mapped (base + 2048 * n) n) b.registers else numbered base ps bs n)) [
      | true ↦ mapped_in_bank base n b.registers h.0
      | false ↦ numbered_in_bank base n ps bs h.1
    ]

in_bank_append : (base : ℕ) (xs ys : List Register) → AllInBank base xs → AllInBank base ys → AllInBank base (xs ++ ys)
in_bank_append base [] ys h k = k
in_bank_append base (x ∷ xs) ys h k = (h.0, in_bank_append base xs ys h.1 k)

numbers_in_bank : (base : ℕ) (ps : List Numbered) (bs : List Bank) → AreShort bs → (xs : List ℕ) → AllInBank base (flat_map (numbered base ps bs) xs)
numbers_in_bank base ps bs h [] = tt
numbers_in_bank base ps bs h (n ∷ xs) =
    in_bank_append base (numbered base ps bs n) (flat_map (numbered base ps bs) xs) (numbered_in_bank base n ps bs h) (numbers_in_bank base ps bs h xs)

pub map_in_banks : (bs : List Bank) (p : Placement) → AreBanks bs → IsHoused bs p → AreInBanks p (map_of bs p)
unfolding map_of
map_in_banks bs p banks h =
    numbers_in_bank (base_of p.regions) p.banks bs (are_short bs banks (housed_few bs p h)) (range_with_len 0 32)

-- what the code lists is the map
pub list_is : (bs : List Bank) (p : Placement) (base : ℕ) (given : List Numbered) (own : List Bank) (list : List Register) → base ≡ base_of p.regions → given ≡ p.banks → own ≡ bs →
    list ≡ flat_map (numbered base given own) (range_with_len 0 32) → list ≡ map_of bs p
unfolding map_of
list_is bs p base given own list b g o e =
    e ∙ (ap (λ n. flat_map (numbered n given own) (range_with_len 0 32)) b
    ∙ (ap (λ ns. flat_map (numbered (base_of p.regions) ns own) (range_with_len 0 32)) g ∙ ap (λ xs. flat_map (numbered (base_of p.regions) p.banks xs) (range_with_len 0 32)) o))

-- ---- whether there are banks

pub none_left : (bs own : List Bank) (b : Bool) → own ≡ bs → b ≡ (length own == 0) → b ≡ true → length bs ≡ 0
none_left bs own b same e h = ap length (sym same) ∙ eqb-true (length own) 0 (sym e ∙ h)

pub some_left : (bs own : List Bank) (b : Bool) → own ≡ bs → b ≡ (length own == 0) → b ≡ false → length bs ≡ 0 → ⊥
some_left bs own b same e h = λ none. eqb-false (length own) 0 (sym e ∙ h) (ap length same ∙ none)
