-- What the placement of a description gives: names are words, origins lie within the 4 GiB, numbers are at most 31.
use Rattle.std.proofs.Common.{◌≡◌, ℕ, suc, ◌<◌, ◌≤◌, Bool, true, false, ◌&&◌, List, [], ◌∷◌, Option, Some, None, map, refl, ap, sym, ◌∙◌, arith, inl, inr, subst, nat_lt, nat_le}
use Rattle.std.specs.Prelude.{slice_get}
use Rattle.std.specs.List.{AllByRecursion, AllZip, list_all}
use Rattle.std.proofs.lemmas.Bool.{and_from, and_parts, le-leb, lt-ltb}
use Rattle.lx_fhdl.specs.Keeping.{EachOf}
use Rattle.lx_fhdl.specs.declared.places.Fix.{Fix}
use Rattle.lx_fhdl.specs.declared.places.Numbered.{Numbered}
use Rattle.lx_fhdl.specs.declared.places.Region.{Region}
use Rattle.lx_fhdl.specs.declared.places.RegionWish.{RegionWish}
use Rattle.lx_description.specs.Keeping.{IsRegion, has_name}
use Rattle.lx_regions.specs.Free.{Gets}
use Rattle.lx_regions.specs.Rounded.{rounded}
use Rattle.lx_regions.specs.Space.{IsSound, Suits, is_inside, is_open, origin_of}
use Rattle.lx_regions.specs.declared.spots.Spot.{Spot}
use Rattle.lx_regions.proofs.Doubling.{rounded_power}
use Rattle.lx_regions.proofs.Slots.{power_pos}
use Rattle.lx_regions.proofs.Tests.{inside_parts}
use Rattle.lx_alloc.specs.Numbers.{AreNumbered}
use Rattle.lx_alloc.specs.Places.{ArePlaced, AreSized, origin_at, regions_at, spot_of, spots_of}
use Rattle.lx_soc.specs.Told.{are_numbered, are_regions, is_word}
use Rattle.lx_soc.proofs.Told.{identifier_word}

-- ---- regions

low_inside : (cached : Bool) (o n : ℕ) → is_inside cached o n ≡ true → 1 ≤ n → o < 4294967296
low_inside true o n h some = omega (arith, (inside_parts true o n h).1)
low_inside false o n h some = omega (arith, (inside_parts false o n h).1)

some_size : (w : RegionWish) (y : Spot) → Gets (λ x. is_open x.place) (spot_of w) y → 1 ≤ y.size
some_size w y gets =
    let power = rounded_power w.size in
    let wide : 1 ≤ rounded w.size = power_pos (rounded w.size) power.0 in
    let same : y.size ≡ rounded w.size = elim gets [ inl put ↦ ap (λ (z : Spot). z.size) put.is | inr own ↦ ap (λ (z : Spot). z.size) own.0 ] in
    omega (arith, wide, same)

low_origin : (y : Spot) (o : Option ℕ) → 1 ≤ y.size → ((p : ℕ) → o ≡ Some p → Suits y.cached y.size p) → origin_at o < 4294967296
low_origin y None some sound = omega arith
low_origin y (Some o) some sound = low_inside y.cached o y.size (sound o refl).inside some

regions_told : (ws : List RegionWish) (ys : List Spot) → EachOf IsRegion ws → AllZip (Gets (λ x. is_open x.place)) (spots_of ws) ys → AllByRecursion IsSound ys →
    are_regions (regions_at ws ys) ≡ true
regions_told [] ys named zip sound = refl
regions_told (w ∷ ws) [] named zip sound = refl
regions_told (w ∷ ws) (y ∷ ys) named zip sound =
    let low = low_origin y (origin_of y.place) (some_size w y zip.0) sound.0 in
    and_from (is_word w.name && nat_lt (origin_at (origin_of y.place)) 4294967296) (are_regions (regions_at ws ys))
    (and_from (is_word w.name) (nat_lt (origin_at (origin_of y.place)) 4294967296) (identifier_word w.name named.0.0) (lt-ltb (origin_at (origin_of y.place)) 4294967296 low))
    (regions_told ws ys named.1 zip.1 sound.1)

-- Names of regions are words, and regions begin within the 4 GiB.
pub all_regions_told : (ws : List RegionWish) (rs : List Region) → EachOf IsRegion ws → ArePlaced ws rs → are_regions rs ≡ true
all_regions_told ws rs named placed =
    let grew = placed.least.placement in
    subst (λ xs. are_regions xs ≡ true) (sym placed.are) (regions_told ws placed.spots named grew.each grew.legal.sound)

pub are_sized : (ws : List RegionWish) → EachOf IsRegion ws → AreSized ws
are_sized [] h = tt
are_sized (w ∷ ws) h = (h.0.2, are_sized ws h.1)

-- ---- numbers

numbers_told : (xs : List Numbered) → list_all is_word (map (λ (x : Numbered). x.name) xs) ≡ true →
    ((i n : ℕ) → slice_get (map (λ (x : Numbered). x.number) xs) i ≡ Some n → n ≤ 31) → are_numbered xs ≡ true
numbers_told [] named within = refl
numbers_told (x ∷ xs) named within =
    let own = and_parts (is_word x.name) (list_all is_word (map (λ (y : Numbered). y.name) xs)) named in
    and_from (is_word x.name && nat_le x.number 31) (are_numbered xs)
    (and_from (is_word x.name) (nat_le x.number 31) own.0 (le-leb x.number 31 (within 0 x.number refl)))
    (numbers_told xs own.1 (λ i n is. within (suc i) n is))

-- Names of banks or interrupts are words where those wished for are, and their numbers are at most 31.
pub all_numbers_told : (names : List (List ℕ)) (wished : List (Option ℕ)) (given : List Numbered) → list_all is_word names ≡ true →
    AreNumbered names wished given → are_numbered given ≡ true
all_numbers_told names wished given named numbered =
    numbers_told given (ap (list_all is_word) numbered.named ∙ named) numbered.least.within

-- Names of interrupts that are wished for are words.
pub irq_words : (fs : List Fix) → list_all has_name fs ≡ true → list_all is_word (map (λ (f : Fix). f.name) fs) ≡ true
irq_words [] h = refl
irq_words (f ∷ fs) h =
    let own = and_parts (has_name f) (list_all has_name fs) h in
    and_from (is_word f.name) (list_all is_word (map (λ (g : Fix). g.name) fs)) (identifier_word f.name own.0) (irq_words fs own.1)
