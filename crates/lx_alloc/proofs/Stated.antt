-- Stated origins, wishes as regions, and regions at their places.
use Rattle.std.proofs.Common.{◌≡◌, ℕ, suc, zero, ◌+◌, ◌-◌, ◌%◌, ◌<◌, ◌≤◌, Bool, true, false, not, List, [], ◌∷◌, ◌++◌, length, get_or, take, map, ltb, ◌⊎◌, inl, inr, Option, Some, None, refl, arith, ap, sym, subst, ◌∙◌, add-one}
use Rattle.std.specs.Prelude.{slice_get, option_map}
use Rattle.std.proofs.lemmas.Bool.{le-ltb, lt-ltb, eq-eqb, cases_lt}
use Rattle.std.proofs.lemmas.Option.{slice_get-map, get_or_from_slice_get, slice_get_within}
use Rattle.lx_text.specs.declared.faults.Fault.{Fault}
use Rattle.lx_text.specs.declared.faults.Kind.TheVariants as kind
use Rattle.lx_fhdl.specs.declared.places.RegionWish.{RegionWish}
use Rattle.lx_fhdl.specs.declared.places.Region.{Region}
use Rattle.lx_regions.specs.declared.spots.Spot.{Spot}
use Rattle.lx_regions.specs.Rounded.{rounded}
use Rattle.lx_regions.specs.Space.{is_inside, is_apart}
use Rattle.lx_regions.proofs.Tests.{apart_before, apart_behind, meets_from}
use Rattle.lx_regions.specs.Free.{wanted}
use Rattle.lx_regions.specs.Short.{IsShort}
use Rattle.std.specs.Int.{IsPowerOfTwo}
use Rattle.lx_regions.proofs.Law.{placement_enough}
use Rattle.lx_regions.proofs.Doubling.{rounded_power}
use Rattle.lx_alloc.proofs.Legal.{wishes_of}
use Rattle.lx_alloc.specs.Judged.{first}
use Rattle.lx_alloc.specs.Places.{place_faults, spot_of, spots_of, region_of, regions_at, IsExhausted}

pub wrong_window : (w : RegionWish) (o r : ℕ) (name : List ℕ) → w.origin ≡ Some o → r ≡ rounded w.size → name ≡ w.name →
    o + r ≤ 4294967296 → o % r ≡ 0 → is_inside w.cached o r ≡ false →
    first (place_faults w) ≡ Some (record { line = w.line; kind = kind.WrongWindow name })
wrong_window w o r name e size named fits aligned out =
    rw (named, e, sym size, le-ltb 4294967296 (o + r) fits, eq-eqb (o % r) 0 aligned, out) refl

pub origin_legal : (w : RegionWish) (o r : ℕ) → w.origin ≡ Some o → r ≡ rounded w.size →
    o + r ≤ 4294967296 → o % r ≡ 0 → is_inside w.cached o r ≡ true → place_faults w ≡ []
origin_legal w o r e size fits aligned inside =
    rw (e, sym size, le-ltb 4294967296 (o + r) fits, eq-eqb (o % r) 0 aligned, inside) refl

pub regions_more : (ws : List RegionWish) (ys : List Spot) (i : ℕ) (d : RegionWish) (e : Spot) → i < length ws → length ws ≡ length ys →
    regions_at (take (suc i) ws) (take (suc i) ys) ≡ regions_at (take i ws) (take i ys) ++ region_of (get_or ws i d) (get_or ys i e) ∷ []
regions_more [] ys i d e l same = absurd (omega arith)
regions_more (w ∷ ws) [] i d e l same = absurd (omega arith)
regions_more (w ∷ ws) (y ∷ ys) zero d e l same = refl
regions_more (w ∷ ws) (y ∷ ys) (suc i) d e l same =
    ap (λ z. region_of w y ∷ z) (regions_more ws ys i d e (omega arith) (omega arith))

pub exhausted_told : (ws : List RegionWish) (ys : List Spot) (at : ℕ) (w : RegionWish) (d : Spot) (room total : ℕ) →
    ys ≡ spots_of ws → (short : IsShort (spots_of ws) at) → slice_get ws at ≡ Some w →
    room ≡ wanted (get_or ys at d).cached (get_or ys at d).size (take at ys) →
    total ≡ wanted (get_or ys at d).cached (get_or ys at d).size ys →
    IsExhausted ws (record { line = w.line; kind = kind.RegionExhausted (get_or ys at d).cached (get_or ys at d).size room total })
exhausted_told ws ys at w d room total spots short wished count all =
    let own : slice_get (spots_of ws) at ≡ Some (spot_of w) = slice_get-map spot_of ws at ∙ ap (λ z. option_map spot_of z) wished in
    let here : get_or ys at d ≡ spot_of w = ap (λ z. get_or z at d) spots ∙ get_or_from_slice_get (spots_of ws) at (spot_of w) d own in
    let same : short.wish ≡ spot_of w = cc in
    let free : wanted (spot_of w).cached (spot_of w).size (take at (spots_of ws)) ≡ short.room =
    subst (λ z. wanted z.cached z.size (take at (spots_of ws)) ≡ short.room) same short.past in
    let counted : room ≡ short.room =
    count ∙ ap (λ z. wanted z.cached z.size (take at ys)) here ∙ ap (λ z. wanted (spot_of w).cached (spot_of w).size (take at z)) spots ∙ free in
    let totalled : total ≡ wanted (spot_of w).cached (spot_of w).size (spots_of ws) =
    all ∙ ap (λ z. wanted z.cached z.size ys) here ∙ ap (λ z. wanted (spot_of w).cached (spot_of w).size z) spots in
    record {
      at = at;
      wish = w;
      wished = wished;
      short = short;
      fault = rw (here, counted, totalled) refl;
      none = λ spots_ placement.
          let power : IsPowerOfTwo short.wish.size = subst (λ z. IsPowerOfTwo z.size) (sym same) (rounded_power w.size).0 in
          let most = placement_enough (spots_of ws) spots_ short.wish.cached short.wish.size short.room (wishes_of ws) power placement short.is_room in
          absurd (omega (arith, most, short.short));
    }

length_spots : (ws : List RegionWish) → length (spots_of ws) ≡ length ws
length_spots [] = refl
length_spots (w ∷ ws) = ap suc (length_spots ws)

pub short_within : (ws : List RegionWish) (at : ℕ) → IsShort (spots_of ws) at → at < length ws
short_within ws at short = omega (arith, slice_get_within (spots_of ws) at short.wish short.wished, length_spots ws)

pub regions_push : (old new : List Region) (ws : List RegionWish) (ys : List Spot) (i : ℕ) (x : RegionWish) (d : Spot) (region : Region) →
    i < length ws → length ws ≡ length ys → x ≡ get_or ws i x → old ≡ regions_at (take i ws) (take i ys) →
    region ≡ region_of x (get_or ys i d) → new ≡ old ++ region ∷ [] → new ≡ regions_at (take (i + 1) ws) (take (i + 1) ys)
regions_push old new ws ys i x d region l same read before made pushed =
    let more = regions_more ws ys i x d l same in
    let own : region ≡ region_of (get_or ws i x) (get_or ys i d) = made ∙ ap (λ z. region_of z (get_or ys i d)) read in
    rw add-one (pushed ∙ ap (λ z. old ++ z ∷ []) own ∙ ap (λ z. z ++ region_of (get_or ws i x) (get_or ys i d) ∷ []) before ∙ sym more)

-- stated origins that share a byte
pub overlap_below : (o n p m : ℕ) → zero < m → o < p → not (is_apart o n p m) ≡ ltb (p - o) n
overlap_below o n p m pos below = elim (cases_lt (p - o) n) [
  | inl near ↦ rw (meets_from o n p m (omega arith) (omega arith), lt-ltb (p - o) n near) refl
  | inr far ↦ rw (apart_before o n p m (omega arith), le-ltb (p - o) n far) refl
]

pub overlap_above : (o n p m : ℕ) → zero < n → p ≤ o → not (is_apart o n p m) ≡ ltb (o - p) m
overlap_above o n p m pos above = elim (cases_lt (o - p) m) [
  | inl near ↦ rw (meets_from o n p m (omega arith) (omega arith), lt-ltb (o - p) m near) refl
  | inr far ↦ rw (apart_behind o n p m (omega arith), le-ltb (o - p) m far) refl
]
