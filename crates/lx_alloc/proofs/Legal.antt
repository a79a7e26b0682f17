-- Regions without a fault are legal.
use Rattle.std.proofs.Common.{◌≡◌, ℕ, suc, zero, ◌+◌, ◌%◌, ◌<◌, ◌≤◌, Bool, true, false, not, List, [], ◌∷◌, ◌++◌, map, Option, Some, None, ◌⊎◌, inl, inr, refl, arith, ap, sym, subst, ◌∙◌, eqb, cond}
use Rattle.std.specs.Prelude.{flat_map}
use Rattle.std.specs.List.{AllByRecursion}
use Rattle.std.proofs.lemmas.Bool.{not-false, eqb-true, false≢true}
use Rattle.lx_text.specs.declared.faults.Fault.{Fault}
use Rattle.lx_text.specs.declared.faults.Kind.{Kind}
use Rattle.lx_fhdl.specs.declared.places.RegionWish.{RegionWish}
use Rattle.lx_regions.specs.declared.spots.Spot.{Spot}
use Rattle.lx_regions.specs.Rounded.{rounded}
use Rattle.lx_regions.specs.Space.{is_inside, is_apart, origin_of, is_chosen, leaves, every, Suits, IsSound, AreApart, AllApart, IsLegal}
use Rattle.lx_regions.specs.Free.{IsWish, AreWishes}
use Rattle.lx_regions.proofs.Tests.{apart_parts, apart_before, apart_behind}
use Rattle.lx_regions.proofs.Doubling.{rounded_power}
use Rattle.lx_alloc.specs.Judged.{told, each_pair}
use Rattle.lx_alloc.specs.Places.{origin_faults, place_faults, overlaps, overlap_faults, fixed_faults, place_of, spot_of, spots_of, AreSized}
use Rattle.lx_alloc.proofs.Judging.{no_parts}

pub told_none : (test : Bool) (line : ℕ) (kind : Kind) → told test line kind ≡ [] → test ≡ false
told_none true line kind e = cc
told_none false line kind e = refl

plain : (o : Option ℕ) → is_chosen (place_of o) ≡ false
plain (Some o) = refl
plain None = refl

pub wishes_of : (ws : List RegionWish) → AreWishes (spots_of ws)
wishes_of [] = tt
wishes_of (w ∷ ws) = let p = rounded_power w.size in ((p.0, p.1, plain w.origin), wishes_of ws)

sound_of : (w : RegionWish) (n : ℕ) (stated : Option ℕ) (o : ℕ) → origin_faults w n stated ≡ [] → origin_of (place_of stated) ≡ Some o → Suits w.cached n o
sound_of w n None o none e = cc
sound_of w n (Some q) o none e =
    let same : q ≡ o = cc in
    let parts = no_parts _ _ none in
    let rest = no_parts _ _ parts.1 in
    let aligned = told_none _ _ _ rest.0 in
    let inside = told_none _ _ _ rest.1 in
    subst (λ z. Suits w.cached n z) same (record {
      aligned = eqb-true (q % n) 0 (not-false _ aligned);
      inside = not-false _ inside;
    })

sounds_of : (ws : List RegionWish) → flat_map place_faults ws ≡ [] → AllByRecursion IsSound (spots_of ws)
sounds_of [] none = tt
sounds_of (w ∷ ws) none =
    let parts = no_parts (place_faults w) _ none in
    ((λ o e. sound_of w (rounded w.size) w.origin o parts.0 e), sounds_of ws parts.1)

apart_turned : (o n p m : ℕ) → is_apart o n p m ≡ true → is_apart p m o n ≡ true
apart_turned o n p m h = elim (apart_parts o n p m h) [ inl a ↦ apart_behind p m o n a | inr b ↦ apart_before p m o n b ]

apart_of : (p q : Option ℕ) (n m o : ℕ) → overlaps q m p n ≡ false → origin_of (place_of p) ≡ Some o → leaves every o n (place_of q) m ≡ true
apart_of None q n m o none e = cc
apart_of (Some p) None n m o none e = refl
apart_of (Some p) (Some q) n m o none e =
    let same : p ≡ o = cc in
    subst (λ z. is_apart z n q m ≡ true) same (apart_turned q m p n (not-false _ none))

all_apart : (w : RegionWish) (before : List RegionWish) → flat_map (overlap_faults w) before ≡ [] → AllByRecursion (λ v. AreApart (spot_of v) (spot_of w)) before
all_apart w [] none = tt
all_apart w (v ∷ vs) none =
    let parts = no_parts (overlap_faults w v) _ none in
    ((λ o e. apart_of v.origin w.origin (rounded v.size) (rounded w.size) o (told_none _ _ _ parts.0) e), all_apart w vs parts.1)

abbrev ApartFrom : List RegionWish → RegionWish → Type 0
ApartFrom ws v = AllByRecursion (AreApart (spot_of v)) (spots_of ws)

none_apart : (before : List RegionWish) → AllByRecursion (ApartFrom []) before
none_apart [] = tt
none_apart (v ∷ vs) = (tt, none_apart vs)

split_last : (ws before : List RegionWish) (w : RegionWish) → AllByRecursion (ApartFrom ws) (before ++ w ∷ []) → AllByRecursion (ApartFrom ws) before × ApartFrom ws w
split_last ws [] w all = (tt, all.0)
split_last ws (v ∷ vs) w (here, all) = let rest = split_last ws vs w all in ((here, rest.0), rest.1)

joined : (w : RegionWish) (ws before : List RegionWish) → AllByRecursion (λ v. AreApart (spot_of v) (spot_of w)) before → AllByRecursion (ApartFrom ws) before → AllByRecursion (ApartFrom (w ∷ ws)) before
joined w ws [] a b = tt
joined w ws (v ∷ vs) (a, as_) (b, bs) = ((a, b), joined w ws vs as_ bs)

aparts_of : (before ws : List RegionWish) → each_pair overlap_faults before ws ≡ [] → AllByRecursion (ApartFrom ws) before × AllApart (spots_of ws)
aparts_of before [] none = (none_apart before, tt)
aparts_of before (w ∷ ws) none =
    let parts = no_parts (flat_map (overlap_faults w) before) _ none in
    let rest = aparts_of (before ++ w ∷ []) ws parts.1 in
    let both = split_last ws before w rest.0 in
    (joined w ws before (all_apart w before parts.0) both.0, (both.1, rest.1))

pub legal_of : (ws : List RegionWish) → fixed_faults ws ≡ [] → IsLegal (spots_of ws)
legal_of ws none =
    let parts = no_parts (flat_map place_faults ws) _ none in
    record { sound = sounds_of ws parts.0; apart = (aparts_of [] ws parts.1).1 }
