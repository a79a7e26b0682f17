-- A size that is short is told, and what the test of the wishes says.
use Rattle.std.proofs.Common.{◌≡◌, ℕ, suc, zero, ◌+◌, ◌<◌, ◌≤◌, Bool, true, false, ◌&&◌, leb, List, [], ◌∷◌, length, take, get_or, Option, Some, None, Result, Ok, Err, ◌⊎◌, inl, inr, refl, arith, ap, sym, subst, ◌∙◌}
use Rattle.std.specs.Prelude.{slice_get}
use Rattle.std.specs.List.{AllByRecursion, list_all, list_any}
use Rattle.std.specs.Str.{bytes_eq}
use Rattle.std.proofs.lemmas.Slice.Eq.{bytes_eq-Decides}
use Rattle.std.proofs.lemmas.Bool.{and_parts, and_from, or_cases, cases_lt, cases_eq, cases_Bool, leb-true, le-leb, false≢true}
use Rattle.lx_text.specs.declared.faults.Refusal.{Refusal}
use Rattle.lx_text.specs.declared.faults.Refusal.TheVariants as refusal
use Rattle.lx_fhdl.specs.declared.places.Wishes.{Wishes}
use Rattle.lx_fhdl.specs.declared.places.RegionWish.{RegionWish}
use Rattle.lx_fhdl.specs.declared.places.BankWish.{BankWish}
use Rattle.lx_fhdl.specs.declared.places.Placement.{Placement}
use Rattle.lx_regions.specs.declared.spots.Spot.{Spot}
use Rattle.lx_regions.specs.Free as free
use Rattle.lx_regions.proofs.Law.{placement_enough}
use Rattle.lx_alloc.specs.Judged.{first}
use Rattle.lx_alloc.specs.Places.{fixed_faults, spots_of, AreSized, IsShortOfSlots}
use Rattle.lx_alloc.specs.Answer.{Answers, TellsExhausted}
use Rattle.lx_alloc.proofs.Legal.{wishes_of}

too_many : (ws : List RegionWish) (spots : List Spot) → IsShortOfSlots ws → free.IsPlacement (spots_of ws) spots → ⊥
too_many ws spots s placement =
    let most = placement_enough (spots_of ws) spots s.cached s.size s.room (wishes_of ws) s.power placement s.is_room in
    omega (arith, most, s.short)

pub tells : (w : Wishes) (r : Result Placement Refusal) → Answers w r → fixed_faults w.regions ≡ [] → IsShortOfSlots w.regions → TellsExhausted w r
tells w (Ok p) h fixed short = too_many w.regions h.regions.spots short h.regions.least.placement
tells w (Err (refusal.Fault f)) h fixed short = elim h [
  | inl told ↦ let e = ap first fixed in absurd (cc)
  | inr rest ↦ elim rest [
    | inl exhausted ↦ exhausted.1
    | inr roomy ↦ absurd (too_many w.regions roomy.1.spots short roomy.1.placement)
  ]
]
tells w (Err refusal.NoMemory) h fixed short = tt

pub sized_from : (ws : List RegionWish) → list_all (λ w. leb w.size 4294967296) ws ≡ true → AreSized ws
sized_from [] e = tt
sized_from (w ∷ ws) e =
    let parts = and_parts (leb w.size 4294967296) (list_all (λ v. leb v.size 4294967296) ws) e in
    (leb-true w.size 4294967296 parts.0, sized_from ws parts.1)

pub sized_to : (ws : List RegionWish) → AreSized ws → list_all (λ w. leb w.size 4294967296) ws ≡ true
sized_to [] h = refl
sized_to (w ∷ ws) (own, rest) = and_from _ _ (le-leb w.size 4294967296 own) (sized_to ws rest)
