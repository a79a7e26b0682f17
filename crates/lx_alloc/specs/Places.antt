-- The faults of regions whose origins are stated, and regions with their places.
use Rattle.std.specs.Prelude.{◌≡◌, ℕ, ◌+◌, ◌%◌, Bool, true, false, not, ◌==◌, nat_lt, List, [], ◌∷◌, ◌++◌, Option, Some, None, map, flat_map, slice_get, ◌<◌, ◌≤◌, Result, Ok, Err}
use Rattle.std.specs.Int.{IsPowerOfTwo}
use Rattle.std.specs.List.{AllByRecursion}
use Rattle.lx_text.specs.declared.faults.Fault.{Fault}
use Rattle.lx_text.specs.declared.faults.Refusal.{Refusal}
use Rattle.lx_text.specs.declared.faults.Refusal.TheVariants as refusal
use Rattle.lx_text.specs.declared.faults.Kind.TheVariants as kind
use Rattle.lx_fhdl.specs.declared.places.RegionWish.{RegionWish}
use Rattle.lx_fhdl.specs.declared.places.Region.{Region}
use Rattle.lx_regions.specs.declared.spots.Place.{Place}
use Rattle.lx_regions.specs.declared.spots.Place.TheVariants.{Fixed, Open}
use Rattle.lx_regions.specs.declared.spots.Spot.{Spot}
use Rattle.lx_regions.specs.Rounded.{rounded}
use Rattle.lx_regions.specs.Space.{is_inside, is_apart, origin_of}
use Rattle.lx_regions.specs.Free.{IsPlacement, IsRoom, wanted}
use Rattle.lx_regions.specs.Least.{IsLeast}
use Rattle.lx_regions.specs.Short.{IsShort}
use Rattle.lx_alloc.specs.Judged.{told, each_pair}

-- a fixed region of the rounded size: past the 4 GiB, misaligned, or not in its window
abbrev pub origin_faults : RegionWish → ℕ → Option ℕ → List Fault
origin_faults w size None = []
origin_faults w size (Some o) =
    told (nat_lt 4294967296 (o + size)) w.line (kind.RegionRange w.name)
    ++ (told (not (o % size == 0)) w.line (kind.RegionMisaligned w.name o size)
    ++ told (not (is_inside w.cached o size)) w.line (kind.WrongWindow w.name))

abbrev pub place_faults : RegionWish → List Fault
place_faults w = origin_faults w (rounded w.size) w.origin

-- two fixed regions share a byte
abbrev pub overlaps : Option ℕ → ℕ → Option ℕ → ℕ → Bool
overlaps (Some o) n (Some p) m = not (is_apart o n p m)
overlaps (Some o) n None m = false
overlaps None n p m = false

abbrev pub overlap_faults : RegionWish → RegionWish → List Fault
overlap_faults later earlier =
    told (overlaps later.origin (rounded later.size) earlier.origin (rounded earlier.size))
    later.line (kind.RegionOverlap earlier.name later.name)

-- first the faults of each fixed region, then those of each with the ones before it
abbrev pub fixed_faults : List RegionWish → List Fault
fixed_faults ws = flat_map place_faults ws ++ each_pair overlap_faults [] ws

abbrev pub place_of : Option ℕ → Place
place_of None = Open
place_of (Some o) = Fixed o

-- a wish as a region of its rounded size
abbrev pub spot_of : RegionWish → Spot
spot_of w = record { place = place_of w.origin; size = rounded w.size; cached = w.cached }

abbrev pub spots_of : List RegionWish → List Spot
spots_of ws = map spot_of ws

-- a size has more wishes than free slots: the fault tells both counts at the first wish past them, and there is no
-- legal placement
pub record IsExhausted (ws : List RegionWish) (f : Fault) : Type 0 where
  pub at : ℕ
  pub wish : RegionWish
  pub wished : slice_get ws at ≡ Some wish
  pub short : IsShort (spots_of ws) at
  pub fault : f ≡ record {
    line = wish.line;
    kind = kind.RegionExhausted wish.cached (rounded wish.size) short.room
        (wanted wish.cached (rounded wish.size) (spots_of ws));
  }
  pub none : (spots : List Spot) → IsPlacement (spots_of ws) spots → ⊥

-- there is a legal placement
pub record IsRoomy (ws : List RegionWish) : Type 0 where
  pub spots : List Spot
  pub placement : IsPlacement (spots_of ws) spots

abbrev pub origin_at : Option ℕ → ℕ
origin_at (Some o) = o
origin_at None = 0

-- a region by its wish and its place
abbrev pub region_of : RegionWish → Spot → Region
region_of w y = record { name = w.name; origin = origin_at (origin_of y.place); size = w.size; rounded = y.size; cached = w.cached }

abbrev pub regions_at : List RegionWish → List Spot → List Region
regions_at [] ys = []
regions_at (w ∷ ws) [] = []
regions_at (w ∷ ws) (y ∷ ys) = region_of w y ∷ regions_at ws ys

-- the regions are the wishes, each at its place in the least legal placement
pub record ArePlaced (ws : List RegionWish) (regions : List Region) : Type 0 where
  pub spots : List Spot
  pub least : IsLeast (spots_of ws) spots
  pub are : regions ≡ regions_at ws spots

-- a region has at most 4 GiB
abbrev pub AreSized : List RegionWish → Type 0
AreSized ws = AllByRecursion (λ w. w.size ≤ 4294967296) ws

-- the regions at their least places, or the fault of a size that is short; or memory ran out
abbrev pub Places : List RegionWish → Result (List Region) Refusal → Type 0
Places ws (Ok regions) = ArePlaced ws regions
Places ws (Err (refusal.Fault f)) = IsExhausted ws f
Places ws (Err refusal.NoMemory) = Unit {0}

-- the wanted slots of some size pass the free ones
pub record IsShortOfSlots (ws : List RegionWish) : Type 0 where
  pub cached : Bool
  pub size : ℕ
  pub power : IsPowerOfTwo size
  pub room : ℕ
  pub is_room : IsRoom cached size (spots_of ws) room
  pub short : room < wanted cached size (spots_of ws)
