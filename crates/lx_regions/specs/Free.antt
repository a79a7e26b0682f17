-- How many slots of a size are free, and the law that this hangs on no choice.
use Rattle.std.specs.Prelude.{◌≡◌, ℕ, suc, zero, ◌+◌, ◌*◌, ◌/◌, ◌≤◌, Bool, true, false, not, ◌&&◌, nat_lt, ◌==◌, ◌⊎◌, List, if◌then◌else◌, count_by}
use Rattle.std.specs.Int.{IsPowerOfTwo}
use Rattle.std.specs.List.{AllByRecursion, AllZip}
use Rattle.lx_regions.specs.declared.spots.Place.TheVariants.{Chosen}
use Rattle.lx_regions.specs.declared.spots.Spot.{Spot}
use Rattle.lx_regions.specs.Space.{is_inside, is_left, is_open, is_chosen, IsLegal}

-- how many of the numbers below k pass the test
unfoldable pub count : ℕ → (ℕ → Bool) → ℕ
count zero test = 0
count (suc k) test = count k test + (if test k then 1 else 0)

-- how many aligned places of n bytes in the window share no byte with a region that counts
unfoldable pub free_by : (ℕ → Bool) → Bool → ℕ → List Spot → ℕ
free_by counts cached n ys =
    count (4294967296 / n) (λ i. is_inside cached (i * n) n && is_left counts ys (i * n) n)

-- how many aligned places of n bytes no fixed region and no larger chosen one touches
abbrev pub free : Bool → ℕ → List Spot → ℕ
free cached n ys = free_by (λ m. nat_lt n m) cached n ys

-- the two are of one window
abbrev pub same : Bool → Bool → Bool
same true c = c
same false c = not c

-- a region of this window and size that has no place yet
abbrev pub is_wanted : Bool → ℕ → Spot → Bool
is_wanted cached n x = is_open x.place && (same cached x.cached && (x.size == n))

-- a region of this window that is larger and has no place yet
abbrev pub is_larger : Bool → ℕ → Spot → Bool
is_larger cached n x = is_open x.place && (same cached x.cached && nat_lt n x.size)

-- how many regions of this window and size wish for a place
abbrev pub wanted : Bool → ℕ → List Spot → ℕ
wanted cached n xs = count_by (is_wanted cached n) xs

-- y is x, which was open, at a chosen origin
pub record IsPut (x y : Spot) : Type 0 where
  pub unplaced : is_open x.place ≡ true
  pub origin : ℕ
  pub is : y ≡ record x { place = Chosen origin }

-- y is x at a chosen origin, or x itself where it need not get one
abbrev pub Gets : (Spot → Bool) → Spot → Spot → Type 0
Gets must x y = IsPut x y ⊎ ((y ≡ x) × (must x ≡ false))

-- the wishes xs became ys: those that must have got places, others may have, and all places are legal
pub record Grew (must : Spot → Bool) (xs ys : List Spot) : Type 0 where
  pub each : AllZip (Gets must) xs ys
  pub legal : IsLegal ys

-- a legal placement: each open wish has got a place
abbrev pub IsPlacement : List Spot → List Spot → Type 0
IsPlacement xs ys = Grew (λ x. is_open x.place) xs ys

-- a legal choice of the places of the window's larger regions
abbrev pub IsChoice : Bool → ℕ → List Spot → List Spot → Type 0
IsChoice cached n xs ys = Grew (is_larger cached n) xs ys

-- so many slots of n bytes are free in the window for regions of that size
pub record IsRoom (cached : Bool) (n : ℕ) (xs : List Spot) (room : ℕ) : Type 0 where
  pub choice : List Spot
  pub chosen : IsChoice cached n xs choice
  pub counted : free cached n choice ≡ room

-- wishes have rounded sizes, and no place is chosen yet
abbrev pub IsWish : Spot → Type 0
IsWish x = IsPowerOfTwo x.size × (x.size ≤ 4294967296) × (is_chosen x.place ≡ false)

abbrev pub AreWishes : List Spot → Type 0
AreWishes xs = AllByRecursion IsWish xs

-- the free slots are as many for every legal choice of the larger regions
abbrev pub FreeIsOne : Type 0
FreeIsOne =
    (xs ys zs : List Spot) (cached : Bool) (n : ℕ) →
    AreWishes xs → IsPowerOfTwo n → IsChoice cached n xs ys → IsChoice cached n xs zs →
    free cached n ys ≡ free cached n zs

-- where a legal placement exists, no size has more wishes than free slots
abbrev pub EnoughIsFree : Type 0
EnoughIsFree =
    (xs ys : List Spot) (cached : Bool) (n room : ℕ) →
    AreWishes xs → IsPowerOfTwo n → IsPlacement xs ys → IsRoom cached n xs room →
    wanted cached n xs ≤ room
