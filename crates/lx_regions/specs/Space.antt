-- Regions in the two windows of the address space, and when their places are legal.
use Rattle.std.specs.Prelude.{◌≡◌, ℕ, ◌+◌, ◌%◌, ◌≤◌, Bool, true, false, not, ◌&&◌, ◌||◌, nat_le, List, [], ◌∷◌, Option, Some, None}
use Rattle.std.specs.Int.{IsPowerOfTwo}
use Rattle.std.specs.List.{AllByRecursion, list_all}
use Rattle.lx_regions.specs.declared.spots.Place.{Place}
use Rattle.lx_regions.specs.declared.spots.Place.TheVariants.{Fixed, Chosen, Open}
use Rattle.lx_regions.specs.declared.spots.Spot.{Spot}

-- the cached window is the lower half of the 4 GiB, the other one the upper half
abbrev pub window_start : Bool → ℕ
window_start true = 0
window_start false = 2147483648

-- the n bytes from o on lie in the window
unfoldable pub is_inside : Bool → ℕ → ℕ → Bool
is_inside cached o n =
    nat_le (window_start cached) o && nat_le (o + n) (window_start cached + 2147483648)

-- the n bytes from o on and the m bytes from p on share none
unfoldable pub is_apart : ℕ → ℕ → ℕ → ℕ → Bool
is_apart o n p m = nat_le (o + n) p || nat_le (p + m) o

-- where the region is
abbrev pub origin_of : Place → Option ℕ
origin_of (Fixed o) = Some o
origin_of (Chosen o) = Some o
origin_of Open = None

abbrev pub is_fixed : Place → Bool
is_fixed (Fixed o) = true
is_fixed (Chosen o) = false
is_fixed Open = false

abbrev pub is_chosen : Place → Bool
is_chosen (Fixed o) = false
is_chosen (Chosen o) = true
is_chosen Open = false

abbrev pub is_open : Place → Bool
is_open (Fixed o) = false
is_open (Chosen o) = false
is_open Open = true

-- the place, unless it was chosen
abbrev pub unchosen : Place → Place
unchosen (Fixed o) = Fixed o
unchosen (Chosen o) = Open
unchosen Open = Open

-- the region without the place that was chosen for it
abbrev pub reopened : Spot → Spot
reopened y = record y { place = unchosen y.place }

-- the n bytes from o on share none with the m bytes of a region at the place; of chosen places only those
-- of sizes that count are looked at
abbrev pub leaves : (ℕ → Bool) → ℕ → ℕ → Place → ℕ → Bool
leaves counts o n (Fixed p) m = is_apart o n p m
leaves counts o n (Chosen p) m = not (counts m) || is_apart o n p m
leaves counts o n Open m = true

-- the n bytes from o on share none with any region that counts
unfoldable pub is_left : (ℕ → Bool) → List Spot → ℕ → ℕ → Bool
is_left counts ys o n = list_all (λ y. leaves counts o n y.place y.size) ys

-- every size counts
abbrev pub every : ℕ → Bool
every m = true

-- the sizes are those that an address space of 4 GiB has
abbrev pub AreSized : List Spot → Type 0
AreSized ys = AllByRecursion (λ y. IsPowerOfTwo y.size × (y.size ≤ 4294967296)) ys

-- the origin suits a region of this size: it is aligned, and the region lies in its window
pub record Suits (cached : Bool) (n o : ℕ) : Type 0 where
  pub aligned : o % n ≡ 0
  pub inside : is_inside cached o n ≡ true

-- where the region has a place, that suits it
abbrev pub IsSound : Spot → Type 0
IsSound y = (o : ℕ) → origin_of y.place ≡ Some o → Suits y.cached y.size o

-- the two regions share no byte
abbrev pub AreApart : Spot → Spot → Type 0
AreApart x y = (o : ℕ) → origin_of x.place ≡ Some o → leaves every o x.size y.place y.size ≡ true

-- each region is apart from those after it
abbrev pub AllApart : List Spot → Type 0
AllApart [] = Unit {0}
AllApart (y ∷ ys) = AllByRecursion (AreApart y) ys × AllApart ys

-- the places are legal: each region is aligned and in its window, and no two share a byte
pub record IsLegal (ys : List Spot) : Type 0 where
  pub sound : AllByRecursion IsSound ys
  pub apart : AllApart ys
