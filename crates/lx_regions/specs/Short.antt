-- When a size has more wishes than free slots.
use Rattle.std.specs.Prelude.{◌≡◌, ℕ, ◌<◌, ◌≤◌, true, List, Some, slice_get, take}
use Rattle.lx_regions.specs.declared.spots.Spot.{Spot}
use Rattle.lx_regions.specs.Space.{is_open}
use Rattle.lx_regions.specs.Free.{IsRoom, wanted}
use Rattle.lx_regions.specs.Least.{rank}

-- there are free slots for all wishes of the size of x in its window
pub record IsRoomy (xs : List Spot) (x : Spot) : Type 0 where
  pub room : ℕ
  pub is_room : IsRoom x.cached x.size xs room
  pub enough : wanted x.cached x.size xs ≤ room

-- the wish at i is the first of its window and size that finds no free slot, and no size before that is short
pub record IsShort (xs : List Spot) (i : ℕ) : Type 0 where
  pub wish : Spot
  pub wished : slice_get xs i ≡ Some wish
  pub unplaced : is_open wish.place ≡ true
  pub room : ℕ
  pub is_room : IsRoom wish.cached wish.size xs room
  pub short : room < wanted wish.cached wish.size xs
  pub past : wanted wish.cached wish.size (take i xs) ≡ room
  pub earlier : (j : ℕ) (x : Spot) → slice_get xs j ≡ Some x → is_open x.place ≡ true → rank wish < rank x → IsRoomy xs x
