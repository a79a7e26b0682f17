-- Tables over the places of an arena.
use Rattle.std.specs.Prelude.{◌≡◌, ℕ, List, ◌<◌, length, slice_index_or}

-- of the first n places, what f says of each; `none` stands past them
pub record IsTable {T : Type 0} (none : T) (f : ℕ → T) (n : ℕ) (xs : List T) : Type 0 where
  pub long : length xs ≡ n
  pub each : (k : ℕ) → k < n → slice_index_or xs k none ≡ f k
