-- Numbers below a count that are counted or marked.
use Rattle.std.specs.Prelude.{◌≡◌, ℕ, Bool, false, List, ◌+◌, ◌<◌, ◌&&◌, length, min, nat_lt, not, slice_index_or, slice_set}
use Rattle.lx_description.specs.Keeping.{times}

-- how often each number below n stands there; 2 stands for all that are more
pub record AreCounts (n : ℕ) (xs counts : List ℕ) : Type 0 where
  pub long : length counts ≡ n
  pub each : (k : ℕ) → k < n → slice_index_or counts k 0 ≡ min (times k xs) 2

-- a number more, where it is counted
abbrev pub counted : List ℕ → ℕ → List ℕ
counted counts x = slice_set counts x (min (slice_index_or counts x 0 + 1) 2)

-- a number has a mark, which isn't set
abbrev pub can_mark : List Bool → ℕ → Bool
can_mark marks x = nat_lt x (length marks) && not (slice_index_or marks x false)
