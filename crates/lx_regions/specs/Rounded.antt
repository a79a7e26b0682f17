-- Sizes of regions.
use Rattle.std.specs.Prelude.{ℕ, suc, zero, ◌*◌, if◌then◌else◌, nat_le}

-- the first block that holds n bytes, of at most k that double
unfoldable pub first_block : ℕ → ℕ → ℕ → ℕ
first_block zero block n = block
first_block (suc k) block n = if nat_le n block then block else first_block k (2 * block) n

-- the least power of two that is at least 4 and at least n, for n up to 2 ^ 32
unfoldable pub rounded : ℕ → ℕ
rounded n = first_block 30 4 n
