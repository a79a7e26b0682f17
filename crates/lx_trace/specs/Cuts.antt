-- One byte more of bytes that are cut.
use Rattle.std.specs.Prelude.{◌≡◌, ℕ, [], ◌∷◌, ◌++◌, nat_eq, if◌then◌else◌}
use Rattle.lx_trace.specs.declared.pieces.Cutting.{Cutting}

-- at the mark the piece is done, else it is longer
abbrev pub with_byte : ℕ → ℕ → Cutting → Cutting
with_byte mark b c = if nat_eq b mark then record { done = c.done ++ c.front ∷ []; front = [] } else record { done = c.done; front = c.front ++ b ∷ [] }

abbrev pub IsCut : ℕ → ℕ → Cutting → Cutting → Type 0
IsCut mark b old new = new ≡ with_byte mark b old
