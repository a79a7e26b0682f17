-- Pairs that lie one after the other in one text.
use Rattle.std.specs.Prelude.{◌≡◌, ℕ, ◌≤◌, List, map, length, IfSome, slice_get, slice_range}
use Rattle.std.specs.Vec.{vec_capacity}
use Rattle.std.specs.Global.{Vec}
use Rattle.lx_outside.specs.declared.calls.Pair.{Pair}
use Rattle.lx_outside.specs.declared.sinks.Cut.{Cut}
use Rattle.lx_outside.specs.Calls.{pair}

-- the pair that lies at a cut
abbrev pub pair_at : List ℕ → Cut → Pair
pair_at text c = pair (slice_range text c.start c.middle) (slice_range text c.middle c.end)

abbrev pub pairs_at : List ℕ → List Cut → List Pair
pairs_at text cuts = map (λ c. pair_at text c) cuts

-- a cut of the first n bytes
pub record IsCut (n : ℕ) (c : Cut) : Type 0 where
  pub name : c.start ≤ c.middle
  pub bytes : c.middle ≤ c.end
  pub inside : c.end ≤ n

abbrev pub AllCuts : ℕ → List Cut → Type 0
AllCuts n cuts = (k : ℕ) → IfSome (slice_get cuts k) (λ c. IsCut n c)

-- what holds of a sink's text, its cuts and the room for both
pub record IsRoomy (text : Vec ℕ) (cuts : Vec Cut) (byte_room pair_room : ℕ) : Type 0 where
  pub lie : AllCuts (length text.items) cuts.items
  pub bytes : byte_room ≤ vec_capacity text
  pub pairs : pair_room ≤ vec_capacity cuts
