-- Where FSMs were added: what stands in the design before their statements.
use Rattle.std.specs.Prelude.{◌≡◌, ℕ, List, [], ◌∷◌, ◌+◌, Bool, true, false, nat_eq, nat_lt, length, replicate, slice_get, slice_index_or, slice_set, Option, Some, None, if◌then◌else◌}
use Rattle.lx_description.specs.declared.fsms.FsmPlace.{FsmPlace}
use Rattle.lx_state.specs.declared.machine.Machine.{Machine}
use Rattle.lx_state.specs.declared.machine.Module.{Module}
use Rattle.lx_fragments.specs.Fragments.{comb_of, sync_of, under}

-- behind the own statements of a module; each synchronous one is a part
abbrev pub behind : FsmPlace → Option Module → FsmPlace
behind before x = record { comb = before.comb + length (comb_of x); sync = before.sync + length (sync_of x) }

-- what stands before one module among others, behind what stands before them all
unfoldable pub place_among : List Module → ℕ → FsmPlace → List ℕ → Option FsmPlace
place_among modules k before [] = None
place_among modules k before (at ∷ ats) = if nat_eq at k then Some before else place_among modules k (behind before (slice_get modules at)) ats

-- the statements of what takes part once it is made stand first
abbrev pub first_place : Machine → FsmPlace
first_place m = record { comb = length m.specials.fields + length m.specials.comb; sync = length m.specials.sync }

-- what stands before the statements of a module that was added to the top or below; none where it wasn't
abbrev pub place_of : Machine → ℕ → ℕ → Option FsmPlace
place_of m top k = if nat_lt k (length m.modules) then place_among m.modules k (first_place m) (under m.modules 65 top) else None

-- ---- a table of them

abbrev pub nowhere : ℕ → List (Option FsmPlace)
nowhere n = replicate n None

abbrev pub is_nowhere : Option (Option FsmPlace) → Bool
is_nowhere (Some None) = true
is_nowhere _ = false

-- what is noted of a module first stays
abbrev pub noted : List (Option FsmPlace) → ℕ → FsmPlace → List (Option FsmPlace)
noted places at place = if is_nowhere (slice_get places at) then slice_set places at (Some place) else places

-- of all modules
abbrev pub ArePlaces : Machine → ℕ → List (Option FsmPlace) → Type 0
ArePlaces m top places = (k : ℕ) → slice_index_or places k None ≡ place_of m top k
