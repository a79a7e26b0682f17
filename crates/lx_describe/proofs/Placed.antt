-- The places of FSMs, one after another.
use Rattle.std.proofs.Common.{◌≡◌, ◌∙◌, ap, ℕ, List, [], ◌∷◌, ◌++◌, append_assoc, map, Option, None}
use Rattle.std.specs.Prelude.{slice_index_or}
use Rattle.lx_state.specs.declared.machine.Fsm.{Fsm}
use Rattle.lx_state.specs.declared.machine.Machine.{Machine}
use Rattle.lx_description.specs.declared.fsms.FsmPlace.{FsmPlace}
use Rattle.lx_fragments.specs.Places.{ArePlaces, place_of}

abbrev pub placed : Machine → ℕ → List Fsm → List (Option FsmPlace)
placed m top fs = map (λ (f : Fsm). place_of m top f.«module») fs

-- one more was looked up among the places of all modules
pub placed_more : (m : Machine) (top : ℕ) (places found whole : List (Option FsmPlace)) (f : Fsm) (fs : List Fsm) → ArePlaces m top places → found ++ placed m top (f ∷ fs) ≡ whole
    → (found ++ slice_index_or places f.«module» None ∷ []) ++ placed m top fs ≡ whole
placed_more m top places found whole f fs are is =
    append_assoc found (slice_index_or places f.«module» None ∷ []) (placed m top fs) ∙ ap (λ (p : Option FsmPlace). found ++ p ∷ placed m top fs) (are f.«module») ∙ is
