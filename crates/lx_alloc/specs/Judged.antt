-- Faults in their order: the first is told.
use Rattle.std.specs.Prelude.{◌≡◌, ℕ, Bool, List, [], ◌∷◌, ◌++◌, flat_map, Option, Some, None, Result, Ok, Err, if◌then◌else◌}
use Rattle.lx_text.specs.declared.faults.Fault.{Fault}
use Rattle.lx_text.specs.declared.faults.Kind.{Kind}
use Rattle.lx_text.specs.declared.faults.Refusal.{Refusal}
use Rattle.lx_text.specs.declared.faults.Refusal.TheVariants as refusal

-- the fault where the test says so
abbrev pub told : Bool → ℕ → Kind → List Fault
told test line kind = if test then record { line = line; kind = kind } ∷ [] else []

abbrev pub first : List Fault → Option Fault
first [] = None
first (f ∷ fs) = Some f

-- the refusal tells the first of these faults; or memory ran out
abbrev pub Refused : List Fault → Refusal → Type 0
Refused faults (refusal.Fault f) = first faults ≡ Some f
Refused faults refusal.NoMemory = Unit {0}

-- there is none of these faults, or the refusal tells the first
abbrev pub Judged : {T : Type 0} → List Fault → Result T Refusal → Type 0
Judged faults (Ok _) = faults ≡ []
Judged faults (Err e) = Refused faults e

-- the faults of the pairs of each element with those before it
abbrev pub each_pair : {X : Type 0} → (X → X → List Fault) → List X → List X → List Fault
each_pair pair before [] = []
each_pair pair before (x ∷ xs) = flat_map (pair x) before ++ each_pair pair (before ++ x ∷ []) xs
