-- The FSMs of a description, in order of creation.
use Rattle.std.specs.Prelude.{ℕ, ◌+◌, List, [], ◌∷◌, map, slice_get, Option, Some, None}
use Rattle.lx_text.specs.declared.faults.Kind.TheVariants as kind
use Rattle.lx_state.specs.declared.machine.Fsm.{Fsm}
use Rattle.lx_state.specs.declared.machine.Machine.{Machine}
use Rattle.lx_state.specs.declared.machine.Object.{Object}
use Rattle.lx_state.specs.declared.machine.Ongoing.{Ongoing}
use Rattle.lx_state.specs.Step.{Step, give, fault, reads, ◌>>=◌}
use Rattle.lx_fragments.specs.Places.{place_of}
use Rattle.lx_fragments.specs.States.{bodies_of, states_of}
use Rattle.lx_description.specs.declared.fsms.Asked.{Asked}
use Rattle.lx_description.specs.declared.fsms.FsmDecl.{FsmDecl}
use Rattle.lx_description.specs.declared.fsms.FsmPlace.{FsmPlace}
use Rattle.lx_description.specs.declared.fsms.StateDecl.{StateDecl}

abbrev pub object_line : Option Object → ℕ
object_line None = 0
object_line (Some o) = o.line

-- a signal that is `ongoing` of a state
abbrev pub asked_of : List ℕ × Ongoing → Asked
asked_of e = record { name = e.0; signal = e.1.signal; line = e.1.line }

abbrev pub asked_at : Option (List ℕ × Ongoing) → List Asked
asked_at None = []
asked_at (Some e) = asked_of e ∷ []

-- an FSM whose states are laid out
abbrev pub fsm_decl : Machine → Option FsmPlace → List StateDecl → Fsm → FsmDecl
fsm_decl m place states f = record { state = f.state; start = f.start; states = states; asked = map asked_of f.asked; place = place; line = object_line (slice_get m.objects f.object) }

abbrev pub some_decl : Option FsmPlace → List StateDecl → Option Fsm → Step FsmDecl
some_decl place states None m = fault 0 kind.WrongKind m
some_decl place states (Some f) m = give (fsm_decl m place states f) m

-- that of number k
unfoldable pub decl_at : ℕ → Option FsmPlace → List StateDecl → Step FsmDecl
decl_at k place states m = some_decl place states (slice_get m.fsms k) m

unfoldable pub fsm_made : ℕ → Option FsmPlace → Step FsmDecl
fsm_made k place = do
  bodies ← reads (λ m. bodies_of (slice_get m.fsms k))
  states ← states_of bodies
  decl_at k place states

-- those from number k on, by their places
unfoldable pub fsms_made : ℕ → List (Option FsmPlace) → Step (List FsmDecl)
fsms_made k [] = give []
fsms_made k (place ∷ places) = do
  decl ← fsm_made k place
  decls ← fsms_made (k + 1) places
  give (decl ∷ decls)

-- where each FSM was added to the top or below
abbrev pub fsm_places : Machine → ℕ → List (Option FsmPlace)
fsm_places m top = map (λ (f : Fsm). place_of m top f.«module») m.fsms

unfoldable pub all_fsms : ℕ → Step (List FsmDecl)
all_fsms top = do
  places ← reads (λ m. fsm_places m top)
  fsms_made 0 places
