-- A finite state machine: its states, the one that follows, what it assigns, and its fault.
use Rattle.std.specs.Prelude.{ℕ, List, [], ◌∷◌, ◌++◌, ◌+◌, Option, Some, None, flat_map, map, if◌then◌else◌, slice_index_or}
use Rattle.std.specs.Option.{unwrap_or}
use Rattle.std.specs.Str.{bytes_eq}
use Rattle.lx_text.specs.declared.faults.Fault.{Fault}
use Rattle.lx_text.specs.declared.faults.Kind.TheVariants as kind
use Rattle.lx_circuit.specs.Places.{Values}
use Rattle.lx_circuit.specs.Shapes.{Shapes}
use Rattle.lx_circuit.specs.Values.{value_of}
use Rattle.lx_circuit.specs.Statements.{Piece, pieces}
use Rattle.lx_fsm.specs.Actions.{Action, Assign, NextState, NextValue, Acts, Done, all_taken, all_named}

pub record State : Type 0 where
  pub name : List ℕ
  pub acts : Acts

-- a signal that is 1 in the state of this name
pub record Ongoing : Type 0 where
  pub name : List ℕ
  pub signal : ℕ

pub record Fsm : Type 0 where
  -- the signal that is the number of its state
  pub state : ℕ
  -- the reset state, where it is stated
  pub start : Option (List ℕ)
  pub states : List State
  pub ongoing : List Ongoing

-- ---- numbers: states are numbered in their order

-- the number of the first of these names that is the name, where k is that of the first of them
abbrev pub number_from : ℕ → List (List ℕ) → List ℕ → Option ℕ
number_from k [] name = None
number_from k (n ∷ ns) name = if bytes_eq n name then Some k else number_from (k + 1) ns name

-- the number of a state, by the names of all
abbrev pub number_among : List (List ℕ) → List ℕ → ℕ
number_among all name = unwrap_or (number_from 0 all name) 0

abbrev pub state_names : Fsm → List (List ℕ)
state_names f = map (λ (s : State). s.name) f.states

abbrev pub number : Fsm → List ℕ → ℕ
number f name = number_among (state_names f) name

-- the number of the reset state; without a stated one it is the first
abbrev pub start_among : List (List ℕ) → Option (List ℕ) → ℕ
start_among all (Some name) = number_among all name
start_among all None = 0

abbrev pub start : Fsm → ℕ
start f = start_among (state_names f) f.start

-- ---- what the machine does in the state of number k, under these values

abbrev pub no_state : State
no_state = record { name = []; acts = Done }

abbrev pub actions : Shapes → Values → Fsm → ℕ → List Action
actions s v f k = all_taken s v (slice_index_or f.states k no_state).acts

-- the state that the last NextState goes to, else k
abbrev pub last_state : Fsm → ℕ → List Action → ℕ
last_state f k [] = k
last_state f k (NextState name ∷ as_) = last_state f (number f name) as_
last_state f k (a ∷ as_) = last_state f k as_

-- The state after a rise.
abbrev pub following : Shapes → Values → Fsm → ℕ → ℕ
following s v f k = last_state f k (actions s v f k)

-- what is assigned now, and what at the rise
abbrev pub now : Shapes → Values → Action → List Piece
now s v (Assign t e) = pieces s v t (value_of s v e)
now s v _ = []

abbrev pub later : Shapes → Values → Action → List Piece
later s v (NextValue t e) = pieces s v t (value_of s v e)
later s v _ = []

abbrev pub assigned_now : Shapes → Values → Fsm → ℕ → List Piece
assigned_now s v f k = flat_map (now s v) (actions s v f k)

abbrev pub assigned_later : Shapes → Values → Fsm → ℕ → List Piece
assigned_later s v f k = flat_map (later s v) (actions s v f k)

-- ---- faults

-- all names that stand for states: the reset state's, those of each NextState, those of `ongoing`
abbrev pub stated : Option (List ℕ) → List (List ℕ)
stated (Some name) = name ∷ []
stated None = []

-- a name that no state has
abbrev pub told : Option ℕ → ℕ → List ℕ → List Fault
told (Some k) line name = []
told None line name = record { line = line; kind = kind.UnknownState name } ∷ []

abbrev pub unknown : List (List ℕ) → ℕ → List ℕ → List Fault
unknown all line name = told (number_from 0 all name) line name

abbrev pub unknown_of : Fsm → ℕ → List (List ℕ) → List Fault
unknown_of f line names = flat_map (unknown (state_names f) line) names

-- where it has states: the reset state's name, those of NextState, state by state, and those of `ongoing`
abbrev pub faults_with : Fsm → ℕ → List State → List Fault
faults_with f line [] = record { line = line; kind = kind.NoStates } ∷ []
faults_with f line (s ∷ ss) =
    unknown_of f line (stated f.start)
    ++ (flat_map (λ (x : State). unknown_of f line (all_named x.acts)) f.states
    ++ unknown_of f line (map (λ (o : Ongoing). o.name) f.ongoing))

-- All its faults in their order, on the line of the call that made it; the first is told.
abbrev pub faults : Fsm → ℕ → List Fault
faults f line = faults_with f line f.states
