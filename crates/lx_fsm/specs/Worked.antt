-- Machines of two states, worked by hand.
use Rattle.std.specs.Prelude.{◌≡◌, ℕ, pos, true, false, List, [], ◌∷◌, Option, Some, None, nat_eq, if◌then◌else◌, codes}
use Rattle.lx_num.specs.Ints.{unsigned}
use Rattle.lx_tables.specs.declared.operators.Op.TheVariants as op
use Rattle.lx_text.specs.declared.faults.Kind.TheVariants as kind
use Rattle.lx_circuit.specs.Places.{Values, At}
use Rattle.lx_circuit.specs.Shapes.{Shapes}
use Rattle.lx_circuit.specs.Terms.{Term, Constant, Signal, Binary}
use Rattle.lx_circuit.specs.Statements as tree
use Rattle.lx_circuit.specs.Statements.{Whole, piece}
use Rattle.lx_circuit.specs.Circuit.{Circuit, Made, next_state}
use Rattle.lx_lowering.specs.Flat.{one, when}
use Rattle.lx_fsm.specs.Actions.{Assign, NextState, NextValue, Act, Do, If, NoBranch, Branch, Acts, Done, Then}
use Rattle.lx_fsm.specs.Lists.{comb_list, sync_list}
use Rattle.lx_fsm.specs.Machine.{State, Fsm, assigned_later, assigned_now, faults, following, number, start}

-- ---- signal 0 is `state`, 1 is `go`, 2 is `led`, 3 is `count` of eight bits, 4 is `ongoing("RUN")`

abbrev pub s : Shapes
s x = if nat_eq x 3 then unsigned 8 else unsigned 1

abbrev pub bit : ℕ → Term
bit k = Constant (pos k) (unsigned 1)

abbrev pub do_ : Act → Acts → Acts
do_ a rest = Then a rest

-- If(go, NextState("RUN"))
abbrev pub leaves_idle : Act
leaves_idle = If (Branch (Signal 1) (do_ (Do (NextState (codes "RUN"))) Done) NoBranch) Done

-- led.eq(go), NextValue(count, 5), NextState("IDLE")
abbrev pub runs : Acts
runs = do_ (Do (Assign (Whole 2) (Signal 1))) (do_ (Do (NextValue (Whole 3) (Constant (pos 5) (unsigned 8)))) (do_ (Do (NextState (codes "IDLE"))) Done))

abbrev pub idle_state : State
idle_state = record { name = codes "IDLE"; acts = do_ leaves_idle Done }

abbrev pub run_state : State
run_state = record { name = codes "RUN"; acts = runs }

-- act("RUN", ..) comes first, so that it has the number 0
abbrev pub machine_of : Option (List ℕ) → List State → List ℕ → Fsm
machine_of start states asked = record { state = 0; start = start; states = states; ongoing = record { name = asked; signal = 4 } ∷ [] }

abbrev pub machine : Fsm
machine = machine_of (Some (codes "IDLE")) (run_state ∷ idle_state ∷ []) (codes "RUN")

-- these values of `state` and `go`
abbrev pub under : ℕ → ℕ → Values
under state go (At x) = if nat_eq x 0 then pos state else (if nat_eq x 1 then pos go else pos 0)
under state go _ = pos 0

-- `state == k`
abbrev pub is_ : ℕ → Term
is_ k = Binary op.Eq (Signal 0) (bit k)

-- A goes to B, and B to the state of this name
abbrev pub to_and_fro : List ℕ → Fsm
to_and_fro back = record {
  state = 0;
  start = None;
  states =
      record { name = codes "A"; acts = do_ (Do (NextState (codes "B"))) Done }
      ∷ record { name = codes "B"; acts = do_ (Do (NextState back)) Done }
      ∷ [];
  ongoing = [];
}

abbrev pub made_of : ℕ → Made
made_of bits = record { shape = unsigned bits; reset = pos 0; reset_less = false; given = false }

-- A and B in turn
abbrev pub turning : Circuit
turning = record {
  signals = made_of 1 ∷ [];
  comb = comb_list s (to_and_fro (codes "A"));
  domains = record { name = codes "sys"; reset = None; stmts = sync_list s (to_and_fro (codes "A")) } ∷ [];
  memories = [];
  ports = [];
  ios = [];
}

pub record AreWorked : Type 0 where
  -- states are numbered in the order of their first `act`
  pub first : number machine (codes "RUN") ≡ 0
  pub second : number machine (codes "IDLE") ≡ 1
  pub stated_start : start machine ≡ 1
  pub first_start : start (machine_of None (run_state ∷ idle_state ∷ []) (codes "RUN")) ≡ 0
  -- the state after a rise
  pub stays : following s (under 1 0) machine 1 ≡ 1
  pub leaves : following s (under 1 1) machine 1 ≡ 0
  pub returns : following s (under 0 1) machine 0 ≡ 1
  pub last_wins : following s (under 0 1) (machine_of None (record { name = codes "RUN"; acts = do_ (Do (NextState (codes "IDLE"))) (do_ leaves_idle Done) } ∷ idle_state ∷ []) (codes "RUN")) 0 ≡ 0
  -- what is assigned
  pub led : assigned_now s (under 0 1) machine 0 ≡ piece 2 0 1 (pos 1) ∷ []
  pub count : assigned_later s (under 0 1) machine 0 ≡ piece 3 0 8 (pos 5) ∷ []
  pub nothing_now : assigned_now s (under 1 1) machine 1 ≡ []
  pub nothing_later : assigned_later s (under 1 1) machine 1 ≡ []
  -- the two lists: a statement in which nothing is kept is left out
  pub comb : comb_list s machine ≡
      tree.Then (tree.If (tree.Branch (is_ 0) (one (tree.Assign (Whole 2) (Signal 1))) tree.NoBranch) tree.Done)
      (one (tree.Assign (Whole 4) (is_ 0)))
  pub sync : sync_list s machine ≡
      tree.Then
      (tree.If (tree.Branch (is_ 0) (tree.Then (tree.Assign (Whole 3) (Constant (pos 5) (unsigned 8))) (one (tree.Assign (Whole 0) (bit 1)))) tree.NoBranch) tree.Done)
      (when (is_ 1) (when (Signal 1) (one (tree.Assign (Whole 0) (bit 0)))))
  -- 0, 1 and 0 at successive rises
  pub there : next_state turning (under 0 0) (under 0 0) (λ d. true) (At 0) ≡ pos 1
  pub back : next_state turning (under 1 0) (under 1 0) (λ d. true) (At 0) ≡ pos 0
  pub no_rise : next_state turning (under 1 0) (under 1 0) (λ d. false) (At 0) ≡ pos 1
  -- faults, on line 7
  pub no_states : faults (machine_of None [] (codes "RUN")) 7 ≡ record { line = 7; kind = kind.NoStates } ∷ []
  pub sound : faults machine 7 ≡ []
  pub unknown : faults (to_and_fro (codes "C")) 7 ≡ record { line = 7; kind = kind.UnknownState (codes "C") } ∷ []
  pub unknown_all : faults (machine_of (Some (codes "X")) (idle_state ∷ []) (codes "Y")) 7 ≡
      record { line = 7; kind = kind.UnknownState (codes "X") } ∷ record { line = 7; kind = kind.UnknownState (codes "RUN") } ∷ record { line = 7; kind = kind.UnknownState (codes "Y") } ∷ []
