-- A system that runs: its values are computed, round after round, so that worked rows are values.
use Rattle.std.specs.Prelude.{ℕ, pos, List, [], ◌∷◌, ◌/◌, ◌<◌, nat_eq, if◌then◌else◌}
use Rattle.std.proofs.Common.{zero, suc}
use Rattle.lx_circuit.specs.Places.{Place, Values, At}
use Rattle.lx_circuit.specs.Values.{flag}
use Rattle.lx_circuit.specs.Circuit.{Step}
use Rattle.lx_machine.specs.System.{System}
use Rattle.lx_machine.specs.Views.{State, by_system, system_next, Runs, HasSystemOrder}
use Rattle.lx_machine.specs.Access.{Ask, Trace}

-- the values after so many rounds of what the bus gives and the circuit says
abbrev pub rounds : System → State → Values → ℕ → Values
rounds y st inputs zero = λ p. pos 0
rounds y st inputs (suc n) = λ p. by_system y st inputs (rounds y st inputs n) p

-- the state after these steps, with n rounds in each
abbrev pub state_run : System → ℕ → State → List Step → State
state_run y n st [] = st
state_run y n st (t ∷ ts) = state_run y n (system_next y st (rounds y st t.inputs n) t.rises) ts

-- and the values of each of them
abbrev pub values_run : System → ℕ → State → List Step → List Values
values_run y n st [] = []
values_run y n st (t ∷ ts) = rounds y st t.inputs n ∷ values_run y n (system_next y st (rounds y st t.inputs n) t.rises) ts

-- Where the ranks of an order of reads are below n, what is computed with n rounds is a run.
abbrev pub IsComputedLaw : Type 0
IsComputedLaw = (y : System) (n : ℕ) (o : HasSystemOrder y) → ((p : Place) → o.rank p < n) → (st : State) (steps : List Step)
    → Runs y st steps (values_run y n st steps) (state_run y n st steps)

-- ---- accesses

-- the inputs that ask for an access; all others are 0
abbrev pub inputs_of : System → Ask → Values
inputs_of y q (At x) =
    if nat_eq x y.port.adr then pos (q.addr / 4)
    else (if nat_eq x y.port.dat_w then q.number
    else (if nat_eq x y.port.sel then pos 15
    else (if nat_eq x y.port.cyc then pos 1
    else (if nat_eq x y.port.stb then pos 1
    else (if nat_eq x y.port.we then flag q.writes else pos 0)))))
inputs_of y q p = pos 0

-- the bus's domain rises alone
abbrev pub ticks : System → Values → Step
ticks y inputs = record { inputs = inputs; rises = λ d. nat_eq d y.sys }

-- an access of two steps
abbrev pub access_steps : System → Ask → List Step
access_steps y q = ticks y (inputs_of y q) ∷ ticks y (inputs_of y q) ∷ []

-- the state after these accesses, one after the other
abbrev pub after_asks : System → ℕ → State → List Ask → State
after_asks y n st [] = st
after_asks y n st (q ∷ qs) = after_asks y n (state_run y n st (access_steps y q)) qs

-- and how each of them ran
abbrev pub traces_of : System → ℕ → State → List Ask → List Trace
traces_of y n st [] = []
traces_of y n st (q ∷ qs) =
    record { from = st; steps = access_steps y q; values = values_run y n st (access_steps y q) } ∷ traces_of y n (state_run y n st (access_steps y q)) qs
