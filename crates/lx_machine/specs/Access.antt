-- What an accessor does: accesses of the words of a register, one after the other.
use Rattle.std.specs.Prelude.{◌≡◌, ℕ, ℤ, pos, Bool, true, false, List, [], ◌∷◌, ◌+◌, ◌*◌, ◌/◌, ◌%◌, ◌^◌, if◌then◌else◌, map}
use Rattle.std.proofs.Common.{zero, suc}
use Rattle.lx_circuit.specs.Places.{Values, At}
use Rattle.lx_circuit.specs.Values.{flag, count_of}
use Rattle.lx_circuit.specs.Circuit.{Step}
use Rattle.lx_machine.specs.Map.{CsrWord}
use Rattle.lx_machine.specs.System.{System}
use Rattle.lx_machine.specs.Bus.{Idle, in_reset}
use Rattle.lx_machine.specs.Views.{State, Runs, first_system}

-- P holds of each of them
abbrev pub Each : {A : Type 0} → (A → Type 0) → List A → Type 0
Each P [] = Unit {0}
Each P (x ∷ xs) = P x × Each P xs

-- ---- one access

-- a read of a byte address, or a write of a number to it
pub record Ask : Type 0 where
  pub addr : ℕ
  pub writes : Bool
  pub number : ℤ

-- These values of the port's inputs ask for it, all four bytes of the word, and the bus is not in reset.
pub record Asks (y : System) (q : Ask) (v : Values) : Type 0 where
  pub adr : v (At y.port.adr) ≡ pos (q.addr / 4)
  pub sel : v (At y.port.sel) ≡ pos 15
  pub cyc : v (At y.port.cyc) ≡ pos 1
  pub stb : v (At y.port.stb) ≡ pos 1
  pub we : v (At y.port.we) ≡ flag q.writes
  pub dat_w : q.writes ≡ true → v (At y.port.dat_w) ≡ q.number
  pub reset : in_reset y v ≡ false

-- one of two facts
abbrev pub Either : Bool → Type 0 → Type 0 → Type 0
Either true now later = now
Either false now later = later

-- the bus's domain rises in exactly n of these steps, and the last step is such a rise
abbrev pub Rises : System → ℕ → List Step → Type 0
Rises y zero [] = Unit {0}
Rises y zero (t ∷ ts) = ⊥
Rises y (suc n) [] = ⊥
Rises y (suc n) (t ∷ ts) = Either (t.rises y.sys) (Rises y n ts) (Rises y (suc n) ts)

-- An access: it is asked for in each step, and held for two edges of the bus's domain, the second in the
-- last step. All other inputs, and the edges of other domains, are free.
pub record IsAccess (y : System) (q : Ask) (steps : List Step) : Type 0 where
  pub asks : Each (λ t. Asks y q t.inputs) steps
  pub rises : Rises y 2 steps

-- ---- the values of an access

-- the values before the first edge, which is the taking edge
abbrev pub until_edge : System → List Step → List Values → List Values
until_edge y (t ∷ ts) (w ∷ ws) = if t.rises y.sys then w ∷ [] else w ∷ until_edge y ts ws
until_edge y _ _ = []

-- and those after it, up to the last step
abbrev pub after_edge : System → List Step → List Values → List Values
after_edge y (t ∷ ts) (w ∷ ws) = if t.rises y.sys then ws else after_edge y ts ws
after_edge y _ _ = []

-- the last of these values
abbrev pub last_of : Values → List Values → Values
last_of v [] = v
last_of v (w ∷ ws) = last_of w ws

-- an access as it ran, from a state
pub record Trace : Type 0 where
  pub from : State
  pub steps : List Step
  pub values : List Values

abbrev pub no_values : Values
no_values p = pos 0

-- the values on which the taking edge acts, and those of the last step, on which the second edge acts
abbrev pub taking : System → Trace → Values
taking y t = last_of no_values (until_edge y t.steps t.values)

abbrev pub closing : Trace → Values
closing t = last_of no_values t.values

-- an access that ran from an idle bus
pub record AccessRan (y : System) (q : Ask) (t : Trace) (new : State) : Type 0 where
  pub access : IsAccess y q t.steps
  pub ran : Runs y t.from t.steps t.values new
  pub idle : t.from.bus.phase ≡ Idle

-- ---- accessors

-- the state in which the first of these accesses begins
abbrev pub from_of : List Trace → State → State
from_of [] new = new
from_of (t ∷ ts) new = t.from

-- accesses one after the other, up to a state
abbrev pub AccessorRan : System → List Ask → List Trace → State → Type 0
AccessorRan y [] [] new = Unit {0}
AccessorRan y [] (t ∷ ts) new = ⊥
AccessorRan y (q ∷ qs) [] new = ⊥
AccessorRan y (q ∷ qs) (t ∷ ts) new =
    IsAccess y q t.steps × Runs y t.from t.steps t.values (from_of ts new) × AccessorRan y qs ts new

abbrev pub read_ask : CsrWord → Ask
read_ask w = record { addr = w.addr; writes = false; number = pos 0 }

-- the write of a word of v: v without the bits below the word, of 32 bits
abbrev pub write_ask : ℕ → CsrWord → Ask
write_ask v w = record { addr = w.addr; writes = true; number = pos (v / 2 ^ w.low % 2 ^ 32) }

abbrev pub reads_all : List CsrWord → List Ask
reads_all ws = map read_ask ws

abbrev pub writes_all : ℕ → List CsrWord → List Ask
writes_all v ws = map (write_ask v) ws

-- the word that an access read: `dat_r` in the last step
abbrev pub word_read : System → Trace → ℕ
word_read y t = count_of (closing t (At y.port.dat_r))

-- what a read accessor returns: the words read, each times 2 to its low bit
abbrev pub result_of : System → List CsrWord → List Trace → ℕ
result_of y (w ∷ ws) (t ∷ ts) = word_read y t * 2 ^ w.low + result_of y ws ts
result_of y _ _ = 0

-- some trace leads here from the start, and leaves the bus idle
pub record IsIdle (y : System) (st : State) : Type 0 where
  pub before : List Step
  pub values : List Values
  pub ran : Runs y (first_system y) before values st
  pub idle : st.bus.phase ≡ Idle
