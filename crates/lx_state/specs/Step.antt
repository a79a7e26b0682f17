-- What a step does to the machine, and how steps follow one another.
use Rattle.std.specs.Prelude.{◌≡◌, ℕ, Result, Ok, Err, Option, Some, None}
use Rattle.lx_text.specs.declared.faults.Fault.{Fault}
use Rattle.lx_text.specs.declared.faults.Kind.{Kind}
use Rattle.lx_text.specs.declared.faults.Refusal.{Refusal}
use Rattle.lx_text.specs.declared.faults.Refusal.TheVariants as refusal
use Rattle.lx_state.specs.declared.machine.Machine.{Machine}

-- a value and the machine after it, or the first fault
abbrev pub Outcome : Type 0 → Type 0
Outcome A = Result (A × Machine) Fault

abbrev pub Step : Type 0 → Type 0
Step A = Machine → Outcome A

abbrev pub go_on : {A B : Type 0} → Outcome A → (A → Step B) → Outcome B
go_on (Ok r) next = next r.0 r.1
go_on (Err f) next = Err f

infixl 10 ◌>>=◌
abbrev pub ◌>>=◌ : {A B : Type 0} → Step A → (A → Step B) → Step B
(step >>= next) m = go_on (step m) next

abbrev pub give : {A : Type 0} → A → Step A
give x m = Ok (x, m)

abbrev pub fault : {A : Type 0} → ℕ → Kind → Step A
fault line kind m = Err (record { line = line; kind = kind })

-- what the machine says, which stays as it is
abbrev pub reads : {A : Type 0} → (Machine → A) → Step A
reads f m = give (f m) m

-- the value, where there is one
abbrev pub or_fault : {A : Type 0} → Option A → ℕ → Kind → Step A
or_fault (Some x) line kind m = give x m
or_fault None line kind m = fault line kind m

-- want of memory aside, it is the fault of the step
abbrev pub Stops : {A : Type 0} → Refusal → Outcome A → Type 0
Stops (refusal.Fault f) outcome = outcome ≡ Err f
Stops refusal.NoMemory outcome = Unit {0}

-- want of memory aside, it is what the step gives, and this is the machine after it
abbrev pub Gives : {A : Type 0} → Result A Refusal → Machine → Outcome A → Type 0
Gives (Ok x) m outcome = outcome ≡ Ok (x, m)
Gives (Err r) m outcome = Stops r outcome

-- want of memory aside, it is this fault
abbrev pub IsFault : Refusal → ℕ → Kind → Type 0
IsFault (refusal.Fault f) line kind = f ≡ record { line = line; kind = kind }
IsFault refusal.NoMemory line kind = Unit {0}
