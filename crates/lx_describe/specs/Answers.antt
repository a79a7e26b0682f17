-- What is answered where the machine at the end is not told.
use Rattle.std.specs.Prelude.{◌≡◌, Result, Ok, Err}
use Rattle.lx_text.specs.declared.faults.Fault.{Fault}
use Rattle.lx_text.specs.declared.faults.Refusal.{Refusal}
use Rattle.lx_text.specs.declared.faults.Refusal.TheVariants as refusal
use Rattle.lx_state.specs.Step.{Outcome}

abbrev pub answer : {A : Type 0} → Outcome A → Result A Fault
answer (Ok r) = Ok r.0
answer (Err f) = Err f

abbrev pub IsRefusedBy : {A : Type 0} → Refusal → Result A Fault → Type 0
IsRefusedBy (refusal.Fault f) outcome = outcome ≡ Err f
IsRefusedBy refusal.NoMemory outcome = Unit {0}

-- want of memory aside, it is the value or the fault that is asked
abbrev pub Answers : {A : Type 0} → Result A Refusal → Result A Fault → Type 0
Answers (Ok x) outcome = outcome ≡ Ok x
Answers (Err r) outcome = IsRefusedBy r outcome
