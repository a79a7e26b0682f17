-- Answers of steps that follow one another.
use Rattle.std.proofs.Common.{◌≡◌, refl, Result, Ok, Err}
use Rattle.lx_text.specs.declared.faults.Refusal.{Refusal}
use Rattle.lx_text.specs.declared.faults.Refusal.TheVariants as refusal
use Rattle.lx_state.specs.declared.machine.Machine.{Machine}
use Rattle.lx_state.specs.Step.{Outcome, Step, Stops, go_on}
use Rattle.lx_describe.specs.Answers.{Answers, IsRefusedBy, answer}

-- the fault of the first step ends them
pub answer_stopped : {A B : Type 0} (r : Refusal) (outcome : Outcome A) (next : A → Step B) → Stops r outcome → IsRefusedBy r (answer (go_on outcome next))
answer_stopped (refusal.Fault f) outcome next is = let e : outcome ≡ Err f = is in rw e refl
answer_stopped refusal.NoMemory outcome next is = tt

-- else the answer is that of the others
pub answer_next : {A B : Type 0} (r : Result B Refusal) (outcome : Outcome A) (next : A → Step B) (x : A) (m : Machine) → outcome ≡ Ok (x, m) → Answers r (answer (next x m)) → Answers r (answer (go_on outcome next))
answer_next r outcome next x m is answers = rw is answers
