-- When a run must succeed.
use Rattle.std.specs.Prelude.{◌≡◌, ℕ, List, Option, Some, ◌⊎◌}
use Rattle.lx_outside.specs.declared.calls.Pair.{Pair}
use Rattle.lx_outside.specs.Calls.{Rose}
use Rattle.lx_text.specs.declared.faults.Fault.{Fault}
use Rattle.lx_command.specs.declared.status.Status.{Status}
use Rattle.lx_command.specs.declared.status.Status.TheVariants as status
use Rattle.lx_command.specs.Commands.{Asked, command_of}
use Rattle.lx_command.specs.Next.{Wants, Gives}
use Rattle.lx_command.specs.World.{World, LacksFile}
use Rattle.lx_top.specs.Outcome.{Comes, IsAtFault, Ends}

-- no file that the command comes to want is lacking, and the command comes to no fault
pub record IsClean (told : Option (List Pair)) (c : Asked) : Type 0 where
  pub found : (name : List ℕ) (limit : ℕ) → Comes told c (Wants name limit) → LacksFile told name → ⊥
  pub clean : (file : List ℕ) (f : Fault) → IsAtFault told c file f → ⊥

-- The words are a command without a fault, and no count of faults rose, but that of err.
pub record IsSound (words : List (List ℕ)) (a b : World) : Type 0 where
  pub asked : Asked
  pub command : command_of words ≡ Some asked
  pub files : IsClean a.files asked
  pub load : Rose a.load_faults b.load_faults → ⊥
  pub store : Rose a.store_faults b.store_faults → ⊥
  pub say : Rose a.say_faults b.say_faults → ⊥

-- Then the run is done, or memory ran out.
abbrev pub IsCompletenessLaw : Type 0
IsCompletenessLaw = (words : List (List ℕ)) (a b : World) (s : Status) → Ends words a b s → IsSound words a b → (s ≡ status.Done) ⊎ (s ≡ status.NoMemory)

-- A command that comes to give, over files that are told, comes to no fault, and lacks no file.
abbrev pub IsGivingLaw : Type 0
IsGivingLaw = (files : List Pair) (c : Asked) (given : List Pair) (text : List ℕ) → Comes (Some files) c (Gives given text) → IsClean (Some files) c
