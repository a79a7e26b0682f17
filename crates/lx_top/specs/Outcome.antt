-- What a run of the program leaves, by its status.
use Rattle.std.specs.Prelude.{◌≡◌, ℕ, ◌≤◌, List, [], ◌∷◌, Option, Some, None, length, ◌⊎◌}
use Rattle.lx_outside.specs.declared.calls.Pair.{Pair}
use Rattle.lx_outside.specs.Calls.{Rose}
use Rattle.lx_text.specs.declared.faults.Fault.{Fault}
use Rattle.lx_faults.specs.FaultLine.{line_text}
use Rattle.lx_command.specs.declared.status.Status.{Status}
use Rattle.lx_command.specs.declared.status.Status.TheVariants as status
use Rattle.lx_command.specs.Commands.{Asked, command_of}
use Rattle.lx_command.specs.Delivery.{IsDelivered, StoreFailed, SayFailed}
use Rattle.lx_command.specs.Lines.{usage_line, cannot_read_line, no_memory_line, too_long}
use Rattle.lx_command.specs.Next.{Next, Wants, Refuses, Gives}
use Rattle.lx_command.specs.World.{World, Has, LacksFile, IsLongFile, IsUntouched, Tells}
use Rattle.lx_top.specs.Table.{Step}

-- behind the files that it had, the command wanted a file, which has these bytes
pub record IsLoaded (told : Option (List Pair)) (c : Asked) (had : List (List ℕ)) (bytes : List ℕ) : Type 0 where
  pub name : List ℕ
  pub limit : ℕ
  pub wanted : Step c had (Wants name limit)
  pub loaded : Has told name bytes
  pub short : length bytes ≤ limit

-- each of these files was wanted behind those before it
abbrev pub Reached : Option (List Pair) → Asked → List (List ℕ) → Type 0
Reached told c [] = Unit {0}
Reached told c (bytes ∷ had) = Reached told c had × IsLoaded told c had bytes

-- the command comes to this, over the files that the source tells
pub record Comes (told : Option (List Pair)) (c : Asked) (n : Next) : Type 0 where
  pub had : List (List ℕ)
  pub reached : Reached told c had
  pub step : Step c had n

-- the command comes to this fault of a file, or to a file that is too long
abbrev pub IsAtFault : Option (List Pair) → Asked → List ℕ → Fault → Type 0
IsAtFault told c file f = Comes told c (Refuses file f) ⊎ ((limit : ℕ) × Comes told c (Wants file limit) × IsLongFile told file limit × (f ≡ too_long))

-- The whole command.
pub record IsDone (c : Asked) (a b : World) : Type 0 where
  pub files : List Pair
  pub text : List ℕ
  pub comes : Comes a.files c (Gives files text)
  pub delivered : IsDelivered files text a b

-- Storing or saying failed.
pub record IsWriteFault (c : Asked) (a b : World) : Type 0 where
  pub files : List Pair
  pub text : List ℕ
  pub comes : Comes a.files c (Gives files text)
  pub cause : StoreFailed files a b ⊎ SayFailed files text a b

-- The file that was wanted couldn't be read, or there is none.
pub record IsReadFault (c : Asked) (a b : World) : Type 0 where
  pub name : List ℕ
  pub limit : ℕ
  pub comes : Comes a.files c (Wants name limit)
  pub cause : Rose a.load_faults b.load_faults ⊎ LacksFile a.files name
  pub untouched : IsUntouched a b
  pub line : Tells a b (cannot_read_line name)

-- A file has a fault.
pub record IsRefused (c : Asked) (a b : World) : Type 0 where
  pub file : List ℕ
  pub fault : Fault
  pub cause : IsAtFault a.files c file fault
  pub untouched : IsUntouched a b
  pub line : Tells a b (line_text file fault)

-- The words are no command.
pub record IsUsage (a b : World) : Type 0 where
  pub untouched : IsUntouched a b
  pub line : Tells a b usage_line

-- Memory ran out before anything was stored or said.
pub record IsOutOfMemory (a b : World) : Type 0 where
  pub untouched : IsUntouched a b
  pub line : Tells a b no_memory_line

-- what a run of a command leaves of the outside, or of words that are none
abbrev pub EndsBy : Option Asked → World → World → Status → Type 0
EndsBy None a b status.Usage = IsUsage a b
EndsBy None a b _ = ⊥
EndsBy (Some c) a b status.Done = IsDone c a b
EndsBy (Some c) a b status.Refused = IsRefused c a b
EndsBy (Some c) a b status.Usage = ⊥
EndsBy (Some c) a b status.ReadFault = IsReadFault c a b
EndsBy (Some c) a b status.WriteFault = IsWriteFault c a b
EndsBy (Some c) a b status.NoMemory = IsOutOfMemory a b

-- What a run over these words leaves of the outside, by its status.
abbrev pub Ends : List (List ℕ) → World → World → Status → Type 0
Ends words a b s = EndsBy (command_of words) a b s
