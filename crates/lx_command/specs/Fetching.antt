-- What fetching a file answers, and what is told of a run that makes no texts.
use Rattle.std.specs.Prelude.{◌≡◌, ℕ, ◌≤◌, List, length, Option, Result, Ok, Err, ◌⊎◌}
use Rattle.lx_outside.specs.declared.calls.Pair.{Pair}
use Rattle.lx_outside.specs.Calls.{Rose}
use Rattle.lx_faults.specs.FaultLine.{line_text}
use Rattle.lx_text.specs.Limits.{max_bytes}
use Rattle.lx_command.specs.declared.fetching.Stop.{Stop}
use Rattle.lx_command.specs.declared.fetching.Stop.TheVariants as stop
use Rattle.lx_command.specs.declared.status.Status.{Status}
use Rattle.lx_command.specs.declared.status.Status.TheVariants as status
use Rattle.lx_command.specs.Lines.{cannot_read_line, no_memory_line, not_built, too_long}
use Rattle.lx_command.specs.World.{Has, LacksFile, IsLongFile}

-- the refusal of a command of this word that isn't built yet
abbrev pub IsNotBuilt : List ℕ → Stop → Type 0
IsNotBuilt word (stop.Read _) = ⊥
IsNotBuilt word (stop.Fault file f) = (file.now ≡ word) × (f ≡ not_built)
IsNotBuilt word stop.NoMemory = ⊥

-- What fetching a file answers, with the counts of the source before and after.
abbrev pub Fetched : List ℕ → Option (List Pair) → ℕ → ℕ → Result (List ℕ) Stop → Type 0
Fetched name told before now (Ok bytes) = Has told name bytes × (length bytes ≤ max_bytes)
Fetched name told before now (Err (stop.Read file)) = (file.now ≡ name) × (Rose before now ⊎ LacksFile told name)
Fetched name told before now (Err (stop.Fault file f)) = (file.now ≡ name) × IsLongFile told name max_bytes × (f ≡ too_long)
Fetched name told before now (Err stop.NoMemory) = Unit {0}

-- the status of a run that makes no texts, and its line; a fault's line may want memory
abbrev pub IsReport : Stop → Status → List ℕ → Type 0
IsReport (stop.Read name) s line = (s ≡ status.ReadFault) × (line ≡ cannot_read_line name.now)
IsReport (stop.Fault file f) s line = ((s ≡ status.Refused) × (line ≡ line_text file.now f)) ⊎ ((s ≡ status.NoMemory) × (line ≡ no_memory_line))
IsReport stop.NoMemory s line = (s ≡ status.NoMemory) × (line ≡ no_memory_line)
