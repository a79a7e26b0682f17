-- The table of commands.
use Rattle.std.specs.Prelude.{◌≡◌, ℕ, List, [], ◌∷◌, Ok}
use Rattle.lx_text.specs.Limits.{max_bytes}
use Rattle.lx_command.specs.Commands.{Asked, Build, Map, Sim, command_word}
use Rattle.lx_command.specs.Lines.{not_built}
use Rattle.lx_description.specs.declared.description.Description.{Description}
use Rattle.lx_top.specs.Meaning.{Meaning, Built, Listing, Listed, Simulated, Answered}
use Rattle.lx_outside.specs.declared.calls.Pair.{Pair}
use Rattle.lx_command.specs.Next.{Next, Wants, Refuses, Gives, Then, SameNext}

-- behind a description without a fault a trace is wanted
abbrev pub WantsTrace : List ℕ → Description → Next → Type 0
WantsTrace trace d n = n ≡ Wants trace max_bytes

-- What a command does next, once it has loaded these files, the last one first. A command that isn't built yet loads none.
abbrev pub Step : Asked → List (List ℕ) → Next → Type 0
Step (Build source) [] n = n ≡ Wants source max_bytes
Step (Build source) (bytes ∷ []) n = Then source (Meaning bytes) Built n
Step (Map source) [] n = n ≡ Wants source max_bytes
Step (Map source) (bytes ∷ []) n = Then source (Listing bytes) Listed n
Step (Sim source trace) [] n = n ≡ Wants source max_bytes
Step (Sim source trace) (bytes ∷ []) n = Then source (Meaning bytes) (WantsTrace trace) n
Step (Sim source trace) (lines ∷ bytes ∷ []) n = (d : Description) × Meaning bytes (Ok d) × Then trace (Simulated d lines) Answered n
Step c [] n = n ≡ Refuses (command_word c) not_built
Step c (bytes ∷ had) n = ⊥

-- Of two steps from the same files both want the same file, or both are refused for the same file, or both give.
abbrev pub IsOneAnswerLaw : Type 0
IsOneAnswerLaw = (c : Asked) (had : List (List ℕ)) (n m : Next) → Step c had n → Step c had m → SameNext n m

-- From the same files `sim` gives one text, and stores nothing.
abbrev pub IsOneTextLaw : Type 0
IsOneTextLaw = (source trace : List ℕ) (had : List (List ℕ)) (files more : List Pair) (x y : List ℕ) → Step (Sim source trace) had (Gives files x) → Step (Sim source trace) had (Gives more y) → (files ≡ []) × (x ≡ y)
