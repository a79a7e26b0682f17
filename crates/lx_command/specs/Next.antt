-- A command is a chain: it wants a file, or is refused, or gives files and a text.
use Rattle.std.specs.Prelude.{◌≡◌, ℕ, List, Result, Ok, Err, ◌⊎◌}
use Rattle.lx_outside.specs.declared.calls.Pair.{Pair}
use Rattle.lx_text.specs.declared.faults.Fault.{Fault}

-- What a command does next: it wants the file of a name, of so many bytes at most; or it is refused for a fault of a file;
-- or it gives files that are stored and a text that is said.
pub data Next : Type 0 where
  Wants : (name : List ℕ) (limit : ℕ) → Next
  Refuses : (file : List ℕ) (fault : Fault) → Next
  Gives : (files : List Pair) (text : List ℕ) → Next

-- a fault of what the file means ends the chain; else it goes on from the value
abbrev pub Then : {A : Type 0} → List ℕ → (Result A Fault → Type 0) → (A → Next → Type 0) → Next → Type 0
Then file M on n = ((f : Fault) × M (Err f) × (n ≡ Refuses file f)) ⊎ ((x : _) × M (Ok x) × on x n)

-- two ways to go on agree, but for the fault that is told and for what is given
abbrev pub SameNext : Next → Next → Type 0
SameNext (Wants a k) (Wants b l) = (a ≡ b) × (k ≡ l)
SameNext (Refuses a f) (Refuses b g) = a ≡ b
SameNext (Gives fs t) (Gives gs u) = Unit {0}
SameNext _ _ = ⊥
