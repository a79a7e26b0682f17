-- What reading a file, writing bytes and copying the words of a command line answer.
use Rattle.std.specs.Prelude.{IsUtf8, ◌≡◌, ◌+◌, ◌≤◌, ◌++◌, ℕ, List, [], ◌∷◌, length, take, slice_get, Option, Some, None, IfSome, Result, Ok, Err, ◌⊎◌}
use Rattle.std.specs.Io.KnownBytes.{Appends, Consumes, IsAtEnd}
use Rattle.std.specs.declared.env.FillError.{FillError}
use Rattle.std.specs.declared.env.FillError.TheVariants as filling
use Rattle.lx_outside.specs.declared.calls.Failed.{Failed}
use Rattle.lx_outside.specs.declared.calls.LoadFault.{LoadFault}
use Rattle.lx_outside.specs.declared.calls.LoadFault.TheVariants as faults
use Rattle.lx_outside.specs.Calls.{IsCutOff}

-- What reading answers, where `left` are the bytes that the reader has left, if it tells them: all of them where they are
-- within the limit, or the first limit + 1 where there are more.
abbrev pub Fetches : ℕ → Option (List ℕ) → Result (List ℕ) LoadFault → Type 0
Fetches limit left (Ok bytes) = (length bytes ≤ limit) × IfSome left (λ xs. bytes ≡ xs)
Fetches limit left (Err (faults.TooLong front)) = (length front ≡ limit + 1) × IfSome left (λ xs. IsCutOff xs limit front)
Fetches limit left (Err _) = Unit {0}

-- One read of so many bytes at most gave `more`, of this length, which stand behind the old ones; none only where no byte is left.
pub record ReadsSome (left rest : Option (List ℕ)) (old new : List ℕ) (most count : ℕ) : Type 0 where
  pub more : List ℕ
  pub added : new ≡ old ++ more
  pub counted : length more ≡ count
  pub bounded : count ≤ most
  pub consumed : Consumes left rest more
  pub ended : count ≡ 0 → IsAtEnd rest

-- a read that gave nothing failed, or wanted memory
abbrev pub IsUnread : LoadFault → Type 0
IsUnread faults.NoFile = ⊥
IsUnread (faults.TooLong front) = ⊥
IsUnread faults.Failed = Unit {0}
IsUnread faults.NoMemory = Unit {0}

-- what one read answers
abbrev pub Reads : Option (List ℕ) → Option (List ℕ) → List ℕ → List ℕ → ℕ → Result ℕ LoadFault → Type 0
Reads left rest old new most (Ok count) = ReadsSome left rest old new most count
Reads left rest old new most (Err f) = IsUnread f

-- What writing these bytes does to those that the writer holds, if it tells them: they are appended, or a prefix where it failed.
abbrev pub Writes : Option (List ℕ) → Option (List ℕ) → List ℕ → Result Unit Failed → Type 0
Writes old new bytes (Ok _) = Appends old new bytes
Writes old new bytes (Err _) = (k : ℕ) × Appends old new (take k bytes)

-- What copying the word at a place into a buffer answers, where the words are told: the word, or that the buffer is too short, or that there is none.
abbrev pub Copies : Option (List (List ℕ)) → ℕ → List ℕ → Result ℕ FillError → Type 0
Copies told place buffer (Ok n) = IfSome told (λ words. slice_get words place ≡ Some (take n buffer))
Copies told place buffer (Err filling.NotPresent) = IfSome told (λ words. length words ≤ place)
Copies told place buffer (Err filling.TooLong) = Unit {0}

-- a word of the command line is passed on as it is where it is UTF-8, and else as the empty word
abbrev pub IsPassed : List ℕ → List ℕ → Type 0
IsPassed given word = (IsUtf8 given × (word ≡ given)) ⊎ (¬ (IsUtf8 given) × (word ≡ []))

-- the word at a place, if there is one, as it is passed on
abbrev pub IsArgument : List (List ℕ) → ℕ → Option (List ℕ) → Type 0
IsArgument told place None = length told ≤ place
IsArgument told place (Some word) = (given : List ℕ) × (slice_get told place ≡ Some given) × IsPassed given word

-- the word at a place by way of a buffer: it is passed on, or there is none, or the buffer is too short
abbrev pub IsCopied : Option (List (List ℕ)) → ℕ → Result (List ℕ) FillError → Type 0
IsCopied told place (Ok word) = IfSome told (λ words. IsArgument words place (Some word))
IsCopied told place (Err filling.NotPresent) = IfSome told (λ words. IsArgument words place None)
IsCopied told place (Err filling.TooLong) = Unit {0}

-- each word is passed on, in order
abbrev pub ArePassed : List (List ℕ) → List (List ℕ) → Type 0
ArePassed [] [] = Unit {0}
ArePassed [] (word ∷ words) = ⊥
ArePassed (given ∷ rest) [] = ⊥
ArePassed (given ∷ rest) (word ∷ words) = IsPassed given word × ArePassed rest words
