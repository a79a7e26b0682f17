-- What a line of a trace says, before it is known whether its names are there.
use Rattle.std.specs.Prelude.{ℕ, ℤ, Bool, true, false, List, [], ◌∷◌, Option, Some, None, codes, nat_eq, if◌then◌else◌}
use Rattle.std.specs.List.{list_all}
use Rattle.std.specs.Str.{bytes_eq}
use Rattle.lx_trace.specs.Numbers.{counting, is_between, number}
use Rattle.lx_trace.specs.Pieces.{pieces}

pub data Saying : Type 0 where
  -- the input has the value from now on
  Set : (input : List ℕ) (value : ℤ) → Saying
  -- so many steps in which these domains rise
  Run : (count : ℕ) (domains : List (List ℕ)) → Saying
  Show : (name : List ℕ) → Saying

abbrev pub set_saying : List ℕ → Option ℤ → Option Saying
set_saying input (Some value) = Some (Set input value)
set_saying input None = None

-- some domain has to rise
abbrev pub run_saying : Option ℕ → List (List ℕ) → Option Saying
run_saying (Some count) (d ∷ ds) = Some (Run count (d ∷ ds))
run_saying _ _ = None

-- a word of one argument, of two, and of any number
abbrev pub saying_of_one : List ℕ → List ℕ → Option Saying
saying_of_one word a = if bytes_eq word (codes "show") then Some (Show a) else None

abbrev pub saying_of_two : List ℕ → List ℕ → List ℕ → Option Saying
saying_of_two word a b = if bytes_eq word (codes "set") then set_saying a (number b) else None

abbrev pub saying_by_arguments : List ℕ → List (List ℕ) → Option Saying
saying_by_arguments word (a ∷ []) = saying_of_one word a
saying_by_arguments word (a ∷ (b ∷ [])) = saying_of_two word a b
saying_by_arguments word _ = None

abbrev pub run_counted : List (List ℕ) → Option Saying
run_counted (n ∷ ds) = run_saying (counting n) ds
run_counted [] = None

abbrev pub saying_of : List ℕ → List (List ℕ) → Option Saying
saying_of word args =
    if bytes_eq word (codes "tick") then run_saying (Some 1) args
    else (if bytes_eq word (codes "run") then run_counted args else saying_by_arguments word args)

abbrev pub is_nonempty : List ℕ → Bool
is_nonempty [] = false
is_nonempty (b ∷ bs) = true

abbrev pub saying_of_words : List (List ℕ) → Option Saying
saying_of_words [] = None
saying_of_words (w ∷ ws) = if list_all is_nonempty (w ∷ ws) then saying_of w ws else None

-- an empty line, or one that begins with `#`
abbrev pub is_silent : List ℕ → Bool
is_silent [] = true
is_silent (b ∷ bs) = nat_eq b 35

-- blanks to `~`
abbrev pub is_plain : List ℕ → Bool
is_plain line = list_all (is_between 32 126) line

-- What a line says: words with one blank between them.
unfoldable pub saying : List ℕ → Option Saying
saying line = if is_plain line then saying_of_words (pieces 32 line) else None
