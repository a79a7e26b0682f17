-- Which lists of words are commands, and what each asks for.
use Rattle.std.specs.Prelude.{ℕ, Bool, true, false, List, [], ◌∷◌, ◌+◌, ◌-◌, ◌*◌, Option, Some, None, codes, ◌&&◌, nat_le, if◌then◌else◌}
use Rattle.std.specs.Str.{bytes_eq}
use Rattle.lx_command.specs.declared.commands.Command.{Command}
use Rattle.lx_command.specs.declared.commands.Command.TheVariants as command

-- What the words ask for, with their names and their number.
pub data Asked : Type 0 where
  Build : (source : List ℕ) → Asked
  Map : (source : List ℕ) → Asked
  Sim : (source trace : List ℕ) → Asked
  Poke : (source script : List ℕ) → Asked
  Gen : (size : ℕ) → Asked

-- what a command of the program asks for
abbrev pub asked_of : Command → Asked
asked_of (command.Build source) = Build source.now
asked_of (command.Map source) = Map source.now
asked_of (command.Sim source trace) = Sim source.now trace.now
asked_of (command.Poke source script) = Poke source.now script.now
asked_of (command.Gen size) = Gen size

-- the word that a command begins with
abbrev pub command_word : Asked → List ℕ
command_word (Build _) = codes "build"
command_word (Map _) = codes "map"
command_word (Sim _ _) = codes "sim"
command_word (Poke _ _) = codes "poke"
command_word (Gen _) = codes "gen"

abbrev pub is_empty : List ℕ → Bool
is_empty [] = true
is_empty (b ∷ bs) = false

abbrev pub is_digit : ℕ → Bool
is_digit b = nat_le 48 b && nat_le b 57

-- a number from 1 to 31 in decimal, without a leading zero
abbrev pub size_of : List ℕ → Option ℕ
size_of [] = None
size_of (a ∷ []) = if nat_le 49 a && nat_le a 57 then Some (a - 48) else None
size_of (a ∷ b ∷ []) = if nat_le 49 a && (is_digit b && nat_le (10 * (a - 48) + (b - 48)) 31) then Some (10 * (a - 48) + (b - 48)) else None
size_of (a ∷ b ∷ c ∷ rest) = None

abbrev pub gen_of : Option ℕ → Option Asked
gen_of None = None
gen_of (Some size) = Some (Gen size)

abbrev pub is_word : List ℕ → List ℕ → Bool
is_word word name = bytes_eq word name

-- `build SRC`, `map SRC`
abbrev pub command_on : List ℕ → List ℕ → Option Asked
command_on word source =
    if is_empty source then None
    else (if is_word word (codes "build") then Some (Build source)
    else (if is_word word (codes "map") then Some (Map source) else None))

-- and `gen N`
abbrev pub command_of_two : List ℕ → List ℕ → Option Asked
command_of_two word given = if is_word word (codes "gen") then gen_of (size_of given) else command_on word given

-- `sim SRC TRACE`, `poke SRC SCRIPT`
abbrev pub command_of_three : List ℕ → List ℕ → List ℕ → Option Asked
command_of_three word first second =
    if is_empty first then None
    else (if is_empty second then None
    else (if is_word word (codes "sim") then Some (Sim first second)
    else (if is_word word (codes "poke") then Some (Poke first second) else None)))

-- every other list of words is no command
abbrev pub command_of : List (List ℕ) → Option Asked
command_of [] = None
command_of (word ∷ []) = None
command_of (word ∷ given ∷ []) = command_of_two word given
command_of (word ∷ first ∷ second ∷ []) = command_of_three word first second
command_of (word ∷ first ∷ second ∷ more ∷ rest) = None
