-- What the calls of a source, a sink and a console do.
use Rattle.std.specs.Prelude.{◌≡◌, ℕ, ◌+◌, ◌-◌, ◌^◌, ◌≤◌, ◌<◌, Bool, true, List, [], ◌∷◌, ◌++◌, length, take, min, Option, Some, None, Result, Ok, Err, IfSome, option_map, if◌then◌else◌, not, ◌&&◌, ◌⊎◌}
use Rattle.std.specs.Str.{bytes_eq}
use Rattle.lx_outside.specs.declared.calls.Pair.{Pair}
use Rattle.lx_outside.specs.declared.calls.Failed.{Failed}
use Rattle.lx_outside.specs.declared.calls.LoadFault.{LoadFault}
use Rattle.lx_outside.specs.declared.calls.LoadFault.TheVariants as faults

-- the longest limit of a load
abbrev pub longest : ℕ
longest = 134217728

-- the greatest count of faults
abbrev pub greatest : ℕ
greatest = 2 ^ 64 - 1

-- the count of faults went up in a call, or it stands at its greatest value
abbrev pub Rose : ℕ → ℕ → Type 0
Rose before now = min (before + 1) greatest ≤ now

-- no file has this name
abbrev pub is_new : List ℕ → List Pair → Bool
is_new name [] = true
is_new name (f ∷ fs) = not (bytes_eq f.name name) && is_new name fs

-- no two files have the same name
abbrev pub are_distinct : List Pair → Bool
are_distinct [] = true
are_distinct (f ∷ fs) = is_new f.name fs && are_distinct fs

-- the bytes of the file of this name
abbrev pub file_of : List Pair → List ℕ → Option (List ℕ)
file_of [] name = None
file_of (f ∷ fs) name = if bytes_eq f.name name then Some f.bytes else file_of fs name

-- the first limit + 1 bytes of a file that is longer than the limit
pub record IsCutOff (file : List ℕ) (limit : ℕ) (front : List ℕ) : Type 0 where
  pub longer : limit < length file
  pub cut : front ≡ take (limit + 1) file

-- the files have one of this name, and it is longer than the limit
pub record IsTooLong (files : List Pair) (name : List ℕ) (limit : ℕ) (front : List ℕ) : Type 0 where
  pub file : List ℕ
  pub found : file_of files name ≡ Some file
  pub cut_off : IsCutOff file limit front

-- What a load of this name answers, where `told` are the files that the source tells.
abbrev pub Loads : Option (List Pair) → List ℕ → ℕ → ℕ → ℕ → Result (List ℕ) LoadFault → Type 0
Loads told name limit before now (Ok bytes) = (length bytes ≤ limit) × IfSome told (λ files. file_of files name ≡ Some bytes)
Loads None name limit before now (Err faults.NoFile) = Rose before now
Loads (Some files) name limit before now (Err faults.NoFile) = file_of files name ≡ None
Loads told name limit before now (Err (faults.TooLong front)) = (length front ≡ limit + 1) × IfSome told (λ files. IsTooLong files name limit front)
Loads told name limit before now (Err faults.Failed) = Rose before now
Loads told name limit before now (Err faults.NoMemory) = Unit {0}

abbrev pub pair : List ℕ → List ℕ → Pair
pair name bytes = record { name = name; bytes = bytes }

-- what is told has these at its end, where it is told at all
abbrev pub Gains : {X : Type 0} → Option (List X) → Option (List X) → List X → Type 0
Gains old new more = new ≡ option_map (λ xs. xs ++ more) old

-- nothing was stored, or one pair of the name and a prefix of the bytes
abbrev pub StoresPart : Option (List Pair) → Option (List Pair) → List ℕ → List ℕ → Type 0
StoresPart old new name bytes = (new ≡ old) ⊎ ((k : ℕ) × Gains old new (pair name (take k bytes) ∷ []))

-- What a store does to the pairs, and to the count.
abbrev pub Stores : Option (List Pair) → Option (List Pair) → ℕ → ℕ → List ℕ → List ℕ → Result Unit Failed → Type 0
Stores old new before now name bytes (Ok _) = Gains old new (pair name bytes ∷ [])
Stores old new before now name bytes (Err _) = Rose before now × StoresPart old new name bytes

-- a prefix of the bytes was said
abbrev pub SaysPart : Option (List ℕ) → Option (List ℕ) → List ℕ → Type 0
SaysPart old new bytes = (k : ℕ) × Gains old new (take k bytes)

-- What a say does to the bytes, and to the count.
abbrev pub Says : Option (List ℕ) → Option (List ℕ) → ℕ → ℕ → List ℕ → Result Unit Failed → Type 0
Says old new before now bytes (Ok _) = Gains old new bytes
Says old new before now bytes (Err _) = Rose before now × SaysPart old new bytes
