-- What the outside tells before and after a run, and what a line on err leaves.
use Rattle.std.specs.Prelude.{◌≡◌, ℕ, ◌<◌, List, Option, Some, None, IfSome, length, ◌⊎◌}
use Rattle.lx_outside.specs.declared.calls.Pair.{Pair}
use Rattle.lx_outside.specs.Calls.{Rose, file_of, Gains, SaysPart}

-- What the outside tells at one moment: files, stored pairs, what was said, and the counts of faults.
pub record World : Type 0 where
  pub files : Option (List Pair)
  pub load_faults : ℕ
  pub stored : Option (List Pair)
  pub store_faults : ℕ
  pub said : Option (List ℕ)
  pub say_faults : ℕ
  pub errors : Option (List ℕ)
  pub error_faults : ℕ

abbrev pub world : Option (List Pair) → ℕ → Option (List Pair) → ℕ → Option (List ℕ) → ℕ → Option (List ℕ) → ℕ → World
world files loads stored stores said says errors tells = record {
  files = files;
  load_faults = loads;
  stored = stored;
  store_faults = stores;
  said = said;
  say_faults = says;
  errors = errors;
  error_faults = tells;
}

-- where the source tells its files, the one of this name has these bytes
abbrev pub Has : Option (List Pair) → List ℕ → List ℕ → Type 0
Has told name bytes = IfSome told (λ files. file_of files name ≡ Some bytes)

-- the source tells its files, and none has this name
abbrev pub LacksFile : Option (List Pair) → List ℕ → Type 0
LacksFile None name = ⊥
LacksFile (Some files) name = file_of files name ≡ None

-- the file is longer than it may be
pub record IsLongFile (told : Option (List Pair)) (name : List ℕ) (limit : ℕ) : Type 0 where
  pub bytes : List ℕ
  pub loaded : Has told name bytes
  pub long : limit < length bytes

-- the whole line was said, or a prefix of it where saying it failed
abbrev pub SaysLine : Option (List ℕ) → Option (List ℕ) → ℕ → ℕ → List ℕ → Type 0
SaysLine old new before now line = Gains old new line ⊎ (Rose before now × SaysPart old new line)

-- the line on err
abbrev pub Tells : World → World → List ℕ → Type 0
Tells a b line = SaysLine a.errors b.errors a.error_faults b.error_faults line

-- nothing was stored, and nothing was said
pub record IsUntouched (a b : World) : Type 0 where
  pub stored : b.stored ≡ a.stored
  pub store_faults : b.store_faults ≡ a.store_faults
  pub said : b.said ≡ a.said
  pub say_faults : b.say_faults ≡ a.say_faults
