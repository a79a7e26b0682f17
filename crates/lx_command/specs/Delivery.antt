-- What storing files and saying a text leaves.
use Rattle.std.specs.Prelude.{◌≡◌, ℕ, List, [], ◌∷◌, ◌++◌, Option, codes, ◌⊎◌}
use Rattle.lx_outside.specs.declared.calls.Pair.{Pair}
use Rattle.lx_outside.specs.Calls.{Rose, Gains, SaysPart, StoresPart}
use Rattle.lx_command.specs.declared.status.Status.{Status}
use Rattle.lx_command.specs.declared.status.Status.TheVariants as status
use Rattle.lx_command.specs.Lines.{cannot_write_line}
use Rattle.lx_command.specs.World.{World, SaysLine, Tells}

-- all files are stored and the text is said, and nothing else
pub record IsDelivered (files : List Pair) (text : List ℕ) (a b : World) : Type 0 where
  pub stored : Gains a.stored b.stored files
  pub said : Gains a.said b.said text
  pub errors : b.errors ≡ a.errors
  pub error_faults : b.error_faults ≡ a.error_faults

-- A store failed: the files before this one are stored whole, and at most a prefix of its bytes. Nothing was said.
pub record StoreFailed (files : List Pair) (a b : World) : Type 0 where
  pub earlier : List Pair
  pub file : Pair
  pub later : List Pair
  pub order : files ≡ earlier ++ file ∷ later
  pub middle : Option (List Pair)
  pub whole : Gains a.stored middle earlier
  pub part : StoresPart middle b.stored file.name file.bytes
  pub rose : Rose a.store_faults b.store_faults
  pub said : b.said ≡ a.said
  pub say_faults : b.say_faults ≡ a.say_faults
  pub line : Tells a b (cannot_write_line file.name)

-- A say failed: all files are stored whole, and a prefix of the text, which isn't empty, was said.
pub record SayFailed (files : List Pair) (text : List ℕ) (a b : World) : Type 0 where
  pub stored : Gains a.stored b.stored files
  pub some : text ≡ [] → ⊥
  pub said : SaysPart a.said b.said text
  pub rose : Rose a.say_faults b.say_faults
  pub line : Tells a b (cannot_write_line (codes "output"))

-- What con and err tell at one moment.
pub record Said : Type 0 where
  pub said : Option (List ℕ)
  pub say_faults : ℕ
  pub errors : Option (List ℕ)
  pub error_faults : ℕ

abbrev pub told : Option (List ℕ) → ℕ → Option (List ℕ) → ℕ → Said
told said says errors tells = record { said = said; say_faults = says; errors = errors; error_faults = tells }

-- a text that isn't empty was said in part
pub record IsSaidInPart (text : List ℕ) (a b : Said) : Type 0 where
  pub some : text ≡ [] → ⊥
  pub said : SaysPart a.said b.said text
  pub rose : Rose a.say_faults b.say_faults
  pub line : SaysLine a.errors b.errors a.error_faults b.error_faults (cannot_write_line (codes "output"))

-- a text was said whole
pub record IsSaid (text : List ℕ) (a b : Said) : Type 0 where
  pub said : Gains a.said b.said text
  pub errors : b.errors ≡ a.errors
  pub error_faults : b.error_faults ≡ a.error_faults

-- what saying a text ends in
abbrev pub SaysText : List ℕ → Said → Said → Status → Type 0
SaysText text a b status.Done = IsSaid text a b
SaysText text a b status.WriteFault = IsSaidInPart text a b
SaysText text a b _ = ⊥

-- what storing the files and saying the text ends in
abbrev pub Delivers : List Pair → List ℕ → World → World → Status → Type 0
Delivers files text a b status.Done = IsDelivered files text a b
Delivers files text a b status.WriteFault = StoreFailed files a b ⊎ SayFailed files text a b
Delivers files text a b _ = ⊥
