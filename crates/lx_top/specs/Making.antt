-- What making the texts of a command answers.
use Rattle.std.specs.Prelude.{◌≡◌, ℕ, ◌≤◌, Bool, true, List, [], Option, Result, Ok, Err, length, ◌⊎◌}
use Rattle.lx_outside.specs.declared.calls.Pair.{Pair}
use Rattle.lx_outside.specs.Calls.{Rose}
use Rattle.lx_text.specs.Limits.{max_bytes}
use Rattle.lx_text.specs.declared.faults.Fault.{Fault}
use Rattle.lx_text.specs.declared.faults.Refusal.{Refusal}
use Rattle.lx_text.specs.declared.faults.Refusal.TheVariants as refusal
use Rattle.lx_fhdl.specs.declared.design.Design.{Design}
use Rattle.lx_description.specs.declared.description.Description.{Description}
use Rattle.lx_fsm.specs.Flattened.{IsWithout}
use Rattle.lx_translate.specs.Translation.{HasFault, IsFaultless, IsTextOf}
use Rattle.lx_export.specs.Listing.{listing_text}
use Rattle.lx_soc.specs.declared.system.System.{System}
use Rattle.lx_running.specs.Traced.{Traced}
use Rattle.lx_command.specs.declared.fetching.Stop.{Stop}
use Rattle.lx_command.specs.declared.fetching.Stop.TheVariants as stop
use Rattle.lx_command.specs.declared.texts.Texts.{Texts}
use Rattle.lx_command.specs.Commands.{Asked}
use Rattle.lx_command.specs.Lines.{summary_text, too_long}
use Rattle.lx_command.specs.Next.{Next, Wants, Refuses, Gives, Then}
use Rattle.lx_command.specs.World.{Has, LacksFile, IsLongFile}
use Rattle.lx_top.specs.Files.{module_files}
use Rattle.lx_top.specs.Meaning.{Answered, Built, IsListedAs, IsModuleRefused, IsRefusedFor, IsSystemRefused, IsUnlistedAs, Listed, ListedAs, Listing, Meaning, Says, Simulated}
use Rattle.lx_top.specs.Modules.{is_module}
use Rattle.lx_top.specs.Outcome.{Comes}

-- What taking the FSMs of a description for their statements answers.
abbrev pub Flattened : Description → Result Description Refusal → Type 0
Flattened d (Ok e) = IsWithout d e
Flattened d (Err (refusal.Fault f)) = ⊥
Flattened d (Err refusal.NoMemory) = Unit {0}

-- What making a top that is no system a module answers: the module, or that it is more.
abbrev pub Modules : Description → Result Description Refusal → Type 0
Modules d (Ok e) = IsWithout d e × (is_module e ≡ true)
Modules d (Err (refusal.Fault f)) = IsModuleRefused d f
Modules d (Err refusal.NoMemory) = Unit {0}

-- What refusing a system answers: its first fault, or that it isn't built yet.
abbrev pub RefusesSystem : Description → Refusal → Type 0
RefusesSystem d (refusal.Fault f) = IsSystemRefused d f
RefusesSystem d refusal.NoMemory = Unit {0}

-- What making any description a module answers.
abbrev pub Judges : Description → Result Description Refusal → Type 0
Judges d (Ok e) = IsWithout d e × (is_module e ≡ true)
Judges d (Err (refusal.Fault f)) = IsRefusedFor d f
Judges d (Err refusal.NoMemory) = Unit {0}

-- the bytes describe this module
pub record IsModuleOf (bytes : List ℕ) (e : Description) : Type 0 where
  pub described : Description
  pub says : Says bytes (Ok described)
  pub flat : IsWithout described e
  pub fit : is_module e ≡ true

-- What reading the module of a description's bytes answers.
abbrev pub Reads : List ℕ → Result Description Refusal → Type 0
Reads bytes (Ok e) = IsModuleOf bytes e
Reads bytes (Err (refusal.Fault f)) = Meaning bytes (Err f)
Reads bytes (Err refusal.NoMemory) = Unit {0}

-- ---- build

-- the files and the summary of a module without a fault
pub record AreTextsOf (e : Description) (t : Texts) : Type 0 where
  pub faultless : IsFaultless e.design
  pub written : List ℕ
  pub is : IsTextOf e.design written
  pub files : t.files ≡ module_files written
  pub text : t.text ≡ summary_text e.top

-- What writing a module answers: its text, and what is said of it.
abbrev pub Writes : Description → Result (List ℕ × List ℕ) Refusal → Type 0
Writes e (Ok t) = IsFaultless e.design × IsTextOf e.design t.0 × (t.1 ≡ summary_text e.top)
Writes e (Err (refusal.Fault f)) = HasFault e.design f
Writes e (Err refusal.NoMemory) = Unit {0}

-- What making the texts of a module answers.
abbrev pub Builds : Description → Result Texts Refusal → Type 0
Builds e (Ok t) = AreTextsOf e t
Builds e (Err (refusal.Fault f)) = HasFault e.design f
Builds e (Err refusal.NoMemory) = Unit {0}

-- What making the texts of a description's bytes answers.
abbrev pub Describes : List ℕ → Result Texts Refusal → Type 0
Describes bytes (Ok t) = (d : Description) × Meaning bytes (Ok d) × Built d (Gives t.files t.text)
Describes bytes (Err (refusal.Fault f)) = Meaning bytes (Err f)
Describes bytes (Err refusal.NoMemory) = Unit {0}

-- Texts or a fault come next, as `next` says; nothing more is loaded.
abbrev pub Ends : (Next → Type 0) → Result Texts Stop → Type 0
Ends next (Ok t) = next (Gives t.files t.text)
Ends next (Err (stop.Read _)) = ⊥
Ends next (Err (stop.Fault file f)) = next (Refuses file.now f)
Ends next (Err stop.NoMemory) = Unit {0}

-- What making the texts of a description's file of this name answers.
abbrev pub DescribesFile : List ℕ → List ℕ → Result Texts Stop → Type 0
DescribesFile name bytes r = Ends (Then name (Meaning bytes) Built) r

-- ---- more files

-- What a run that may load more answers, where `next` says what comes next, over the files that are told, with the counts of the
-- source before and after.
abbrev pub EndsLater : (Next → Type 0) → Option (List Pair) → ℕ → ℕ → Result Texts Stop → Type 0
EndsLater next told before now (Ok t) = next (Gives t.files t.text)
EndsLater next told before now (Err (stop.Read name)) = (limit : ℕ) × next (Wants name.now limit) × (Rose before now ⊎ LacksFile told name.now)
EndsLater next told before now (Err (stop.Fault file f)) = next (Refuses file.now f) ⊎ ((limit : ℕ) × next (Wants file.now limit) × IsLongFile told file.now limit × (f ≡ too_long))
EndsLater next told before now (Err stop.NoMemory) = Unit {0}

-- What making the texts of a command answers.
abbrev pub Makes : Asked → Option (List Pair) → ℕ → ℕ → Result Texts Stop → Type 0
Makes c told before now r = EndsLater (Comes told c) told before now r

-- A file of this name is wanted; or it was loaded, and `on` says what comes behind its bytes.
abbrev pub Loading : Option (List Pair) → List ℕ → (List ℕ → Next → Type 0) → Next → Type 0
Loading told name on n = (n ≡ Wants name max_bytes) ⊎ ((bytes : List ℕ) × Has told name bytes × (length bytes ≤ max_bytes) × on bytes n)

-- ---- sim

-- the lines of a trace are answered, or refused
abbrev pub Runs : Design → List ℕ → List ℕ → Next → Type 0
Runs d trace lines n = Then trace (Traced d lines) Answered n

-- the same of the trace of this name
abbrev pub RunsFile : Option (List Pair) → Design → List ℕ → Next → Type 0
RunsFile told d trace n = Loading told trace (Runs d trace) n

-- a circuit is refused for its first fault, or its trace is run
abbrev pub RunsCircuit : Option (List Pair) → List ℕ → List ℕ → Design → Next → Type 0
RunsCircuit told source trace d n = ((f : Fault) × HasFault d f × (n ≡ Refuses source f)) ⊎ (IsFaultless d × RunsFile told d trace n)

-- the same of a description, whose circuit has the statements of its FSMs
abbrev pub RunsTrace : Option (List Pair) → List ℕ → Description → Next → Type 0
RunsTrace told trace d n = Loading told trace (λ lines. Then trace (Simulated d lines) Answered) n

-- the same of its bytes
abbrev pub RunsBytes : Option (List Pair) → List ℕ → List ℕ → List ℕ → Next → Type 0
RunsBytes told source trace bytes n = Then source (Meaning bytes) (RunsTrace told trace) n

-- ---- map

-- What listing a description answers, by whether it is a system.
abbrev pub Lists : Bool → Description → Result (List ℕ) Refusal → Type 0
Lists b d (Ok text) = IsListedAs b d × ListedAs b d text
Lists b d (Err (refusal.Fault f)) = IsUnlistedAs b d f
Lists b d (Err refusal.NoMemory) = Unit {0}

-- What listing the places of a system answers.
abbrev pub ListsPlaces : System → Result (List ℕ) Refusal → Type 0
ListsPlaces s (Ok text) = text ≡ listing_text s.map s.placement
ListsPlaces s (Err (refusal.Fault f)) = ⊥
ListsPlaces s (Err refusal.NoMemory) = Unit {0}

-- What listing a circuit answers: it has no parts with places.
abbrev pub ListsCircuit : Design → Result (List ℕ) Refusal → Type 0
ListsCircuit d (Ok text) = IsFaultless d × (text ≡ [])
ListsCircuit d (Err (refusal.Fault f)) = HasFault d f
ListsCircuit d (Err refusal.NoMemory) = Unit {0}

-- What listing the bytes of a description answers.
abbrev pub ListsBytes : List ℕ → Result (List ℕ) Refusal → Type 0
ListsBytes bytes (Ok text) = (d : Description) × Listing bytes (Ok d) × ListedAs d.soc d text
ListsBytes bytes (Err (refusal.Fault f)) = Listing bytes (Err f)
ListsBytes bytes (Err refusal.NoMemory) = Unit {0}

-- What listing the file of this name answers.
abbrev pub ListsFile : List ℕ → List ℕ → Result Texts Stop → Type 0
ListsFile name bytes r = Ends (Then name (Listing bytes) Listed) r
