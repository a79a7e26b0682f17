-- What a description is, the files that are made of it, what it answers to a trace, and what is listed of it. No other file
-- names these.
use Rattle.std.specs.Prelude.{◌≡◌, ℕ, Bool, true, false, List, [], Result, Ok, Err, ◌⊎◌}
use Rattle.lx_outside.specs.declared.calls.Pair.{Pair}
use Rattle.lx_text.specs.declared.faults.Fault.{Fault}
use Rattle.lx_grammar.specs.Derives.{Tree}
use Rattle.lx_syntax.specs.Classes.{classes}
use Rattle.lx_description.specs.declared.description.Description.{Description}
use Rattle.lx_fsm.specs.Flattened.{IsWithout}
use Rattle.lx_elab.specs.Elaboration.{elaborated}
use Rattle.lx_translate.specs.Translation.{IsFaultless, HasFault, IsTextOf}
use Rattle.lx_running.specs.Traced.{Traced}
use Rattle.lx_command.specs.Judging.{HasTree, HasTextFault}
use Rattle.lx_command.specs.Lines.{summary_text, not_built}
use Rattle.lx_command.specs.Next.{Next, Gives}
use Rattle.lx_export.specs.Listing.{listing_text}
use Rattle.lx_soc.specs.Surveyed.{IsFault, IsPlaced}
use Rattle.lx_soc.specs.declared.system.System.{System}
use Rattle.lx_top.specs.Files.{module_files}
use Rattle.lx_top.specs.Modules.{is_module}

-- the classes of the text's tree come to this description, or to this fault
pub record Says (bytes : List ℕ) (r : Result Description Fault) : Type 0 where
  pub tree : Tree
  pub has : HasTree bytes tree
  pub says : elaborated (classes bytes tree) ≡ r

-- a description that is built: with the statements of its FSMs in its circuit it is a module without a fault
abbrev pub IsBuilt : Description → Type 0
IsBuilt d = (e : Description) × IsWithout d e × (is_module e ≡ true) × IsFaultless e.design

-- a top that is no system and isn't built: it is more than a module then, or its circuit has this fault
abbrev pub IsModuleRefused : Description → Fault → Type 0
IsModuleRefused d f = (e : Description) × IsWithout d e × (((is_module e ≡ false) × (f ≡ not_built)) ⊎ ((is_module e ≡ true) × HasFault e.design f))

-- all parts of a system have their places
abbrev pub HasPlaces : Description → Type 0
HasPlaces d = (s : System) × IsPlaced d s

-- a system: the first fault of its registers or places; else it isn't built yet
abbrev pub IsSystemRefused : Description → Fault → Type 0
IsSystemRefused d f = IsFault d f ⊎ (HasPlaces d × (f ≡ not_built))

-- one of them, by whether it is a system
abbrev pub IsRefusedAs : Bool → Description → Fault → Type 0
IsRefusedAs true d f = IsSystemRefused d f
IsRefusedAs false d f = IsModuleRefused d f

-- a description that isn't built, for this fault
abbrev pub IsRefusedFor : Description → Fault → Type 0
IsRefusedFor d f = IsRefusedAs d.soc d f

-- the bytes mean this description, or this is their first fault: of the text, of what it describes, of its circuit
abbrev pub Meaning : List ℕ → Result Description Fault → Type 0
Meaning bytes (Ok d) = Says bytes (Ok d) × IsBuilt d
Meaning bytes (Err f) = HasTextFault bytes f ⊎ (Says bytes (Err f) ⊎ ((d : Description) × Says bytes (Ok d) × IsRefusedFor d f))

-- the files of a description: the text is that of its circuit with the statements of its FSMs
abbrev pub Files : Description → List Pair → Type 0
Files d files = (e : Description) × IsWithout d e × ((text : List ℕ) × IsTextOf e.design text × (files ≡ module_files text))

-- its files are stored, and its summary is said
abbrev pub Built : Description → Next → Type 0
Built d n = (files : List Pair) × Files d files × (n ≡ Gives files (summary_text d.top))

-- what the description's circuit, with the statements of its FSMs, answers to a trace; or the trace's first fault
abbrev pub Simulated : Description → List ℕ → Result (List ℕ) Fault → Type 0
Simulated d trace r = (e : Description) × IsWithout d e × Traced e.design trace r

-- nothing is stored, and the answers are said
abbrev pub Answered : List ℕ → Next → Type 0
Answered text n = n ≡ Gives [] text

-- ---- map

-- a description that is listed: a system whose parts have their places, or a module that is built
abbrev pub IsListedAs : Bool → Description → Type 0
IsListedAs true d = HasPlaces d
IsListedAs false d = IsBuilt d

-- one that isn't, for this fault
abbrev pub IsUnlistedAs : Bool → Description → Fault → Type 0
IsUnlistedAs true d f = IsFault d f
IsUnlistedAs false d f = IsModuleRefused d f

-- the bytes mean this description for a listing, or this is their first fault
abbrev pub Listing : List ℕ → Result Description Fault → Type 0
Listing bytes (Ok d) = Says bytes (Ok d) × IsListedAs d.soc d
Listing bytes (Err f) = HasTextFault bytes f ⊎ (Says bytes (Err f) ⊎ ((d : Description) × Says bytes (Ok d) × IsUnlistedAs d.soc d f))

-- what is said of it: the listing of a system, and of a module nothing
abbrev pub ListedAs : Bool → Description → List ℕ → Type 0
ListedAs true d text = (s : System) × IsPlaced d s × (text ≡ listing_text s.map s.placement)
ListedAs false d text = text ≡ []

-- nothing is stored, and the listing is said
abbrev pub Listed : Description → Next → Type 0
Listed d n = (text : List ℕ) × ListedAs d.soc d text × (n ≡ Gives [] text)
