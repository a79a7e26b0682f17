-- What listing a description does, part by part.
use Rattle.std.proofs.Common.{◌≡◌, ℕ, ◌≤◌, Bool, true, false, List, [], ◌∷◌, Option, Result, Ok, Err, length, refl, sym, subst, inl, inr, ◌⊎◌}
use Rattle.lx_text.specs.Limits.{max_bytes}
use Rattle.lx_text.specs.declared.faults.Fault.{Fault}
use Rattle.lx_text.specs.declared.faults.Refusal.{Refusal}
use Rattle.lx_text.specs.declared.faults.Refusal.TheVariants as refusal
use Rattle.lx_outside.specs.declared.calls.Pair.{Pair}
use Rattle.lx_outside.specs.Calls.{Rose}
use Rattle.lx_pytree.specs.declared.tree.Tree.{Tree}
use Rattle.lx_pytree.specs.Reading.{tree_of}
use Rattle.lx_syntax.specs.Classes.{classes}
use Rattle.lx_fhdl.specs.declared.design.Design.{Design}
use Rattle.lx_description.specs.declared.description.Description.{Description}
use Rattle.lx_describe.specs.Answers.{Answers}
use Rattle.lx_elab.specs.Elaboration.{elaborated}
use Rattle.lx_fsm.specs.Flattened.{IsWithout}
use Rattle.lx_export.specs.Listing.{listing_text}
use Rattle.lx_running.specs.Parts.{AreNamesOf, IsNaming}
use Rattle.lx_soc.specs.Surveyed.{IsPlaced, Surveys}
use Rattle.lx_soc.specs.declared.system.System.{System}
use Rattle.lx_command.specs.declared.fetching.Stop.{Stop}
use Rattle.lx_command.specs.declared.fetching.Stop.TheVariants as stop
use Rattle.lx_command.specs.declared.texts.Texts.{Texts}
use Rattle.lx_command.specs.Commands.{Map}
use Rattle.lx_command.specs.Fetching.{Fetched}
use Rattle.lx_command.specs.Judging.{IsTreeOfText, Judges}
use Rattle.lx_command.specs.Next.{Next, Wants, Refuses, Gives, Then}
use Rattle.lx_command.specs.World.{Has, LacksFile, IsLongFile}
use Rattle.lx_top.specs.Meaning.{Listed, Listing}
use Rattle.lx_top.specs.Making.{Lists, ListsBytes, ListsCircuit, ListsFile, ListsPlaces, Makes, Modules}
use Rattle.lx_top.specs.Modules.{is_module}
use Rattle.lx_top.specs.Outcome.{Comes}
use Rattle.lx_top.specs.Table.{Step}
use Rattle.lx_top.proofs.Reading.{says_of}

-- ---- systems, and modules

pub system_listed : (d : Description) (s : System) (r : Result (List ℕ) Refusal) → IsPlaced d s → ListsPlaces s r → Lists true d r
system_listed d s (Ok text) placed is = ((s, placed), (s, placed, is))
system_listed d s (Err (refusal.Fault f)) placed is = absurd is
system_listed d s (Err refusal.NoMemory) placed is = tt

pub system_unlisted : (d : Description) (r : Refusal) → Surveys d (Err r) → Lists true d (Err r)
system_unlisted d (refusal.Fault f) h = h
system_unlisted d refusal.NoMemory h = tt

pub module_listed : (d e : Description) (r : Result (List ℕ) Refusal) → IsWithout d e → is_module e ≡ true → ListsCircuit e.design r → Lists false d r
module_listed d e (Ok text) flat fit is = ((e, flat, fit, is.0), is.1)
module_listed d e (Err (refusal.Fault f)) flat fit is = (e, flat, inr (fit, is))
module_listed d e (Err refusal.NoMemory) flat fit is = tt

pub module_unlisted : (d : Description) (r : Refusal) → Modules d (Err r) → Lists false d (Err r)
module_unlisted d (refusal.Fault f) h = h
module_unlisted d refusal.NoMemory h = tt

pub circuit_listed : (d : Design) (names : List (List ℕ)) (text : List ℕ) → AreNamesOf d names → text ≡ [] → ListsCircuit d (Ok text)
circuit_listed d names text named is = (named.faultless, is)

pub circuit_unlisted : (d : Design) (r : Refusal) → IsNaming d (Err r) → ListsCircuit d (Err r)
circuit_unlisted d (refusal.Fault f) h = h
circuit_unlisted d refusal.NoMemory h = tt

-- by whether it is a system
pub system_kind : (d : Description) (r : Result (List ℕ) Refusal) → d.soc ≡ true → Lists true d r → Lists d.soc d r
system_kind d r soc h = subst (λ (b : Bool). Lists b d r) (sym soc) h

pub module_kind : (d : Description) (r : Result (List ℕ) Refusal) → d.soc ≡ false → Lists false d r → Lists d.soc d r
module_kind d r plain h = subst (λ (b : Bool). Lists b d r) (sym plain) h

-- ---- bytes

pub text_fault : (bytes : List ℕ) (r : Refusal) → Judges bytes (Err r) → ListsBytes bytes (Err r)
text_fault bytes (refusal.Fault f) j = inl j
text_fault bytes refusal.NoMemory j = tt

pub said_fault : (bytes : List ℕ) (t : Tree) (r : Refusal) → IsTreeOfText bytes t → Answers (Err r) (elaborated (classes bytes (tree_of t))) → ListsBytes bytes (Err r)
said_fault bytes t (refusal.Fault f) has a = inr (inl (says_of bytes t (Err f) has a))
said_fault bytes t refusal.NoMemory has a = tt

pub listed : (bytes : List ℕ) (t : Tree) (d : Description) (r : Result (List ℕ) Refusal) → IsTreeOfText bytes t → Answers (Ok d) (elaborated (classes bytes (tree_of t))) → Lists d.soc d r → ListsBytes bytes r
listed bytes t d (Ok text) has a h = (d, (says_of bytes t (Ok d) has a, h.0), h.1)
listed bytes t d (Err (refusal.Fault f)) has a h = inr (inr (d, says_of bytes t (Ok d) has a, h))
listed bytes t d (Err refusal.NoMemory) has a h = tt

-- ---- a file

pub gives_file : (name bytes text : List ℕ) (t : Texts) → ListsBytes bytes (Ok text) → t.files ≡ [] → t.text ≡ text → ListsFile name bytes (Ok t)
gives_file name bytes text t h none is = inr (h.0, h.1, (text, h.2, rw (none, is) refl))

pub refuses_file : (name bytes : List ℕ) (f : Fault) → Listing bytes (Err f) → Then name (Listing bytes) Listed (Refuses name f)
refuses_file name bytes f h = inl (f, h, refl)

-- ---- the command

wants : (told : Option (List Pair)) (source : List ℕ) → Comes told (Map source) (Wants source max_bytes)
wants told source = record { had = []; reached = tt; step = refl }

behind : (told : Option (List Pair)) (source bytes : List ℕ) (n : Next) → Has told source bytes → length bytes ≤ max_bytes → Step (Map source) (bytes ∷ []) n → Comes told (Map source) n
behind told source bytes n has short step =
    record { had = bytes ∷ []; reached = (tt, record { name = source; limit = max_bytes; wanted = refl; loaded = has; short = short }); step = step }

makes_of : (told : Option (List Pair)) (source bytes : List ℕ) (before now : ℕ) (r : Result Texts Stop) → Has told source bytes → length bytes ≤ max_bytes → ListsFile source bytes r → Makes (Map source) told before now r
makes_of told source bytes before now (Ok t) has short d = behind told source bytes (Gives t.files t.text) has short d
makes_of told source bytes before now (Err (stop.Read file)) has short d = absurd d
makes_of told source bytes before now (Err (stop.Fault file f)) has short d = inl (behind told source bytes (Refuses file.now f) has short d)
makes_of told source bytes before now (Err stop.NoMemory) has short d = tt

pub makes_from : (told : Option (List Pair)) (source bytes given : List ℕ) (before now : ℕ) (r : Result Texts Stop) → Has told source bytes → length bytes ≤ max_bytes → given ≡ bytes → ListsFile source given r → Makes (Map source) told before now r
makes_from told source bytes given before now r has short same d = makes_of told source bytes before now r has short (subst (λ (b : List ℕ). ListsFile source b r) same d)

pub makes_none : (told : Option (List Pair)) (source : List ℕ) (before now : ℕ) (s : Stop) → Fetched source told before now (Err s) → Makes (Map source) told before now (Err s)
makes_none told source before now (stop.Read file) f =
    subst (λ (n : List ℕ). (limit : ℕ) × Comes told (Map source) (Wants n limit) × (Rose before now ⊎ LacksFile told n)) (sym f.0) (max_bytes, wants told source, f.1)
makes_none told source before now (stop.Fault file f) e =
    inr (max_bytes, subst (λ (n : List ℕ). Comes told (Map source) (Wants n max_bytes)) (sym e.0) (wants told source), subst (λ (n : List ℕ). IsLongFile told n max_bytes) (sym e.0) e.1, e.2)
makes_none told source before now stop.NoMemory f = tt
