-- A run's end, from what its parts did.
use Rattle.std.proofs.Common.{◌≡◌, ℕ, ◌≤◌, List, [], ◌∷◌, Option, Some, Result, Ok, Err, refl, sym, ap, subst, ◌∙◌, length, codes, inl, inr, ◌⊎◌}
use Rattle.lx_text.specs.declared.faults.Fault.{Fault}
use Rattle.lx_text.specs.declared.faults.Refusal.{Refusal}
use Rattle.lx_text.specs.declared.faults.Refusal.TheVariants as refusal
use Rattle.lx_text.specs.Limits.{max_bytes}
use Rattle.lx_outside.specs.declared.calls.Pair.{Pair}
use Rattle.lx_outside.specs.Calls.{Rose}
use Rattle.lx_command.specs.declared.fetching.Stop.{Stop}
use Rattle.lx_command.specs.declared.fetching.Stop.TheVariants as stop
use Rattle.lx_command.specs.declared.status.Status.{Status}
use Rattle.lx_command.specs.declared.status.Status.TheVariants as status
use Rattle.lx_command.specs.declared.texts.Texts.{Texts}
use Rattle.lx_command.specs.Commands.{Asked, Build, Poke, Gen}
use Rattle.lx_command.specs.Delivery.{Delivers}
use Rattle.lx_command.specs.Fetching.{Fetched, IsNotBuilt, IsReport}
use Rattle.lx_command.specs.Lines.{summary_text, no_memory_line, not_built}
use Rattle.lx_command.specs.Next.{Next, Wants, Refuses, Gives, Then}
use Rattle.lx_command.specs.World.{World, Has, LacksFile, IsLongFile, IsUntouched, Tells}
use Rattle.lx_fhdl.specs.declared.design.Design.{Design}
use Rattle.lx_description.specs.declared.description.Description.{Description}
use Rattle.lx_translate.specs.Translation.{Translates}
use Rattle.lx_soc.specs.Surveyed.{IsPlain}
use Rattle.lx_soc.specs.declared.system.System.{System}
use Rattle.lx_top.specs.Files.{build_files, module_files}
use Rattle.lx_top.specs.Meaning.{Meaning, Built}
use Rattle.lx_top.specs.Table.{Step}
use Rattle.lx_top.specs.Outcome.{Comes, EndsBy}
use Rattle.lx_top.specs.Making.{Builds, Describes, DescribesFile, IsModuleOf, Makes, Reads, Writes}
use Rattle.lx_top.proofs.Flat.{same_top}
use Rattle.lx_top.proofs.Reading.{circuit_fault, means}

-- a build wants its description
wants : (told : Option (List Pair)) (source : List ℕ) → Comes told (Build source) (Wants source max_bytes)
wants told source = record { had = []; reached = tt; step = refl }

-- what a build comes to behind its description
behind : (told : Option (List Pair)) (source bytes : List ℕ) (n : Next) → Has told source bytes → length bytes ≤ max_bytes → Step (Build source) (bytes ∷ []) n → Comes told (Build source) n
behind told source bytes n has short step =
    record { had = bytes ∷ []; reached = (tt, record { name = source; limit = max_bytes; wanted = refl; loaded = has; short = short }); step = step }

-- the texts of what was fetched, or why it has none
makes_of : (told : Option (List Pair)) (source bytes : List ℕ) (before now : ℕ) (r : Result Texts Stop) → Has told source bytes → length bytes ≤ max_bytes → DescribesFile source bytes r → Makes (Build source) told before now r
makes_of told source bytes before now (Ok t) has short d = behind told source bytes (Gives t.files t.text) has short d
makes_of told source bytes before now (Err (stop.Read file)) has short d = absurd d
makes_of told source bytes before now (Err (stop.Fault file f)) has short d = inl (behind told source bytes (Refuses file.now f) has short d)
makes_of told source bytes before now (Err stop.NoMemory) has short d = tt

pub makes_from : (told : Option (List Pair)) (source bytes given : List ℕ) (before now : ℕ) (r : Result Texts Stop) → Has told source bytes → length bytes ≤ max_bytes → given ≡ bytes → DescribesFile source given r → Makes (Build source) told before now r
makes_from told source bytes given before now r has short same d = makes_of told source bytes before now r has short (subst (λ (b : List ℕ). DescribesFile source b r) same d)

-- why nothing was fetched
pub makes_none : (told : Option (List Pair)) (source : List ℕ) (before now : ℕ) (s : Stop) → Fetched source told before now (Err s) → Makes (Build source) told before now (Err s)
makes_none told source before now (stop.Read file) f =
    subst (λ (n : List ℕ). (limit : ℕ) × Comes told (Build source) (Wants n limit) × (Rose before now ⊎ LacksFile told n)) (sym f.0) (max_bytes, wants told source, f.1)
makes_none told source before now (stop.Fault file f) e =
    inr (max_bytes, subst (λ (n : List ℕ). Comes told (Build source) (Wants n max_bytes)) (sym e.0) (wants told source), subst (λ (n : List ℕ). IsLongFile told n max_bytes) (sym e.0) e.1, e.2)
makes_none told source before now stop.NoMemory f = tt

delivered : (c : Asked) (a b : World) (t : Texts) (s : Status) → Comes a.files c (Gives t.files t.text) → Delivers t.files t.text a b s → EndsBy (Some c) a b s
delivered c a b t status.Done comes d = record { files = t.files; text = t.text; comes = comes; delivered = d }
delivered c a b t status.Refused comes d = absurd d
delivered c a b t status.Usage comes d = absurd d
delivered c a b t status.ReadFault comes d = absurd d
delivered c a b t status.WriteFault comes d = record { files = t.files; text = t.text; comes = comes; cause = d }
delivered c a b t status.NoMemory comes d = absurd d

no_memory : (c : Asked) (a b : World) (s : Status) (line : List ℕ) → s ≡ status.NoMemory → line ≡ no_memory_line → IsUntouched a b → Tells a b line → EndsBy (Some c) a b s
no_memory c a b s line is e untouched told =
    subst (λ (t : Status). EndsBy (Some c) a b t) (sym is) (record { untouched = untouched; line = subst (λ (l : List ℕ). Tells a b l) e told })

reported : (c : Asked) (a b : World) (x : Stop) (s : Status) (line : List ℕ) → Makes c a.files a.load_faults b.load_faults (Err x) → IsReport x s line → IsUntouched a b → Tells a b line → EndsBy (Some c) a b s
reported c a b (stop.Read name) s line made report untouched told =
    subst (λ (t : Status). EndsBy (Some c) a b t) (sym report.0)
    (record { name = name.now; limit = made.0; comes = made.1; cause = made.2; untouched = untouched; line = subst (λ (l : List ℕ). Tells a b l) report.1 told })
reported c a b (stop.Fault file f) s line made (inl report) untouched told =
    subst (λ (t : Status). EndsBy (Some c) a b t) (sym report.0)
    (record { file = file.now; fault = f; cause = made; untouched = untouched; line = subst (λ (l : List ℕ). Tells a b l) report.1 told })
reported c a b (stop.Fault file f) s line made (inr report) untouched told = no_memory c a b s line report.0 report.1 untouched told
reported c a b stop.NoMemory s line made report untouched told = no_memory c a b s line report.0 report.1 untouched told

pub ends_delivered : (words : Option Asked) (c : Asked) (a b : World) (t : Texts) (s : Status) → Some c ≡ words → Comes a.files c (Gives t.files t.text) → Delivers t.files t.text a b s → EndsBy words a b s
ends_delivered words c a b t s e comes d = subst (λ (w : Option Asked). EndsBy w a b s) e (delivered c a b t s comes d)

pub ends_reported : (words : Option Asked) (c : Asked) (a b : World) (x : Stop) (s : Status) (line : List ℕ) → Some c ≡ words → Makes c a.files a.load_faults b.load_faults (Err x) → IsReport x s line
    → IsUntouched a b → Tells a b line → EndsBy words a b s
ends_reported words c a b x s line e made report untouched told = subst (λ (w : Option Asked). EndsBy w a b s) e (reported c a b x s line made report untouched told)

-- ---- a description's texts

pub gives_file : (name bytes : List ℕ) (t : Texts) → Describes bytes (Ok t) → Then name (Meaning bytes) Built (Gives t.files t.text)
gives_file name bytes t d = inr d

pub refuses_file : (name bytes : List ℕ) (f : Fault) → Meaning bytes (Err f) → Then name (Meaning bytes) Built (Refuses name f)
refuses_file name bytes f m = inl (f, m, refl)

pub not_read : (bytes : List ℕ) (r : Refusal) → Reads bytes (Err r) → Describes bytes (Err r)
not_read bytes (refusal.Fault f) h = h
not_read bytes refusal.NoMemory h = tt

-- what is made of its module
pub described : (bytes : List ℕ) (e : Description) (r : Result Texts Refusal) → IsModuleOf bytes e → Builds e r → Describes bytes r
described bytes e (Ok t) m b = (m.described, means bytes e m b.faultless, (t.files, (e, m.flat, (b.written, b.is, b.files)), ap (Gives t.files) (b.text ∙ ap summary_text (same_top m.described e m.flat))))
described bytes e (Err (refusal.Fault f)) m b = circuit_fault bytes e f m b
described bytes e (Err refusal.NoMemory) m b = tt

pub built_from : (e : Description) (w : List ℕ × List ℕ) (t : Texts) → Writes e (Ok w) → t.files ≡ module_files w.0 → t.text ≡ w.1 → Builds e (Ok t)
built_from e w t is same said = record { faultless = is.0; written = w.0; is = is.1; files = same; text = said ∙ is.2 }

pub not_written : (e : Description) (r : Refusal) → Writes e (Err r) → Builds e (Err r)
not_written e (refusal.Fault f) is = is
not_written e refusal.NoMemory is = tt

pub not_translated : (e : Description) (r : Refusal) → Translates e.design (Err r) → Writes e (Err r)
not_translated e (refusal.Fault f) is = is
not_translated e refusal.NoMemory is = tt

-- the files of a circuit without a bus
pub plain_files : (d : Design) (name : List ℕ) (s : System) (text : List ℕ) → IsPlain d name s → build_files text s.map s.placement s.constants ≡ module_files text
plain_files d name s text plain = rw (plain.map, plain.placement, plain.constants) refl

-- a command that isn't built
unbuilt : (told : Option (List Pair)) (c : Asked) (word : List ℕ) (before now : ℕ) (s : Stop) → Step c [] (Refuses word not_built) → IsNotBuilt word s → Makes c told before now (Err s)
unbuilt told c word before now (stop.Read _) step is = absurd is
unbuilt told c word before now (stop.Fault file f) step is =
    inl (record { had = []; reached = tt; step = subst (λ (w : List ℕ). Step c [] (Refuses w f)) (sym is.0) (subst (λ (g : Fault). Step c [] (Refuses word g)) (sym is.1) step) })
unbuilt told c word before now stop.NoMemory step is = absurd is

pub makes_poke : (told : Option (List Pair)) (source script : List ℕ) (before now : ℕ) (s : Stop) → IsNotBuilt (codes "poke") s → Makes (Poke source script) told before now (Err s)
makes_poke told source script before now s is = unbuilt told (Poke source script) (codes "poke") before now s refl is

pub makes_gen : (told : Option (List Pair)) (size before now : ℕ) (s : Stop) → IsNotBuilt (codes "gen") s → Makes (Gen size) told before now (Err s)
makes_gen told size before now s is = unbuilt told (Gen size) (codes "gen") before now s refl is
