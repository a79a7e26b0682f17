-- What making the answers of a trace does, part by part.
use Rattle.std.proofs.Common.{◌≡◌, ℕ, ◌≤◌, List, [], ◌∷◌, Option, Result, Ok, Err, length, refl, sym, subst, inl, inr, ◌⊎◌}
use Rattle.lx_text.specs.Limits.{max_bytes}
use Rattle.lx_text.specs.declared.faults.Fault.{Fault}
use Rattle.lx_outside.specs.declared.calls.Pair.{Pair}
use Rattle.lx_outside.specs.Calls.{Rose}
use Rattle.lx_fhdl.specs.declared.design.Design.{Design}
use Rattle.lx_description.specs.declared.description.Description.{Description}
use Rattle.lx_translate.specs.Translation.{HasFault, IsFaultless}
use Rattle.lx_running.specs.Traced.{Traced}
use Rattle.lx_command.specs.declared.fetching.Stop.{Stop}
use Rattle.lx_command.specs.declared.fetching.Stop.TheVariants as stop
use Rattle.lx_command.specs.declared.texts.Texts.{Texts}
use Rattle.lx_command.specs.Commands.{Sim}
use Rattle.lx_command.specs.Fetching.{Fetched}
use Rattle.lx_command.specs.Lines.{too_long}
use Rattle.lx_command.specs.Next.{Next, Wants, Refuses, Gives}
use Rattle.lx_command.specs.World.{Has, LacksFile, IsLongFile}
use Rattle.lx_command.proofs.LineLemmas.{rose_later}
use Rattle.lx_top.specs.Meaning.{Meaning}
use Rattle.lx_top.specs.Making.{Ends, EndsLater, IsModuleOf, Loading, Makes, Runs, RunsBytes, RunsCircuit, RunsFile, RunsTrace}
use Rattle.lx_top.specs.Outcome.{Comes}
use Rattle.lx_top.proofs.Reading.{circuit_fault, means}

-- a file is refused, or it is too long
abbrev pub RefusesOrLong : (Next → Type 0) → Option (List Pair) → List ℕ → Fault → Type 0
RefusesOrLong next told file f = next (Refuses file f) ⊎ ((limit : ℕ) × next (Wants file limit) × IsLongFile told file limit × (f ≡ too_long))

-- ---- what comes next, from another saying of it

ends_as : (p q : Next → Type 0) (told : Option (List Pair)) (before now : ℕ) (r : Result Texts Stop) → ((n : Next) → p n → q n) → EndsLater p told before now r → EndsLater q told before now r
ends_as p q told before now (Ok t) f h = f (Gives t.files t.text) h
ends_as p q told before now (Err (stop.Read name)) f h = (h.0, f (Wants name.now h.0) h.1, h.2)
ends_as p q told before now (Err (stop.Fault file x)) f (inl h) = inl (f (Refuses file.now x) h)
ends_as p q told before now (Err (stop.Fault file x)) f (inr h) = inr (h.0, f (Wants file.now h.0) h.1, h.2, h.3)
ends_as p q told before now (Err stop.NoMemory) f h = tt

ends_from : (p : Next → Type 0) (told : Option (List Pair)) (before mid now : ℕ) (r : Result Texts Stop) → before ≤ mid → EndsLater p told mid now r → EndsLater p told before now r
ends_from p told before mid now (Ok t) l h = h
ends_from p told before mid now (Err (stop.Read name)) l h = (h.0, h.1, elim h.2 [ inl rose ↦ inl (rose_later before mid now l rose) | inr lacks ↦ inr lacks ])
ends_from p told before mid now (Err (stop.Fault file x)) l h = h
ends_from p told before mid now (Err stop.NoMemory) l h = tt

-- ---- files that are loaded

-- why nothing was loaded
pub not_loaded : (told : Option (List Pair)) (name : List ℕ) (on : List ℕ → Next → Type 0) (before now : ℕ) (s : Stop) → Fetched name told before now (Err s) → EndsLater (Loading told name on) told before now (Err s)
not_loaded told name on before now (stop.Read file) h =
    subst (λ (x : List ℕ). (limit : ℕ) × Loading told name on (Wants x limit) × (Rose before now ⊎ LacksFile told x)) (sym h.0) (max_bytes, inl refl, h.1)
not_loaded told name on before now (stop.Fault file f) h =
    inr (max_bytes, subst (λ (x : List ℕ). Loading told name on (Wants x max_bytes)) (sym h.0) (inl refl), subst (λ (x : List ℕ). IsLongFile told x max_bytes) (sym h.0) h.1, h.2)
not_loaded told name on before now stop.NoMemory h = tt

-- what comes behind what was loaded
behind : (told : Option (List Pair)) (name bytes : List ℕ) (on : List ℕ → Next → Type 0) (n : Next) → Has told name bytes → length bytes ≤ max_bytes → on bytes n → Loading told name on n
behind told name bytes on n has short h = inr (bytes, has, short, h)

-- ---- the lines of a trace

pub lines_run : (d : Design) (trace lines text : List ℕ) (t : Texts) → Traced d lines (Ok text) → t.files ≡ [] → t.text ≡ text → Ends (Runs d trace lines) (Ok t)
lines_run d trace lines text t traced none is = inr (text, traced, rw (none, is) refl)

pub lines_refused : (d : Design) (trace lines : List ℕ) (f : Fault) → Traced d lines (Err f) → Runs d trace lines (Refuses trace f)
lines_refused d trace lines f traced = inl (f, traced, refl)

ends_loaded : (told : Option (List Pair)) (d : Design) (trace lines : List ℕ) (before now : ℕ) (r : Result Texts Stop) → Has told trace lines → length lines ≤ max_bytes → Ends (Runs d trace lines) r
    → EndsLater (RunsFile told d trace) told before now r
ends_loaded told d trace lines before now (Ok t) has short h = behind told trace lines (Runs d trace) (Gives t.files t.text) has short h
ends_loaded told d trace lines before now (Err (stop.Read name)) has short h = absurd h
ends_loaded told d trace lines before now (Err (stop.Fault file f)) has short h = inl (behind told trace lines (Runs d trace) (Refuses file.now f) has short h)
ends_loaded told d trace lines before now (Err stop.NoMemory) has short h = tt

pub loaded : (told : Option (List Pair)) (d : Design) (trace lines given : List ℕ) (before now : ℕ) (r : Result Texts Stop) → Has told trace lines → length lines ≤ max_bytes → given ≡ lines → Ends (Runs d trace given) r
    → EndsLater (RunsFile told d trace) told before now r
loaded told d trace lines given before now r has short same h = ends_loaded told d trace lines before now r has short (subst (λ (l : List ℕ). Ends (Runs d trace l) r) same h)

-- ---- a circuit

pub circuit_run : (told : Option (List Pair)) (source trace : List ℕ) (d : Design) (before now : ℕ) (r : Result Texts Stop) → IsFaultless d → EndsLater (RunsFile told d trace) told before now r
    → EndsLater (RunsCircuit told source trace d) told before now r
circuit_run told source trace d before now r none h = ends_as (RunsFile told d trace) (RunsCircuit told source trace d) told before now r (λ n x. inr (none, x)) h

pub circuit_refused : (told : Option (List Pair)) (source trace : List ℕ) (d : Design) (f : Fault) → HasFault d f → RefusesOrLong (RunsCircuit told source trace d) told source f
circuit_refused told source trace d f h = inl (inl (f, h, refl))

-- ---- a description's bytes

-- what its circuit says of a trace, the description does
trace_of_module : (told : Option (List Pair)) (trace bytes : List ℕ) (e : Description) (n : Next) → (m : IsModuleOf bytes e) → RunsFile told e.design trace n → RunsTrace told trace m.described n
trace_of_module told trace bytes e n m (inl wants) = inl wants
trace_of_module told trace bytes e n m (inr (lines, has, short, inl refused)) = inr (lines, has, short, inl (refused.0, (e, m.flat, refused.1), refused.2))
trace_of_module told trace bytes e n m (inr (lines, has, short, inr told_text)) = inr (lines, has, short, inr (told_text.0, (e, m.flat, told_text.1), told_text.2))

bytes_of_module : (told : Option (List Pair)) (source trace bytes : List ℕ) (e : Description) (n : Next) → IsModuleOf bytes e → RunsCircuit told source trace e.design n → RunsBytes told source trace bytes n
bytes_of_module told source trace bytes e n m (inl h) = inl (h.0, circuit_fault bytes e h.0 m h.1, h.2)
bytes_of_module told source trace bytes e n m (inr h) = inr (m.described, means bytes e m h.0, trace_of_module told trace bytes e n m h.1)

pub bytes_run : (told : Option (List Pair)) (source trace bytes : List ℕ) (e : Description) (before now : ℕ) (r : Result Texts Stop) → IsModuleOf bytes e → EndsLater (RunsCircuit told source trace e.design) told before now r
    → EndsLater (RunsBytes told source trace bytes) told before now r
bytes_run told source trace bytes e before now r m h =
    ends_as (RunsCircuit told source trace e.design) (RunsBytes told source trace bytes) told before now r (λ n x. bytes_of_module told source trace bytes e n m x) h

pub bytes_refused : (told : Option (List Pair)) (source trace bytes : List ℕ) (f : Fault) → Meaning bytes (Err f) → RefusesOrLong (RunsBytes told source trace bytes) told source f
bytes_refused told source trace bytes f h = inl (inl (f, h, refl))

-- ---- the command

-- what comes behind its description
comes_behind : (told : Option (List Pair)) (source trace bytes : List ℕ) (n : Next) → Has told source bytes → length bytes ≤ max_bytes → RunsBytes told source trace bytes n → Comes told (Sim source trace) n
comes_behind told source trace bytes n has short (inl h) =
    record { had = bytes ∷ []; reached = (tt, record { name = source; limit = max_bytes; wanted = refl; loaded = has; short = short }); step = inl h }
comes_behind told source trace bytes n has short (inr (d, means, inl wants)) =
    record { had = bytes ∷ []; reached = (tt, record { name = source; limit = max_bytes; wanted = refl; loaded = has; short = short }); step = inr (d, means, wants) }
comes_behind told source trace bytes n has short (inr (d, means, inr (lines, there, few, h))) = record {
  had = lines ∷ bytes ∷ [];
  reached = (
    (tt, record { name = source; limit = max_bytes; wanted = refl; loaded = has; short = short }),
    record { name = trace; limit = max_bytes; wanted = inr (d, means, refl); loaded = there; short = few },
  );
  step = (d, means, h);
}

comes_loading : (told : Option (List Pair)) (source trace : List ℕ) (n : Next) → Loading told source (RunsBytes told source trace) n → Comes told (Sim source trace) n
comes_loading told source trace n (inl wants) = record { had = []; reached = tt; step = wants }
comes_loading told source trace n (inr (bytes, has, short, h)) = comes_behind told source trace bytes n has short h

pub sim_from : (told later : Option (List Pair)) (source trace bytes given : List ℕ) (before mid now : ℕ) (r : Result Texts Stop) → Has told source bytes → length bytes ≤ max_bytes → later ≡ told → before ≤ mid → given ≡ bytes
    → EndsLater (RunsBytes later source trace given) later mid now r → Makes (Sim source trace) told before now r
sim_from told later source trace bytes given before mid now r has short same l is h =
    let own : EndsLater (RunsBytes told source trace given) told mid now r = subst (λ (o : Option (List Pair)). EndsLater (RunsBytes o source trace given) o mid now r) same h in
    let read : EndsLater (RunsBytes told source trace bytes) told mid now r = subst (λ (b : List ℕ). EndsLater (RunsBytes told source trace b) told mid now r) is own in
    ends_from (Comes told (Sim source trace)) told before mid now r l
    (ends_as (RunsBytes told source trace bytes) (Comes told (Sim source trace)) told mid now r (λ n x. comes_behind told source trace bytes n has short x) read)

pub sim_none : (told : Option (List Pair)) (source trace : List ℕ) (before now : ℕ) (s : Stop) → Fetched source told before now (Err s) → Makes (Sim source trace) told before now (Err s)
sim_none told source trace before now s h =
    ends_as (Loading told source (RunsBytes told source trace)) (Comes told (Sim source trace)) told before now (Err s) (comes_loading told source trace) (not_loaded told source (RunsBytes told source trace) before now s h)
