-- What was fetched, stored and said, from what the parts did.
use Rattle.std.proofs.Common.{◌≡◌, ℕ, suc, ◌≤◌, ◌<◌, List, ◌∷◌, ◌++◌, Option, Some, None, Err, refl, sym, ap, ◌∙◌, subst, length, take, drop, get_or, codes, inl, inr, ◌⊎◌, arith, take-append-drop, drop-cons}
use Rattle.std.proofs.lemmas.List.{take_all}
use Rattle.lx_text.specs.Limits.{max_bytes}
use Rattle.lx_outside.specs.declared.calls.Pair.{Pair}
use Rattle.lx_outside.specs.Calls.{Loads, Rose, Gains, StoresPart}
use Rattle.lx_outside.specs.declared.calls.LoadFault.{LoadFault}
use Rattle.lx_outside.specs.declared.calls.LoadFault.TheVariants as faults
use Rattle.lx_command.specs.declared.status.Status.{Status}
use Rattle.lx_command.specs.declared.status.Status.TheVariants as status
use Rattle.lx_command.specs.Delivery.{Said, SaysText, StoreFailed, SayFailed, Delivers}
use Rattle.lx_command.specs.Lines.{cannot_write_line}
use Rattle.lx_command.specs.World.{world, SaysLine, IsLongFile}

-- the file that is too long
long_from : (told : Option (List Pair)) (name : List ℕ) (before now : ℕ) (front : List ℕ) → Loads told name max_bytes before now (Err (faults.TooLong front)) → IsLongFile told name max_bytes
long_from None name before now front l = record { bytes = front; loaded = tt; long = omega (arith, l.0) }
long_from (Some files) name before now front l = record { bytes = l.1.file; loaded = l.1.found; long = l.1.cut_off.longer }

pub long_by : (told : Option (List Pair)) (name : List ℕ) (before now : ℕ) (f : LoadFault) (front : List ℕ) → f ≡ faults.TooLong front → Loads told name max_bytes before now (Err f) → IsLongFile told name max_bytes
long_by told name before now f front e l =
    long_from told name before now front (subst (λ (x : LoadFault). Loads told name max_bytes before now (Err x)) e l)

says_from : (old other new : Option (List ℕ)) (f g now : ℕ) (line : List ℕ) → old ≡ other → f ≡ g → SaysLine old new f now line → SaysLine other new g now line
says_from old other new f g now line e h says =
    subst (λ (k : ℕ). SaysLine other new k now line) h (subst (λ (o : Option (List ℕ)). SaysLine o new f now line) e says)

-- all files were stored while err told nothing, and then the text was said, or in part
pub delivers_said : (files : List Pair) (text : List ℕ) (told later : Option (List Pair)) (before now : ℕ) (s0 s1 : Option (List Pair)) (f0 f1 : ℕ) (e0 : Option (List ℕ)) (t0 : ℕ) (a b : Said) (s : Status)
    → Gains s0 s1 files → a.errors ≡ e0 → a.error_faults ≡ t0 → SaysText text a b s
    → Delivers files text (world told before s0 f0 a.said a.say_faults e0 t0) (world later now s1 f1 b.said b.say_faults b.errors b.error_faults) s
delivers_said files text told later before now s0 s1 f0 f1 e0 t0 a b status.Done stored errors tells d =
    record { stored = stored; said = d.said; errors = d.errors ∙ errors; error_faults = d.error_faults ∙ tells }
delivers_said files text told later before now s0 s1 f0 f1 e0 t0 a b status.Refused stored errors tells d = absurd d
delivers_said files text told later before now s0 s1 f0 f1 e0 t0 a b status.Usage stored errors tells d = absurd d
delivers_said files text told later before now s0 s1 f0 f1 e0 t0 a b status.ReadFault stored errors tells d = absurd d
delivers_said files text told later before now s0 s1 f0 f1 e0 t0 a b status.WriteFault stored errors tells d = inr (record {
  stored = stored;
  some = d.some;
  said = d.said;
  rose = d.rose;
  line = says_from a.errors e0 b.errors a.error_faults t0 b.error_faults (cannot_write_line (codes "output")) errors tells d.line;
})
delivers_said files text told later before now s0 s1 f0 f1 e0 t0 a b status.NoMemory stored errors tells d = absurd d

rose_behind : (a b c : ℕ) → a ≤ b → Rose b c → Rose a c
rose_behind a b c le r = omega arith

-- the files before this one were stored while err told nothing, and storing this one failed
pub store_failed : (files : List Pair) (place : ℕ) (file : Pair) (text : List ℕ) (told later : Option (List Pair)) (before now : ℕ) (s0 s1 s2 : Option (List Pair)) (f0 f1 f2 : ℕ) (said : Option (List ℕ)) (says : ℕ)
    (e0 e1 e2 : Option (List ℕ)) (t0 t1 t2 : ℕ) → place < length files → file ≡ get_or files place file → Gains s0 s1 (take place files) → f0 ≤ f1 → e1 ≡ e0 → t1 ≡ t0 → Rose f1 f2 → StoresPart s1 s2 file.name file.bytes
    → SaysLine e1 e2 t1 t2 (cannot_write_line file.name) → Delivers files text (world told before s0 f0 said says e0 t0) (world later now s2 f2 said says e2 t2) status.WriteFault
store_failed files place file text told later before now s0 s1 s2 f0 f1 f2 said says e0 e1 e2 t0 t1 t2 inside is stored rising errors tells rose part line = inl (record {
  earlier = take place files;
  file = file;
  later = drop (suc place) files;
  order = sym (take-append-drop place files) ∙ ap (λ (l : List Pair). take place files ++ l) (drop-cons files place file inside ∙ ap (λ (x : Pair). x ∷ drop (suc place) files) (sym is));
  middle = s1;
  whole = stored;
  part = part;
  rose = rose_behind f0 f1 f2 rising rose;
  said = refl;
  say_faults = refl;
  line = says_from e1 e0 e2 t1 t0 t2 (cannot_write_line file.name) errors tells line;
})

-- what a loop over the files stored, once it went over all of them
pub gains_all : (files items : List Pair) (place : ℕ) (s0 s1 : Option (List Pair)) → items ≡ files → length items ≤ place → Gains s0 s1 (take place items) → Gains s0 s1 files
gains_all files items place s0 s1 same behind stored = subst (λ (l : List Pair). Gains s0 s1 l) (take_all place items behind ∙ same) stored

-- the loop stopped at a file that wasn't stored
pub store_failed_at : (files items : List Pair) (place : ℕ) (file : Pair) (name bytes shown : List ℕ) (text : List ℕ) (told later : Option (List Pair)) (before now : ℕ) (s0 s1 s2 : Option (List Pair)) (f0 f1 f2 : ℕ) (said : Option (List ℕ)) (says : ℕ)
    (e0 e1 e2 : Option (List ℕ)) (t0 t1 t2 : ℕ) → items ≡ files → place < length items → file ≡ get_or items place file → name ≡ file.name → bytes ≡ file.bytes → shown ≡ file.name
    → Gains s0 s1 (take place items) → f0 ≤ f1 → e1 ≡ e0 → t1 ≡ t0 → Rose f1 f2 → StoresPart s1 s2 name bytes → SaysLine e1 e2 t1 t2 (cannot_write_line shown)
    → StoreFailed files (world told before s0 f0 said says e0 t0) (world later now s2 f2 said says e2 t2) ⊎ SayFailed files text (world told before s0 f0 said says e0 t0) (world later now s2 f2 said says e2 t2)
store_failed_at files items place file name bytes shown text told later before now s0 s1 s2 f0 f1 f2 said says e0 e1 e2 t0 t1 t2 same inside is named held showed stored rising errors tells rose part line =
    store_failed files place file text told later before now s0 s1 s2 f0 f1 f2 said says e0 e1 e2 t0 t1 t2
    (subst (λ (l : List Pair). place < length l) same inside) (subst (λ (l : List Pair). file ≡ get_or l place file) same is) (subst (λ (l : List Pair). Gains s0 s1 (take place l)) same stored) rising errors tells rose
    (subst (λ (b : List ℕ). StoresPart s1 s2 file.name b) held (subst (λ (n : List ℕ). StoresPart s1 s2 n bytes) named part)) (subst (λ (n : List ℕ). SaysLine e1 e2 t1 t2 (cannot_write_line n)) showed line)
