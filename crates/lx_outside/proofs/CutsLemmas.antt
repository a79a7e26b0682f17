-- A pair that is laid behind the others leaves them where they are.
use Rattle.std.proofs.Common.{◌≡◌, ℕ, zero, suc, ◌+◌, ◌-◌, ◌≤◌, Bool, true, false, List, [], ◌∷◌, ◌++◌, map, length, take, drop, cond, refl, sym, ap, ◌∙◌, arith, append_assoc}
use Rattle.std.specs.List.{slice_range}
use Rattle.std.proofs.lemmas.List.{take-append-le, drop-append-le, length-drop, length-append, take_at, drop_at, take_all, map_push}
use Rattle.lx_outside.specs.declared.calls.Pair.{Pair}
use Rattle.lx_outside.specs.declared.sinks.Cut.{Cut}
use Rattle.lx_outside.specs.Calls.{pair}
use Rattle.lx_outside.specs.Cuts.{IsCut, AllCuts, pair_at, pairs_at}

range_kept : (text more : List ℕ) (a b : ℕ) → a ≤ b → b ≤ length text → slice_range (text ++ more) a b ≡ slice_range text a b
range_kept text more a b ab bt =
    let inside : a ≤ length text = omega arith in
    let short : b - a ≤ length (drop a text) = omega (arith, length-drop a text) in
    rw (drop-append-le a text more inside, take-append-le (b - a) (drop a text) more short) refl

pair_kept : (text more : List ℕ) (c : Cut) → IsCut (length text) c → pair_at (text ++ more) c ≡ pair_at text c
pair_kept text more c lies =
    let i = lies.inside in
    let b = lies.bytes in
    let middle : c.middle ≤ length text = omega arith in
    rw (range_kept text more c.start c.middle lies.name middle, range_kept text more c.middle c.end b i) refl

pub pairs_kept : (text more : List ℕ) (cuts : List Cut) → AllCuts (length text) cuts → pairs_at (text ++ more) cuts ≡ pairs_at text cuts
pairs_kept text more [] lie = refl
pairs_kept text more (c ∷ cs) lie =
    rw (pair_kept text more c (lie 0), pairs_kept text more cs (λ k. lie (suc k))) refl

-- the cut of a name and bytes behind a text
abbrev pub cut_behind : List ℕ → List ℕ → List ℕ → Cut
cut_behind text name bytes = record { start = length text; middle = length text + length name; end = length text + length name + length bytes }

pair_behind : (text name bytes : List ℕ) → pair_at ((text ++ name) ++ bytes) (cut_behind text name bytes) ≡ pair name bytes
pair_behind text name bytes =
    let len : length (text ++ name) ≡ length text + length name = length-append text name in
    let one : slice_range ((text ++ name) ++ bytes) (length text) (length text + length name) ≡ name
    = range_kept (text ++ name) bytes (length text) (length text + length name) (omega arith) (omega arith)
    ∙ rw (drop_at text name (length text) refl) (take_all _ name (omega arith)) in
    let two : slice_range ((text ++ name) ++ bytes) (length text + length name) (length text + length name + length bytes) ≡ bytes
    = rw (drop_at (text ++ name) bytes (length text + length name) len) (take_all _ bytes (omega arith)) in
    rw (one, two) refl

pub pairs_behind : (text name bytes : List ℕ) (cuts : List Cut) → AllCuts (length text) cuts
    → pairs_at ((text ++ name) ++ bytes) (cuts ++ cut_behind text name bytes ∷ []) ≡ pairs_at text cuts ++ pair name bytes ∷ []
pairs_behind text name bytes cuts lie =
    let whole = (text ++ name) ++ bytes in
    let kept : pairs_at whole cuts ≡ pairs_at text cuts = ap (λ (t : List ℕ). pairs_at t cuts) (append_assoc text name bytes) ∙ pairs_kept text (name ++ bytes) cuts lie in
    map_push (λ c. pair_at whole c) cuts (cut_behind text name bytes) ∙ rw (kept, pair_behind text name bytes) refl

pub cuts_behind : (n m : ℕ) (cuts : List Cut) (c : Cut) → n ≤ m → AllCuts n cuts → IsCut m c → AllCuts m (cuts ++ c ∷ [])
cuts_behind n m [] c le lie new zero = new
cuts_behind n m [] c le lie new (suc k) = tt
cuts_behind n m (x ∷ xs) c le lie new zero =
    let x_lies = lie 0 in
    record { name = x_lies.name; bytes = x_lies.bytes; inside = omega (arith, x_lies.inside) }
cuts_behind n m (x ∷ xs) c le lie new (suc k) = cuts_behind n m xs c le (λ j. lie (suc j)) new k
