-- Names that are all different are each new.
use Rattle.std.proofs.Common.{◌≡◌, Bool, true, false, not, ◌&&◌, ◌||◌, List, [], ◌∷◌, refl, sym}
use Rattle.std.specs.List.{list_all, list_any}
use Rattle.std.specs.Str.{bytes_eq}
use Rattle.std.proofs.lemmas.Bool.{and_from, and_parts, or_parts, false_from_ne_true, not-true}
use Rattle.std.proofs.lemmas.Slice.Eq.{bytes_eq-Decides}
use Rattle.lx_vtext.specs.Tree.{Name}
use Rattle.lx_vmeaning.specs.Naming.{are_new}

abbrev pub is_among : Name → List Name → Bool
is_among n ns = list_any (λ k. bytes_eq k n) ns

-- each name is none of those behind it
abbrev pub are_distinct : List Name → Bool
are_distinct [] = true
are_distinct (n ∷ ns) = not (is_among n ns) && are_distinct ns

-- none of the names is among those before
abbrev are_outside : List Name → List Name → Bool
are_outside before ns = list_all (λ n. not (is_among n before)) ns

same_turned : (n k : Name) → bytes_eq k n ≡ false → bytes_eq n k ≡ false
same_turned n k e = false_from_ne_true (bytes_eq n k) (λ t. let same : bytes_eq k n ≡ true = (bytes_eq-Decides k n).1 (sym ((bytes_eq-Decides n k).0 t)) in cc)

outside_more : (n : Name) (before ns : List Name) → is_among n ns ≡ false → are_outside before ns ≡ true → are_outside (n ∷ before) ns ≡ true
outside_more n before [] e h = refl
outside_more n before (k ∷ ks) e h =
    let p = or_parts (bytes_eq k n) (is_among n ks) e in
    let q = and_parts (not (is_among k before)) (are_outside before ks) h in
    and_from (not (bytes_eq n k || is_among k before)) (are_outside (n ∷ before) ks)
    (rw (same_turned n k p.0) q.0) (outside_more n before ks p.1 q.1)

new_from : (before ns : List Name) → are_distinct ns ≡ true → are_outside before ns ≡ true → are_new before ns ≡ true
new_from before [] h o = refl
new_from before (n ∷ ns) h o =
    let p = and_parts (not (is_among n ns)) (are_distinct ns) h in
    let q = and_parts (not (is_among n before)) (are_outside before ns) o in
    and_from (not (is_among n before)) (are_new (n ∷ before) ns) q.0 (new_from (n ∷ before) ns p.1 (outside_more n before ns (not-true (is_among n ns) p.0) q.1))

all_outside : (ns : List Name) → are_outside [] ns ≡ true
all_outside [] = refl
all_outside (n ∷ ns) = all_outside ns

pub new_from_distinct : (ns : List Name) → are_distinct ns ≡ true → are_new [] ns ≡ true
new_from_distinct ns h = new_from [] ns h (all_outside ns)
