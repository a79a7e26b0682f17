-- Names of parameters that come one after the other.
use Rattle.std.proofs.Common.{◌≡◌, ℕ, ◌<◌, ◌+◌, suc, Bool, true, false, cond, not, ◌||◌, ◌&&◌, List, [], ◌∷◌, ◌++◌, length, drop, get_or, drop-cons, add-one, map, codes, refl, sym, ap, ◌∙◌}
use Rattle.std.proofs.lemmas.List.Folds.{list_any-append}
use Rattle.std.specs.List.{list_all, list_any}
use Rattle.std.specs.Str.{bytes_eq}
use Rattle.lx_fhdl.specs.Keeping.{is_distinct}
use Rattle.lx_value.specs.Seen.{are_new}
use Rattle.lx_value.proofs.Repeats.{Names, among, turned}

abbrev pub apart : Names → List ℕ → Bool
apart seen n = not (among n seen)

-- names apart from those seen and from one more
apart_more : (seen : Names) (m : List ℕ) (ns : Names) → list_all (apart (seen ++ m ∷ [])) ns ≡ (list_all (apart seen) ns && not (among m ns))
apart_more seen m [] = refl
apart_more seen m (n ∷ ns) =
    ap (λ (b : Bool). not b && list_all (apart (seen ++ m ∷ [])) ns) (list_any-append (bytes_eq n) seen (m ∷ []) ∙ ap (λ (b : Bool). among n seen || (b || false)) (turned n m))
    ∙ ap (λ (b : Bool). not (among n seen || (bytes_eq m n || false)) && b) (apart_more seen m ns)
    ∙ by (among n seen) (bytes_eq m n) (list_all (apart seen) ns) (among m ns)
  where
    by : (a b c d : Bool) → (not (a || (b || false)) && (c && not d)) ≡ ((not a && c) && not (b || d))
    by true b c d = refl
    by false true true d = refl
    by false true false d = refl
    by false false c d = refl

new_is : (seen ns : Names) → are_new seen ns ≡ (list_all (apart seen) ns && is_distinct ns)
new_is seen [] = refl
new_is seen (m ∷ ms) =
    ap (λ (b : Bool). not (among m seen) && b) (new_is (seen ++ m ∷ []) ms ∙ ap (λ (b : Bool). b && is_distinct ms) (apart_more seen m ms))
    ∙ by (not (among m seen)) (list_all (apart seen) ms) (not (among m ms)) (is_distinct ms)
  where
    by : (a b c d : Bool) → (a && ((b && c) && d)) ≡ ((a && b) && (c && d))
    by true true c d = refl
    by true false c d = refl
    by false b c d = refl

all_apart : (ns : Names) → list_all (apart []) ns ≡ true
all_apart [] = refl
all_apart (n ∷ ns) = all_apart ns

pub distinct_new : (ns : Names) → is_distinct ns ≡ are_new [] ns
distinct_new ns = sym (new_is [] ns ∙ ap (λ (b : Bool). b && is_distinct ns) (all_apart ns))
