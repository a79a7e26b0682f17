-- A map under keys that own bytes, seen as a table of names.
use Rattle.std.proofs.Common.{◌≡◌, ℕ, suc, ◌+◌, Bool, true, false, cond, not, List, [], ◌∷◌, length, map, position, nat_lt, Some, None, refl, ap, ◌∙◌}
use Rattle.std.specs.List.{AllByRecursion, IsDistinct, position_or_len}
use Rattle.std.specs.Map.{keys_of, lookup}
use Rattle.std.specs.Str.{bytes_eq}
use Rattle.indexmap.specs.IndexMap.{insert_entry, shift_remove_entry}
use Rattle.lx_names.specs.Tables.{Table, look_up, place_of, with_name, without, names, AreDistinct}

cond_of : {A B : Type 0} (f : A → B) (b : Bool) (x y : A) → f (cond b x y) ≡ cond b (f x) (f y)
cond_of f true x y = refl
cond_of f false x y = refl

abbrev seen : {K T : Type 0} → (K → List ℕ) → List (K × T) → Table T
seen bytes es = map (λ e. (bytes e.0, e.1)) es

-- two keys of the same bytes
abbrev same : {K : Type 0} → (K → List ℕ) → K → K → Bool
same bytes k j = bytes_eq (bytes k) (bytes j)

pub look_up_seen : {K T : Type 0} (es : List (K × T)) (bytes : K → List ℕ) (name : List ℕ) → lookup (λ k. bytes_eq name (bytes k)) es ≡ look_up (seen bytes es) name
look_up_seen [] bytes name = refl
look_up_seen (e ∷ es) bytes name = ap (cond (bytes_eq name (bytes e.0)) (Some e.1)) (look_up_seen es bytes name)

before_seen : {K T : Type 0} (es : List (K × T)) (bytes : K → List ℕ) (name : List ℕ) → position_or_len (λ k. bytes_eq name (bytes k)) (keys_of es) ≡ position_or_len (bytes_eq name) (names (seen bytes es))
before_seen [] bytes name = refl
before_seen (e ∷ es) bytes name = ap (λ (n : ℕ). cond (not (bytes_eq name (bytes e.0))) (1 + n) 0) (before_seen es bytes name)

long_seen : {K T : Type 0} (es : List (K × T)) (bytes : K → List ℕ) → length (keys_of es) ≡ length (names (seen bytes es))
long_seen [] bytes = refl
long_seen (e ∷ es) bytes = ap suc (long_seen es bytes)

pub place_seen : {K T : Type 0} (es : List (K × T)) (bytes : K → List ℕ) (name : List ℕ) → position (λ k. bytes_eq name (bytes k)) (keys_of es) ≡ place_of (seen bytes es) name
place_seen es bytes name =
    ap (λ (n : ℕ). cond (nat_lt n (length (keys_of es))) (Some n) None) (before_seen es bytes name)
    ∙ ap (λ (n : ℕ). cond (nat_lt (position_or_len (bytes_eq name) (names (seen bytes es))) n) (Some (position_or_len (bytes_eq name) (names (seen bytes es)))) None) (long_seen es bytes)

pub with_seen : {K T : Type 0} (es : List (K × T)) (bytes : K → List ℕ) (k : K) (v : T) → seen bytes (insert_entry (same bytes) es k v) ≡ with_name (seen bytes es) (bytes k) v
with_seen [] bytes k v = refl
with_seen {K} {T} (e ∷ es) bytes k v =
    cond_of (seen bytes) (same bytes k e.0) ((e.0, v) ∷ es) (e ∷ insert_entry (same bytes) es k v)
    ∙ ap (λ (r : Table T). cond (same bytes k e.0) ((bytes e.0, v) ∷ seen bytes es) ((bytes e.0, e.1) ∷ r)) (with_seen es bytes k v)

pub without_seen : {K T : Type 0} (es : List (K × T)) (bytes : K → List ℕ) (name : List ℕ) → seen bytes (shift_remove_entry (λ k. bytes_eq name (bytes k)) es) ≡ without (seen bytes es) name
without_seen [] bytes name = refl
without_seen {K} {T} (e ∷ es) bytes name =
    cond_of (seen bytes) (bytes_eq name (bytes e.0)) es (e ∷ shift_remove_entry (λ k. bytes_eq name (bytes k)) es)
    ∙ ap (λ (r : Table T). cond (bytes_eq name (bytes e.0)) (seen bytes es) ((bytes e.0, e.1) ∷ r)) (without_seen es bytes name)

apart_seen : {K T : Type 0} (es : List (K × T)) (bytes : K → List ℕ) (k : K) → AllByRecursion (λ j. same bytes k j ≡ false) (keys_of es) → AllByRecursion (λ n. bytes_eq (bytes k) n ≡ false) (names (seen bytes es))
apart_seen [] bytes k h = tt
apart_seen (e ∷ es) bytes k h = (h.0, apart_seen es bytes k h.1)

pub distinct_seen : {K T : Type 0} (es : List (K × T)) (bytes : K → List ℕ) → IsDistinct (same bytes) (keys_of es) → AreDistinct (seen bytes es)
unfolding IsDistinct
distinct_seen [] bytes h = tt
distinct_seen (e ∷ es) bytes h = (apart_seen es bytes e.0 h.0, distinct_seen es bytes h.1)
