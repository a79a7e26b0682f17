-- A search by halves in a table of words that ascend.
use Rattle.std.proofs.Common.{◌≡◌, ℕ, ◌<◌, ◌≤◌, true, false, List, [], ◌∷◌, ◌||◌, length, get_or, map, zero, suc, refl, sym, ap, ◌∙◌, Result, Ok, Err, Ordering, is_ok, ◌⊎◌, inl, inr, IsTrue, arith, bytes_eq}
use Rattle.std.specs.declared.cmp.Ordering.TheVariants.{Less, Equal, Greater}
use Rattle.std.specs.Ordering.{ordering_reverse, ordering_index, nat_cmp, is_lt, is_eq}
use Rattle.std.specs.Cmp.Lexicographic.{slice_cmp}
use Rattle.std.specs.Cmp.{first_so, second_so}
use Rattle.std.specs.List.{list_any}
use Rattle.std.specs.List.Sorted.{IsBinarySearchResult, IsNonDecreasingBy, IsSearchInRange}
use Rattle.std.proofs.lemmas.Cmp.{nat_list_cmp_total, alike_right}
use Rattle.std.proofs.lemmas.Bool.{false≢true, cases_lt}
use Rattle.std.proofs.lemmas.List.Folds.{list_any_at, list_any_none}
use Rattle.std.proofs.lemmas.Map.Text.{is_eq-slice_cmp}
use Rattle.lx_tables.specs.WordTables.{word_of, precedes, ascends}

abbrev pub order : List ℕ → List ℕ → Ordering
order = slice_cmp nat_cmp

less : (r : Ordering) → is_lt r ≡ true → r ≡ Less
less Less e = refl
less Equal e = absurd (false≢true e)
less Greater e = absurd (false≢true e)

-- the word comes before each of the others
abbrev Above : List ℕ → List (List ℕ) → Type 0
Above word [] = Unit {0}
Above word (w ∷ ws) = (order word w ≡ Less) × Above word ws

above_all : (u v : List ℕ) (ws : List (List ℕ)) → order u v ≡ Less → Above v ws → Above u ws
above_all u v [] e a = tt
above_all u v (w ∷ ws) e a = (nat_list_cmp_total.trans u v w e a.0, above_all u v ws e a.1)

ascends-above : (u : List ℕ) (ws : List (List ℕ)) → ascends (u ∷ ws) ≡ true → Above u ws
ascends-above u [] h = tt
ascends-above u (w ∷ ws) h =
    let e : order u w ≡ Less = less (order u w) (first_so (is_lt (order u w)) (ascends (w ∷ ws)) h) in
    (e, above_all u w ws e (ascends-above w ws (second_so (is_lt (order u w)) (ascends (w ∷ ws)) h)))

index-top : (r : Ordering) → ordering_index r ≤ 2
index-top Less = omega arith
index-top Equal = omega arith
index-top Greater = omega arith

-- a later word is no lower against any word
index-rises : (u v w : List ℕ) → order u v ≡ Less → (r : Ordering) → order v w ≡ r → ordering_index (order u w) ≤ ordering_index r
index-rises u v w e Less h = rw (nat_list_cmp_total.trans u v w e h) (omega arith)
index-rises u v w e Equal h = rw (sym (alike_right nat_list_cmp_total v w u h) ∙ e) (omega arith)
index-rises u v w e Greater h = index-top (order u w)

above_at : (u : List ℕ) (entries : List (List ℕ)) (j : ℕ) (d : List ℕ) → Above u (map word_of entries) → j < length entries → order u (word_of (get_or entries j d)) ≡ Less
above_at u [] j d a lt = absurd (omega arith)
above_at u (t ∷ ts) zero d a lt = a.0
above_at u (t ∷ ts) (suc j) d a lt = above_at u ts j d a.1 (omega arith)

rises : (w : List ℕ) (entries : List (List ℕ)) → ascends (map word_of entries) ≡ true → IsNonDecreasingBy (λ t. ordering_index (order (word_of t) w)) entries
rises w [] h i j d le lt = absurd (omega arith)
rises w (t ∷ ts) h zero zero d le lt = omega arith
rises w (t ∷ ts) h zero (suc j) d le lt =
    index-rises (word_of t) (word_of (get_or ts j d)) w (above_at (word_of t) ts j d (ascends-above (word_of t) (map word_of ts) h) (omega arith)) (order (word_of (get_or ts j d)) w) refl
rises w (t ∷ ts) h (suc i) zero d le lt = absurd (omega arith)
rises w (t ∷ ts) h (suc i) (suc j) d le lt =
    rises w ts (second_so (precedes (word_of t) (map word_of ts)) (ascends (map word_of ts)) h) i j d (omega arith) (omega arith)

any-map : (w : List ℕ) (entries : List (List ℕ)) → list_any (bytes_eq w) (map word_of entries) ≡ list_any (λ t. bytes_eq w (word_of t)) entries
any-map w [] = refl
any-map w (t ∷ ts) = ap (λ b. bytes_eq w (word_of t) || b) (any-map w ts)

equal-eq : (u w : List ℕ) → order u w ≡ Equal → bytes_eq w u ≡ true
equal-eq u w e = sym (is_eq-slice_cmp w u) ∙ ap is_eq (nat_list_cmp_total.antisymm w u ∙ ap ordering_reverse e)

apart : (u w : List ℕ) (r : Ordering) → order u w ≡ r → is_eq r ≡ false → bytes_eq w u ≡ false
apart u w r e n = sym (is_eq-slice_cmp w u) ∙ ap is_eq (nat_list_cmp_total.antisymm w u ∙ ap ordering_reverse e) ∙ not_eq r n
  where
    not_eq : (r : Ordering) → is_eq r ≡ false → is_eq (ordering_reverse r) ≡ false
    not_eq Less n = refl
    not_eq Equal n = n
    not_eq Greater n = refl

-- what the search answers is membership
pub found : (w : List ℕ) (entries : List (List ℕ)) (r : Result ℕ ℕ) → IsTrue (ascends (map word_of entries)) → IsSearchInRange r (length entries) → IsBinarySearchResult (λ t. order (word_of t) w) entries r → is_ok r ≡ list_any (bytes_eq w) (map word_of entries)
found w entries (Ok i) h lt s =
    sym (any-map w entries ∙ list_any_at (λ t. bytes_eq w (word_of t)) entries i [] lt (equal-eq (word_of (get_or entries i [])) w (s [])))
found w entries (Err i) h lt s =
    let p = s (rises w entries h) in
    sym (any-map w entries ∙ list_any_none (λ t. bytes_eq w (word_of t)) entries (λ k d in_range. by_place k d in_range (cases_lt k i)))
  where
    by_place : (k : ℕ) (d : List ℕ) → k < length entries → (k < i) ⊎ (i ≤ k) → bytes_eq w (word_of (get_or entries k d)) ≡ false
    by_place k d in_range (inl below) = apart (word_of (get_or entries k d)) w Less ((s (rises w entries h)).0 k d (omega arith) below) refl
    by_place k d in_range (inr above) = apart (word_of (get_or entries k d)) w Greater ((s (rises w entries h)).1 k d above in_range) refl
