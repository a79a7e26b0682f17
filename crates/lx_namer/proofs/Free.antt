-- The first name that is free.
use Rattle.std.proofs.Common.{◌≡◌, ℕ, zero, suc, ◌+◌, ◌-◌, ◌<◌, ◌≤◌, Bool, true, false, cond, ◌||◌, List, [], ◌∷◌, ◌++◌, length, codes, refl, sym, ap, ◌∙◌, arith, inl, inr, nat_eq, eqb-true, length-append, true≢false}
use Rattle.std.proofs.lemmas.Bool.{cases_eq, cases_lt}
use Rattle.std.proofs.Math.Bool.{or-false}
use Rattle.std.proofs.lemmas.List.{append_cancel_left, length-map}
use Rattle.std.proofs.lemmas.List.Folds.{list_any-append}
use Rattle.std.specs.Str.{bytes_eq}
use Rattle.std.proofs.lemmas.Slice.Eq.{bytes_eq-Decides}
use Rattle.lx_names.specs.Tables as table
use Rattle.lx_names.specs.Tables.{Table}
use Rattle.lx_vtext.specs.Tree.{Name}
use Rattle.lx_vtext.specs.Printed.{number_text}
use Rattle.lx_vtext.specs.Reading.{number_value}
use Rattle.lx_vtext.proofs.Pieces.{number_back}
use Rattle.lx_emission.specs.Naming.{is_among}
use Rattle.lx_emission.proofs.Lists.{name_other}
use Rattle.lx_namer.specs.Taken.{numbered, first_free, free_name, AreTakenBelow, IsFirstFree, HaveTheSame, IsTakenToo}

-- ---- numbers behind a base

pub number_once : (j k : ℕ) → number_text j ≡ number_text k → j ≡ k
number_once j k e = sym (number_back j).0 ∙ ap number_value e ∙ (number_back k).0

longer : (base text : Name) → base ≡ (base ++ codes "_") ++ text → ⊥
longer base text e = omega (arith, ap length e, length-append (base ++ codes "_") text, length-append base (codes "_"))

numbered_once : (base : Name) (j k : ℕ) → numbered base j ≡ numbered base k → j ≡ k
unfolding numbered
numbered_once base j k e = by (nat_eq j 1) refl (nat_eq k 1) refl e
  where
    by : (s : Bool) → nat_eq j 1 ≡ s → (t : Bool) → nat_eq k 1 ≡ t → cond s base ((base ++ codes "_") ++ number_text j) ≡ cond t base ((base ++ codes "_") ++ number_text k) → j ≡ k
    by true p true q f = eqb-true j 1 p ∙ sym (eqb-true k 1 q)
    by true p false q f = absurd (longer base (number_text k) f)
    by false p true q f = absurd (longer base (number_text j) (sym f))
    by false p false q f = number_once j k (append_cancel_left (base ++ codes "_") (number_text j) (number_text k) f)

-- ---- so many names need so long a list

-- the list without the first of this name
abbrev less : Name → List Name → List Name
less n [] = []
less n (x ∷ xs) = cond (bytes_eq n x) xs (x ∷ less n xs)

less_long : (n : Name) (ns : List Name) → is_among n ns ≡ true → length ns ≡ suc (length (less n ns))
less_long n [] h = absurd cc
less_long n (x ∷ xs) h = by (bytes_eq n x) h (less_long n xs)
  where
    by : (b : Bool) → (b || is_among n xs) ≡ true → (is_among n xs ≡ true → length xs ≡ suc (length (less n xs))) → suc (length xs) ≡ suc (length (cond b xs (x ∷ less n xs)))
    by true h ih = refl
    by false h ih = ap suc (ih h)

less_among : (n m : Name) (ns : List Name) → bytes_eq m n ≡ false → is_among m ns ≡ true → is_among m (less n ns) ≡ true
less_among n m [] ne h = absurd cc
less_among n m (x ∷ xs) ne h = by (bytes_eq n x) refl (bytes_eq m x) refl h (less_among n m xs ne)
  where
    by : (b : Bool) → bytes_eq n x ≡ b → (c : Bool) → bytes_eq m x ≡ c → (c || is_among m xs) ≡ true → (is_among m xs ≡ true → is_among m (less n xs) ≡ true) → is_among m (cond b xs (x ∷ less n xs)) ≡ true
    by true e true f h ih =
        let same : m ≡ n = (bytes_eq-Decides m x).0 f ∙ sym ((bytes_eq-Decides n x).0 e) in
        absurd (true≢false (sym ((bytes_eq-Decides m n).1 same) ∙ ne))
    by true e false f h ih = h
    by false e true f h ih = ap (λ t. t || is_among m (less n xs)) f
    by false e false f h ih = ap (λ t. t || is_among m (less n xs)) f ∙ ih h

fits : (m : ℕ) (f : ℕ → Name) (ns : List Name) → ((j k : ℕ) → f j ≡ f k → j ≡ k) → ((j : ℕ) → j < m → is_among (f j) ns ≡ true) → m ≤ length ns
fits zero f ns one all = omega arith
fits (suc m) f ns one all =
    let short = less_long (f m) ns (all m (omega arith)) in
    let rest = fits m f (less (f m) ns) one (λ j p. less_among (f m) (f j) ns (name_other (f j) (f m) (λ e. omega (arith, one j m e, p))) (all j (omega arith))) in
    omega (arith, short, rest)

-- so the numbers that are taken are few
pub few_below : (taken : List Name) (base : Name) (n : ℕ) → AreTakenBelow taken base n → n ≤ length taken + 1
few_below taken base n h =
    let rest = fits (n - 1) (λ j. numbered base (j + 1)) taken (λ j k e. omega (arith, numbered_once base (j + 1) (k + 1) e)) (λ j p. h.each (j + 1) (omega arith) (omega arith)) in
    omega (arith, rest, h.some)

-- ---- the first that is free

pub none_below : (taken : List Name) (base : Name) → AreTakenBelow taken base 1
none_below taken base = record { some = omega arith; each = λ k p q. absurd (omega arith) }

pub below_next : (taken : List Name) (base : Name) (n : ℕ) → AreTakenBelow taken base n → is_among (numbered base n) taken ≡ true → AreTakenBelow taken base (n + 1)
below_next taken base n h e = record {
  some = omega arith;
  each = λ k p q. elim (cases_lt k n) [
    | inl less ↦ h.each k p less
    | inr more ↦ let same : n ≡ k = omega arith in ap (λ i. is_among (numbered base i) taken) (sym same) ∙ e
  ];
}

first_is : (fuel k : ℕ) (taken : List Name) (base name : Name) (n : ℕ) → IsFirstFree taken base name n → 1 ≤ k → k ≤ n → n ≤ k + fuel → first_free fuel taken base k ≡ numbered base n
unfolding first_free
first_is zero k taken base name n h some low high = let same : k ≡ n = omega arith in ap (numbered base) same
first_is (suc fuel) k taken base name n h some low high = by (first_is fuel (k + 1) taken base name n h) (is_among (numbered base k) taken) refl
  where
    by : (1 ≤ k + 1 → k + 1 ≤ n → n ≤ (k + 1) + fuel → first_free fuel taken base (k + 1) ≡ numbered base n) → (b : Bool) → is_among (numbered base k) taken ≡ b → cond b (first_free fuel taken base (k + 1)) (numbered base k) ≡ numbered base n
    by next true e = elim (cases_eq k n) [
      | inl same ↦
          let free : is_among (numbered base k) taken ≡ false = ap (λ m. is_among m taken) (ap (numbered base) same ∙ sym h.is) ∙ h.free in
          absurd (true≢false (sym e ∙ free))
      | inr other ↦ next (omega arith) (omega (arith, other)) (omega arith)
    ]
    by next false e = elim (cases_eq k n) [
      | inl same ↦ ap (numbered base) same
      | inr other ↦ absurd (true≢false (sym (h.below.each k some (omega (arith, other))) ∙ e))
    ]

-- the name that was found is the first that is free
pub free_is : (taken : List Name) (base name : Name) (n : ℕ) → IsFirstFree taken base name n → name ≡ free_name taken base
unfolding free_name
free_is taken base name n h =
    let most = few_below taken base n h.below in
    h.is ∙ sym (first_is (length taken) 1 taken base name n h (omega arith) (omega (arith, h.below.some)) (omega (arith, most)))

search_free : (fuel k : ℕ) (taken : List Name) (base : Name) → AreTakenBelow taken base k → length taken + 1 ≤ k + fuel → (n : ℕ) × IsFirstFree taken base (first_free fuel taken base k) n
unfolding first_free
search_free zero k taken base h long = by (is_among (numbered base k) taken) refl
  where
    by : (b : Bool) → is_among (numbered base k) taken ≡ b → (n : ℕ) × IsFirstFree taken base (numbered base k) n
    by true e = let most = few_below taken base (k + 1) (below_next taken base k h e) in absurd (omega (arith, most, long))
    by false e = (k, record { is = refl; below = h; free = e })
search_free (suc fuel) k taken base h long = by (search_free fuel (k + 1) taken base) (is_among (numbered base k) taken) refl
  where
    by : (AreTakenBelow taken base (k + 1) → length taken + 1 ≤ (k + 1) + fuel → (n : ℕ) × IsFirstFree taken base (first_free fuel taken base (k + 1)) n) → (b : Bool) → is_among (numbered base k) taken ≡ b → (n : ℕ) × IsFirstFree taken base (cond b (first_free fuel taken base (k + 1)) (numbered base k)) n
    by next true e = next (below_next taken base k h e) (omega arith)
    by next false e = (k, record { is = refl; below = h; free = e })

-- there is one
pub found_free : (taken : List Name) (base : Name) → (n : ℕ) × IsFirstFree taken base (free_name taken base) n
unfolding free_name
found_free taken base = search_free (length taken) 1 taken base (none_below taken base) (omega arith)

-- ---- lists of the same names

pub same_of : (names others : List Name) → names ≡ others → HaveTheSame names others
same_of names others e = record { each = λ n. ap (is_among n) e }

pub same_after : (a b c : List Name) → HaveTheSame a b → HaveTheSame b c → HaveTheSame a c
same_after a b c h g = record { each = λ n. h.each n ∙ g.each n }

pub same_more : (a b more : List Name) → HaveTheSame a b → HaveTheSame (a ++ more) (b ++ more)
same_more a b more h = record {
  each = λ n. list_any-append (bytes_eq n) a more ∙ ap (λ t. t || is_among n more) (h.each n) ∙ sym (list_any-append (bytes_eq n) b more);
}

same_first : (a b : List Name) (base name : Name) (n : ℕ) → HaveTheSame a b → IsFirstFree a base name n → IsFirstFree b base name n
same_first a b base name n h f = record {
  is = f.is;
  below = record { some = f.below.some; each = λ k p q. sym (h.each (numbered base k)) ∙ f.below.each k p q };
  free = sym (h.each name) ∙ f.free;
}

pub same_free : (a b : List Name) (base : Name) → HaveTheSame a b → free_name a base ≡ free_name b base
same_free a b base h = let found = found_free a base in free_is b base (free_name a base) found.0 (same_first a b base (free_name a base) found.0 h found.1)

-- a name that is taken already
pub taken_already : (taken : List Name) (name : Name) → is_among name taken ≡ true → IsTakenToo taken taken name
taken_already taken name h = record { each = λ n. by n (bytes_eq n name) refl ∙ sym (list_any-append (bytes_eq n) taken (name ∷ [])) }
  where
    by : (n : Name) (b : Bool) → bytes_eq n name ≡ b → is_among n taken ≡ (is_among n taken || (bytes_eq n name || false))
    by n true e =
        let some : is_among n taken ≡ true = ap (λ m. is_among m taken) ((bytes_eq-Decides n name).0 e) ∙ h in
        some ∙ sym (ap (λ t. t || (bytes_eq n name || false)) some)
    by n false e = sym (ap (λ t. is_among n taken || (t || false)) e ∙ or-false (is_among n taken))

-- a table of so many entries
pub few_entries : {T : Type 0} (es : Table T) (taken : List Name) (base : Name) (n most : ℕ) → table.names es ≡ taken → most ≡ length es → AreTakenBelow taken base n → n ≤ most + 1
few_entries es taken base n most e long h =
    let few = few_below taken base n h in
    let same : length taken ≡ most = ap length (sym e) ∙ length-map es (λ x. x.0) ∙ sym long in
    omega (arith, few, same)
