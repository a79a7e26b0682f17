-- What the changes of a table do to what it says.
use Rattle.std.proofs.Common.{◌≡◌, ℕ, suc, ◌+◌, ◌<◌, Bool, true, false, cond, not, nat_lt, length, slice_get, arith, List, [], ◌∷◌, ◌++◌, Option, Some, None, refl, sym, ap, subst, ◌∙◌, true≢false}
use Rattle.std.specs.List.{AllByRecursion, IsDistinct, position_or_len}
use Rattle.std.specs.Str.{bytes_eq}
use Rattle.std.proofs.lemmas.Bool.{ltb-true}
use Rattle.std.proofs.lemmas.Slice.Eq.{bytes_eq-Decides}
use Rattle.lx_names.specs.Tables.{Table, look_up, place_of, with_name, without, names, AreDistinct, TableHolds}

-- one of two names that are the same differs from a third where the other does
same_apart : (a b other : List ℕ) → bytes_eq a b ≡ true → bytes_eq other a ≡ false → bytes_eq other b ≡ false
same_apart a b other h e = subst (λ (n : List ℕ). bytes_eq other n ≡ false) ((bytes_eq-Decides a b).0 h) e

turned : (a b : List ℕ) → bytes_eq a b ≡ false → bytes_eq b a ≡ false
turned a b h = by (bytes_eq b a) refl
  where
    by : (t : Bool) → bytes_eq b a ≡ t → bytes_eq b a ≡ false
    by false e = e
    by true e =
        let p : b ≡ a = (bytes_eq-Decides b a).0 e in
        absurd (true≢false (sym (subst (λ (n : List ℕ). bytes_eq a n ≡ true) (sym p) ((bytes_eq-Decides a a).1 refl)) ∙ h))

chosen : {A : Type 0} (b t : Bool) (x y : A) → b ≡ t → cond b x y ≡ cond t x y
chosen b t x y e = ap (λ (c : Bool). cond c x y) e

-- ---- set

set : {T : Type 0} (es : Table T) (name : List ℕ) (value : T) → look_up (with_name es name value) name ≡ Some value
set [] name value = ap (λ (b : Bool). cond b (Some value) None) ((bytes_eq-Decides name name).1 refl)
set {T} (e ∷ es) name value = by (bytes_eq name e.0) refl (set es name value)
  where
    by : (b : Bool) → bytes_eq name e.0 ≡ b → look_up (with_name es name value) name ≡ Some value → look_up (cond b ((e.0, value) ∷ es) (e ∷ with_name es name value)) name ≡ Some value
    by true h rest = ap (λ (b : Bool). cond b (Some value) (look_up es name)) h
    by false h rest = ap (λ (b : Bool). cond b (Some e.1) (look_up (with_name es name value) name)) h ∙ rest

set_elsewhere : {T : Type 0} (es : Table T) (name other : List ℕ) (value : T) → bytes_eq other name ≡ false → look_up (with_name es name value) other ≡ look_up es other
set_elsewhere [] name other value n = ap (λ (b : Bool). cond b (Some value) None) n
set_elsewhere {T} (e ∷ es) name other value n = by (bytes_eq name e.0) refl (set_elsewhere es name other value n)
  where
    by : (b : Bool) → bytes_eq name e.0 ≡ b → look_up (with_name es name value) other ≡ look_up es other → look_up (cond b ((e.0, value) ∷ es) (e ∷ with_name es name value)) other ≡ look_up (e ∷ es) other
    by true h rest =
        let apart = same_apart name e.0 other h n in
        chosen (bytes_eq other e.0) false (Some value) (look_up es other) apart ∙ sym (chosen (bytes_eq other e.0) false (Some e.1) (look_up es other) apart)
    by false h rest = ap (cond (bytes_eq other e.0) (Some e.1)) rest

none_there : {T : Type 0} (b : Bool) (x : T) (o : Option T) → cond b (Some x) o ≡ None → (b ≡ false) × (o ≡ None)
none_there true x o e = absurd (cc)
none_there false x o e = (refl, e)

set_new : {T : Type 0} (es : Table T) (name : List ℕ) (value : T) → look_up es name ≡ None → with_name es name value ≡ es ++ (name, value) ∷ []
set_new [] name value n = refl
set_new {T} (e ∷ es) name value n =
    let p = none_there (bytes_eq name e.0) e.1 (look_up es name) n in
    chosen (bytes_eq name e.0) false ((e.0, value) ∷ es) (e ∷ with_name es name value) p.0 ∙ ap (λ (r : Table T). e ∷ r) (set_new es name value p.1)

abbrev Apart : {T : Type 0} → List ℕ → Table T → Type 0
Apart a es = AllByRecursion (λ n. bytes_eq a n ≡ false) (names es)

set_apart : {T : Type 0} (es : Table T) (a name : List ℕ) (value : T) → bytes_eq a name ≡ false → Apart a es → Apart a (with_name es name value)
set_apart [] a name value n h = (n, tt)
set_apart {T} (e ∷ es) a name value n h = by (bytes_eq name e.0) (set_apart es a name value n h.1)
  where
    by : (b : Bool) → Apart a (with_name es name value) → Apart a (cond b ((e.0, value) ∷ es) (e ∷ with_name es name value))
    by true rest = h
    by false rest = (h.0, rest)

set_distinct : {T : Type 0} (es : Table T) (name : List ℕ) (value : T) → AreDistinct es → AreDistinct (with_name es name value)
unfolding IsDistinct
set_distinct [] name value h = (tt, tt)
set_distinct {T} (e ∷ es) name value h = by (bytes_eq name e.0) refl (set_distinct es name value h.1)
  where
    by : (b : Bool) → bytes_eq name e.0 ≡ b → AreDistinct (with_name es name value) → AreDistinct (cond b ((e.0, value) ∷ es) (e ∷ with_name es name value))
    by true n rest = h
    by false n rest = (set_apart es e.0 name value (turned name e.0 n) h.0, rest)

-- ---- places

some_if : (b : Bool) (n k : ℕ) → cond b (Some n) None ≡ Some k → (b ≡ true) × (n ≡ k)
some_if true n k e = (refl, cc)
some_if false n k e = absurd (cc)

-- so many names stand before this one
abbrev before : {T : Type 0} → Table T → List ℕ → ℕ
before es name = position_or_len (bytes_eq name) (names es)

at_before : {T : Type 0} (es : Table T) (name : List ℕ) → before es name < length (names es) → (value : T) × (look_up es name ≡ Some value) × (slice_get es (before es name) ≡ Some (name, value))
at_before [] name l = absurd (omega arith)
at_before {T} (e ∷ es) name l = by (bytes_eq name e.0) refl l (at_before es name)
  where
    by : (b : Bool) → bytes_eq name e.0 ≡ b → before (e ∷ es) name < suc (length (names es))
        → (before es name < length (names es) → (value : T) × (look_up es name ≡ Some value) × (slice_get es (before es name) ≡ Some (name, value)))
        → (value : T) × (look_up (e ∷ es) name ≡ Some value) × (slice_get (e ∷ es) (before (e ∷ es) name) ≡ Some (name, value))
    by true h m rest = (
      e.1,
      chosen (bytes_eq name e.0) true (Some e.1) (look_up es name) h,
      ap (λ (b : Bool). slice_get (e ∷ es) (cond (not b) (1 + before es name) 0)) h ∙ ap (λ (n : List ℕ). Some (n, e.1)) (sym ((bytes_eq-Decides name e.0).0 h)),
    )
    by false h m rest =
        let next : before (e ∷ es) name ≡ 1 + before es name = ap (λ (b : Bool). cond (not b) (1 + before es name) 0) h in
        let one : 1 + before es name ≡ suc (before es name) = omega arith in
        let found = rest (omega (arith, m, next)) in (
          found.0,
          chosen (bytes_eq name e.0) false (Some e.1) (look_up es name) h ∙ found.1,
          ap (λ (k : ℕ). slice_get (e ∷ es) k) (next ∙ one) ∙ found.2,
        )

place : {T : Type 0} (es : Table T) (name : List ℕ) (k : ℕ) → place_of es name ≡ Some k → (value : T) × (look_up es name ≡ Some value) × (slice_get es k ≡ Some (name, value))
place es name k e =
    let h = some_if (nat_lt (before es name) (length (names es))) (before es name) k e in
    let found = at_before es name (ltb-true (before es name) (length (names es)) h.0) in
    (found.0, found.1, ap (slice_get es) (sym h.1) ∙ found.2)

-- ---- remove

gone : {T : Type 0} (es : Table T) (name : List ℕ) → Apart name es → look_up es name ≡ None
gone [] name h = refl
gone (e ∷ es) name h = chosen (bytes_eq name e.0) false (Some e.1) (look_up es name) h.0 ∙ gone es name h.1

removed : {T : Type 0} (es : Table T) (name : List ℕ) → AreDistinct es → look_up (without es name) name ≡ None
unfolding IsDistinct
removed [] name h = refl
removed {T} (e ∷ es) name h = by (bytes_eq name e.0) refl (removed es name h.1)
  where
    by : (b : Bool) → bytes_eq name e.0 ≡ b → look_up (without es name) name ≡ None → look_up (cond b es (e ∷ without es name)) name ≡ None
    by true n rest = gone es name (subst (λ (a : List ℕ). Apart a es) (sym ((bytes_eq-Decides name e.0).0 n)) h.0)
    by false n rest = chosen (bytes_eq name e.0) false (Some e.1) (look_up (without es name) name) n ∙ rest

removed_elsewhere : {T : Type 0} (es : Table T) (name other : List ℕ) → bytes_eq other name ≡ false → look_up (without es name) other ≡ look_up es other
removed_elsewhere [] name other n = refl
removed_elsewhere {T} (e ∷ es) name other n = by (bytes_eq name e.0) refl (removed_elsewhere es name other n)
  where
    by : (b : Bool) → bytes_eq name e.0 ≡ b → look_up (without es name) other ≡ look_up es other → look_up (cond b es (e ∷ without es name)) other ≡ look_up (e ∷ es) other
    by true h rest = sym (chosen (bytes_eq other e.0) false (Some e.1) (look_up es other) (same_apart name e.0 other h n))
    by false h rest = ap (cond (bytes_eq other e.0) (Some e.1)) rest

removed_apart : {T : Type 0} (es : Table T) (a name : List ℕ) → Apart a es → Apart a (without es name)
removed_apart [] a name h = tt
removed_apart {T} (e ∷ es) a name h = by (bytes_eq name e.0) (removed_apart es a name h.1)
  where
    by : (b : Bool) → Apart a (without es name) → Apart a (cond b es (e ∷ without es name))
    by true rest = h.1
    by false rest = (h.0, rest)

removed_distinct : {T : Type 0} (es : Table T) (name : List ℕ) → AreDistinct es → AreDistinct (without es name)
unfolding IsDistinct
removed_distinct [] name h = tt
removed_distinct {T} (e ∷ es) name h = by (bytes_eq name e.0) (removed_distinct es name h.1)
  where
    by : (b : Bool) → AreDistinct (without es name) → AreDistinct (cond b es (e ∷ without es name))
    by true rest = h.1
    by false rest = (removed_apart es e.0 name h.0, rest)

pub table_holds : (T : Type 0) → TableHolds T
table_holds T = record {
  set = set;
  set_elsewhere = set_elsewhere;
  set_new = set_new;
  set_distinct = set_distinct;
  place = place;
  removed = removed;
  removed_elsewhere = removed_elsewhere;
  removed_distinct = removed_distinct;
}
