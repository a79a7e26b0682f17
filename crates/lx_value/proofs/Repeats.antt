-- Names that came one after the other, and how often each of them stands.
use Rattle.std.proofs.Common.{◌≡◌, ℕ, ◌+◌, ◌≤◌, Bool, true, false, cond, not, ◌||◌, ◌&&◌, List, [], ◌∷◌, ◌++◌, Option, Some, None, refl, sym, ap, subst, ◌∙◌, arith, append_assoc, true≢false}
use Rattle.std.proofs.lemmas.Bool.{and_parts}
use Rattle.std.proofs.lemmas.List.Folds.{list_any-append}
use Rattle.std.proofs.lemmas.List.Sums.{sum_by-append, sum_by-cons}
use Rattle.std.specs.List.{count_by, list_any}
use Rattle.std.specs.Option.{is_some}
use Rattle.std.specs.Str.{bytes_eq}
use Rattle.std.proofs.lemmas.Slice.Eq.{bytes_eq-Decides}
use Rattle.lx_names.specs.Tables.{Table, look_up, names, with_name}
use Rattle.lx_value.specs.Seen.{are_new, with_new}

abbrev pub Names : Type 0
Names = List (List ℕ)

abbrev pub among : List ℕ → Names → Bool
among n ns = list_any (bytes_eq n) ns

-- how often a name stands
abbrev pub times : List ℕ → Names → ℕ
times n ns = count_by (bytes_eq n) ns

-- ---- tables

pub has_is : {T : Type 0} (t : Table T) (n : List ℕ) → is_some (look_up t n) ≡ among n (names t)
has_is [] n = refl
has_is {T} (e ∷ es) n = by (bytes_eq n e.0) (has_is es n)
  where
    by : (b : Bool) → is_some (look_up es n) ≡ among n (names es) → is_some (cond b (Some e.1) (look_up es n)) ≡ (b || among n (names es))
    by true ih = refl
    by false ih = ih

pub set_names : {T : Type 0} (t : Table T) (n : List ℕ) (v : T) → names (with_name t n v) ≡ with_new n (names t)
set_names [] n v = refl
set_names {T} (e ∷ es) n v = by (bytes_eq n e.0) (among n (names es)) (set_names es n v)
  where
    by : (b c : Bool) → names (with_name es n v) ≡ cond c (names es) (names es ++ n ∷ []) → names (cond b ((e.0, v) ∷ es) (e ∷ with_name es n v)) ≡ cond (b || c) (e.0 ∷ names es) (e.0 ∷ (names es ++ n ∷ []))
    by true c ih = refl
    by false true ih = ap (λ (ns : Names). e.0 ∷ ns) ih
    by false false ih = ap (λ (ns : Names). e.0 ∷ ns) ih

-- ---- the same bytes

pub turned : (a b : List ℕ) → bytes_eq a b ≡ bytes_eq b a
turned a b = by (bytes_eq a b) refl (bytes_eq b a) refl
  where
    by : (s : Bool) → bytes_eq a b ≡ s → (t : Bool) → bytes_eq b a ≡ t → s ≡ t
    by true e true f = refl
    by false e false f = refl
    by true e false f = absurd (true≢false (sym ((bytes_eq-Decides b a).1 (sym ((bytes_eq-Decides a b).0 e))) ∙ f))
    by false e true f = absurd (true≢false (sym ((bytes_eq-Decides a b).1 (sym ((bytes_eq-Decides b a).0 f))) ∙ e))

pub same_name : (a b : List ℕ) → bytes_eq a b ≡ true → a ≡ b
same_name a b e = (bytes_eq-Decides a b).0 e

pub own_name : (a : List ℕ) → bytes_eq a a ≡ true
own_name a = (bytes_eq-Decides a a).1 refl

-- ---- a further name

pub with_more : (key n : List ℕ) (ns : Names) → among key (with_new n ns) ≡ (among key ns || bytes_eq key n)
with_more key n ns = by (among n ns) refl
  where
    or_false : (a : Bool) → (a || false) ≡ a
    or_false true = refl
    or_false false = refl

    there : among n ns ≡ true → (b : Bool) → bytes_eq key n ≡ b → among key ns ≡ (among key ns || b)
    there e true f = let t = ap (λ (k : List ℕ). among k ns) (same_name key n f) ∙ e in t ∙ sym (ap (λ (a : Bool). a || true) t)
    there e false f = sym (or_false (among key ns))

    by : (b : Bool) → among n ns ≡ b → among key (cond b ns (ns ++ n ∷ [])) ≡ (among key ns || bytes_eq key n)
    by true e = there e (bytes_eq key n) refl
    by false e = list_any-append (bytes_eq key) ns (n ∷ []) ∙ ap (λ (b : Bool). among key ns || b) (or_false (bytes_eq key n))

-- ---- counts

pub times_cons : (n m : List ℕ) (ms : Names) → times n (m ∷ ms) ≡ cond (bytes_eq n m) 1 0 + times n ms
times_cons n m ms = sum_by-cons (λ (k : List ℕ). cond (bytes_eq n k) 1 0) m ms

pub once_there : (n : List ℕ) (ns : Names) → among n ns ≡ true → 1 ≤ times n ns
once_there n [] h = absurd (true≢false (sym h))
once_there n (m ∷ ms) h = subst (λ (k : ℕ). 1 ≤ k) (sym (times_cons n m ms)) (by (bytes_eq n m) h (once_there n ms))
  where
    by : (b : Bool) → (b || among n ms) ≡ true → (among n ms ≡ true → 1 ≤ times n ms) → 1 ≤ cond b 1 0 + times n ms
    by true h ih = omega arith
    by false h ih = let r = ih h in omega (arith, r)

pub never_there : (n : List ℕ) (ns : Names) → among n ns ≡ false → times n ns ≡ 0
never_there n [] h = refl
never_there n (m ∷ ms) h = times_cons n m ms ∙ by (bytes_eq n m) h (never_there n ms)
  where
    by : (b : Bool) → (b || among n ms) ≡ false → (among n ms ≡ false → times n ms ≡ 0) → cond b 1 0 + times n ms ≡ 0
    by true h ih = absurd (true≢false h)
    by false h ih = let r = ih h in omega (arith, r)

pub times_both : (n : List ℕ) (ns more : Names) → times n (ns ++ more) ≡ times n ns + times n more
times_both n ns more = sum_by-append (λ (m : List ℕ). cond (bytes_eq n m) 1 0) ns more

not_false : (a : Bool) → not a ≡ true → a ≡ false
not_false true h = absurd (true≢false (sym h))
not_false false h = refl

-- names that are new stand once, and not among those that came before
pub new_once : (seen ns : Names) (n : List ℕ) → are_new seen ns ≡ true → times n ns ≤ cond (among n seen) 0 1
new_once seen [] n h = omega arith
new_once seen (m ∷ ms) n h =
    let parts = and_parts (not (among m seen)) (are_new (seen ++ m ∷ []) ms) h in
    let apart = not_false (among m seen) parts.0 in
    let ih = new_once (seen ++ m ∷ []) ms n parts.1 in
    subst (λ (k : ℕ). k ≤ cond (among n seen) 0 1) (sym (times_cons n m ms))
    (by (bytes_eq n m) refl (among n seen) refl apart (subst (λ (b : Bool). times n ms ≤ cond b 0 1) (list_any-append (bytes_eq n) seen (m ∷ [])) ih))
  where
    by : (b : Bool) → bytes_eq n m ≡ b → (c : Bool) → among n seen ≡ c → among m seen ≡ false → times n ms ≤ cond (among n seen || (bytes_eq n m || false)) 0 1 → cond b 1 0 + times n ms ≤ cond c 0 1
    by true e true f a ih = absurd (true≢false (sym f ∙ ap (λ (k : List ℕ). among k seen) (same_name n m e) ∙ a))
    by true e false f a ih =
        let r : times n ms ≤ 0 = subst (λ (b : Bool). times n ms ≤ cond b 0 1) (ap (λ (b : Bool). among n seen || (b || false)) e ∙ ap (λ (c : Bool). c || true) f) ih in
        omega (arith, r)
    by false e true f a ih =
        let r : times n ms ≤ 0 = subst (λ (b : Bool). times n ms ≤ cond b 0 1) (ap (λ (b : Bool). among n seen || (b || false)) e ∙ ap (λ (c : Bool). c || false) f) ih in
        omega (arith, r)
    by false e false f a ih =
        let r : times n ms ≤ 1 = subst (λ (b : Bool). times n ms ≤ cond b 0 1) (ap (λ (b : Bool). among n seen || (b || false)) e ∙ ap (λ (c : Bool). c || false) f) ih in
        omega (arith, r)

-- so such a name stands once where it is one of them
pub new_times : (ns : Names) (n : List ℕ) → are_new [] ns ≡ true → times n ns ≡ cond (among n ns) 1 0
new_times ns n h = by (among n ns) refl
  where
    by : (b : Bool) → among n ns ≡ b → times n ns ≡ cond b 1 0
    by true e = let low = once_there n ns e in let high : times n ns ≤ 1 = new_once [] ns n h in omega (arith, low, high)
    by false e = never_there n ns e

-- where names aren't new, one stands twice
pub some_twice : (seen ns : Names) → are_new seen ns ≡ false → (n : List ℕ) × (2 ≤ times n (seen ++ ns))
some_twice seen [] h = absurd (true≢false h)
some_twice seen (m ∷ ms) h = by (among m seen) refl h (some_twice (seen ++ m ∷ []) ms)
  where
    by : (b : Bool) → among m seen ≡ b → (not b && are_new (seen ++ m ∷ []) ms) ≡ false → (are_new (seen ++ m ∷ []) ms ≡ false → (n : List ℕ) × (2 ≤ times n ((seen ++ m ∷ []) ++ ms))) → (n : List ℕ) × (2 ≤ times n (seen ++ m ∷ ms))
    by true e f ih =
        let one = once_there m seen e in
        let own : 1 ≤ times m (m ∷ ms) = once_there m (m ∷ ms) (ap (λ (b : Bool). b || among m ms) (own_name m)) in
        let both = times_both m seen (m ∷ ms) in
        (m, omega (arith, one, own, both))
    by false e f ih =
        let found = ih f in
        (found.0, subst (λ (ns : Names). 2 ≤ times found.0 ns) (append_assoc seen (m ∷ []) ms) found.1)
