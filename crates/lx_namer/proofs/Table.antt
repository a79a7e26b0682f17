-- The table of the names that are taken.
use Rattle.std.proofs.Common.{◌≡◌, ℕ, ◌+◌, ◌<◌, ◌≤◌, Bool, true, false, cond, ◌||◌, List, [], ◌∷◌, ◌++◌, Option, Some, Result, Ok, Err, OnOk, OnErr, is_some, refl, sym, ap, subst, ◌∙◌, arith, inl, inr, ◌⊎◌}
use Rattle.std.proofs.lemmas.Bool.{cases_eq}
use Rattle.std.proofs.Math.Bool.{or-true, or-false}
use Rattle.std.proofs.lemmas.List.Folds.{list_any-append}
use Rattle.std.specs.Str.{bytes_eq}
use Rattle.std.proofs.lemmas.Slice.Eq.{bytes_eq-Decides}
use Rattle.lx_names.specs.Tables.{Table, look_up, names, with_name}
use Rattle.lx_names.proofs.Changes.{table_holds}
use Rattle.lx_vtext.specs.Tree.{Name}
use Rattle.lx_emission.specs.Naming.{is_among}
use Rattle.lx_namer.specs.Taken.{AreTakenBelow, IsFirstFree, IsIn, IsTakenToo, NextsHold, numbered}
use Rattle.lx_namer.proofs.Free.{same_after, taken_already}

pub in_names : {T : Type 0} (es : Table T) (name : Name) → is_some (look_up es name) ≡ is_among name (names es)
in_names [] name = refl
in_names {T} (e ∷ es) name = by (bytes_eq name e.0) (in_names es name)
  where
    by : (b : Bool) → is_some (look_up es name) ≡ is_among name (names es) → is_some (cond b (Some e.1) (look_up es name)) ≡ (b || is_among name (names es))
    by true h = refl
    by false h = h

-- a name that is set is there, and the others are as before
set_in : {T : Type 0} (es : Table T) (name n : Name) (v : T) → is_some (look_up (with_name es name v) n) ≡ (is_some (look_up es n) || (bytes_eq n name || false))
set_in {T} es name n v = by (bytes_eq n name) refl
  where
    by : (b : Bool) → bytes_eq n name ≡ b → is_some (look_up (with_name es name v) n) ≡ (is_some (look_up es n) || (b || false))
    by true e =
        let same = (bytes_eq-Decides n name).0 e in
        ap (λ m. is_some (look_up (with_name es name v) m)) same ∙ ap is_some ((table_holds T).set es name v) ∙ sym (or-true (is_some (look_up es n)))
    by false e = ap is_some ((table_holds T).set_elsewhere es name n v e) ∙ sym (or-false (is_some (look_up es n)))

pub set_taken : {T : Type 0} (es : Table T) (name : Name) (v : T) → IsTakenToo (names es) (names (with_name es name v)) name
set_taken es name v = record {
  each = λ n. sym (in_names (with_name es name v) n) ∙ set_in es name n v ∙ ap (λ t. t || (bytes_eq n name || false)) (in_names es n) ∙ sym (list_any-append (bytes_eq n) (names es) (name ∷ []));
}

still_in : (es : Table ℕ) (name n : Name) (v : ℕ) → IsIn es n → IsIn (with_name es name v) n
still_in es name n v h = set_in es name n v ∙ ap (λ t. t || (bytes_eq n name || false)) h

pub now_in : (es : Table ℕ) (name : Name) (v : ℕ) → IsIn (with_name es name v) name
now_in es name v = ap is_some ((table_holds ℕ).set es name v)

pub nexts_none : NextsHold []
nexts_none = record { each = λ name n e k p q. absurd cc; some = λ name n e. absurd cc }

pub nexts_set : (es : Table ℕ) (name : Name) (v : ℕ) → NextsHold es → 2 ≤ v → ((k : ℕ) → 2 ≤ k → k < v → IsIn (with_name es name v) (numbered name k)) → NextsHold (with_name es name v)
nexts_set es name v h two below = record {
  each = λ m n e k p q. by_each m n (bytes_eq m name) refl e k p q;
  some = λ m n e. by_some m n (bytes_eq m name) refl e;
}
  where
    here : (m : Name) (n : ℕ) → bytes_eq m name ≡ true → look_up (with_name es name v) m ≡ Some n → v ≡ n
    here m n t e =
        let set : look_up (with_name es name v) m ≡ Some v = ap (look_up (with_name es name v)) ((bytes_eq-Decides m name).0 t) ∙ (table_holds ℕ).set es name v in
        cc

    by_each : (m : Name) (n : ℕ) (b : Bool) → bytes_eq m name ≡ b → look_up (with_name es name v) m ≡ Some n → (k : ℕ) → 2 ≤ k → k < n → IsIn (with_name es name v) (numbered m k)
    by_each m n true t e k p q =
        let same = here m n t e in
        ap (λ x. is_some (look_up (with_name es name v) (numbered x k))) ((bytes_eq-Decides m name).0 t) ∙ below k p (omega (arith, same))
    by_each m n false t e k p q =
        still_in es name (numbered m k) v (h.each m n (sym ((table_holds ℕ).set_elsewhere es name m v t) ∙ e) k p q)

    by_some : (m : Name) (n : ℕ) (b : Bool) → bytes_eq m name ≡ b → look_up (with_name es name v) m ≡ Some n → 2 ≤ n
    by_some m n true t e = let same = here m n t e in omega (arith, same, two)
    by_some m n false t e = h.some m n (sym ((table_holds ℕ).set_elsewhere es name m v t) ∙ e)

-- a name that nothing was asked for behind
pub nexts_new : (es : Table ℕ) (name : Name) → NextsHold es → NextsHold (with_name es name 2)
nexts_new es name h = nexts_set es name 2 h (omega arith) (λ k p q. absurd (omega arith))

-- ---- as a type that keeps the table sees it

pub has_is : (es : Table ℕ) (taken : List Name) (name : Name) (o : Option ℕ) → names es ≡ taken → o ≡ look_up es name → is_some o ≡ is_among name taken
has_is es taken name o e f = ap is_some f ∙ in_names es name ∙ ap (is_among name) e

numbered_one : (base : Name) → numbered base 1 ≡ base
unfolding numbered
numbered_one base = refl

pub next_is : (es : Table ℕ) (taken : List Name) (base : Name) (n : ℕ) → NextsHold es → names es ≡ taken → look_up es base ≡ Some n → AreTakenBelow taken base n
next_is es taken base n h e f = record { some = let two = h.some base n f in omega (arith, two); each = λ k p q. sym (has_is es taken (numbered base k) (look_up es (numbered base k)) e refl) ∙ by k p q (cases_eq k 1) }
  where
    by : (k : ℕ) → 1 ≤ k → k < n → (k ≡ 1) ⊎ (k ≡ 1 → ⊥) → is_some (look_up es (numbered base k)) ≡ true
    by k p q (inl one) = ap (λ (m : Name). is_some (look_up es m)) (ap (numbered base) one ∙ numbered_one base) ∙ ap is_some f
    by k p q (inr other) = h.each base n f k (omega (arith, p, other)) q

-- a name that is taken besides
pub taken_too : (es fs : Table ℕ) (taken : List Name) (name : Name) (v : ℕ) → names es ≡ taken → fs ≡ with_name es name v → IsTakenToo taken (names fs) name
taken_too es fs taken name v e f = subst (λ (gs : Table ℕ). IsTakenToo taken (names gs) name) (sym f) (subst (λ (t : List Name). IsTakenToo t (names (with_name es name v)) name) e (set_taken es name v))

pub nexts_keep : (es fs : Table ℕ) (name : Name) → NextsHold es → fs ≡ with_name es name 2 → NextsHold fs
nexts_keep es fs name h f = subst NextsHold (sym f) (nexts_new es name h)

pub nexts_same : (es fs : Table ℕ) → NextsHold es → fs ≡ es → NextsHold fs
nexts_same es fs h f = subst NextsHold (sym f) h

-- the number of the name that was found is taken from now on
pub nexts_found : (es fs gs : Table ℕ) (taken : List Name) (base name : Name) (n : ℕ) → NextsHold es → names es ≡ taken → IsFirstFree taken base name n → fs ≡ with_name es name 2 → gs ≡ with_name fs base (n + 1) → NextsHold gs
nexts_found es fs gs taken base name n h e found f g =
    subst NextsHold (sym g) (nexts_set fs base (n + 1) (nexts_keep es fs name h f) (omega (arith, found.below.some)) below)
  where
    in_fs : (k : ℕ) → 2 ≤ k → k < n + 1 → IsIn fs (numbered base k)
    in_fs k p q = by (cases_eq k n)
      where
        by : (k ≡ n) ⊎ (k ≡ n → ⊥) → IsIn fs (numbered base k)
        by (inl same) = ap (λ (t : Table ℕ). is_some (look_up t (numbered base k))) f ∙ ap (λ (m : Name). is_some (look_up (with_name es name 2) m)) (ap (numbered base) same ∙ sym found.is) ∙ now_in es name 2
        by (inr other) =
            let before : IsIn es (numbered base k) = has_is es taken (numbered base k) (look_up es (numbered base k)) e refl ∙ found.below.each k (omega (arith, p)) (omega (arith, q, other)) in
            ap (λ (t : Table ℕ). is_some (look_up t (numbered base k))) f ∙ still_in es name (numbered base k) 2 before

    below : (k : ℕ) → 2 ≤ k → k < n + 1 → IsIn (with_name fs base (n + 1)) (numbered base k)
    below k p q = still_in fs base (numbered base k) (n + 1) (in_fs k p q)

-- and it and its base are taken, the base as before
pub found_taken : (es fs gs : Table ℕ) (taken : List Name) (base name : Name) (n : ℕ) → names es ≡ taken → IsFirstFree taken base name n → fs ≡ with_name es name 2 → gs ≡ with_name fs base (n + 1) → IsTakenToo taken (names gs) name
found_taken es fs gs taken base name n e found f g =
    let first = taken_too es fs taken name 2 e f in
    let second = taken_too fs gs (names fs) base (n + 1) refl g in
    same_after (names gs) (names fs ++ base ∷ []) (taken ++ name ∷ []) second
    (same_after (names fs ++ base ∷ []) (names fs) (taken ++ name ∷ []) (record { each = λ m. sym ((taken_already (names fs) base (here (cases_eq n 1))).each m) }) first)
  where
    in_first : (m : Name) → IsIn (with_name es name 2) m → is_among m (names fs) ≡ true
    in_first m h = sym (in_names fs m) ∙ ap (λ (t : Table ℕ). is_some (look_up t m)) f ∙ h

    here : (n ≡ 1) ⊎ (n ≡ 1 → ⊥) → is_among base (names fs) ≡ true
    here (inl same) = in_first base (ap (λ (m : Name). is_some (look_up (with_name es name 2) m)) (sym (numbered_one base) ∙ ap (numbered base) (sym same) ∙ sym found.is) ∙ now_in es name 2)
    here (inr other) =
        let among : is_among base taken ≡ true = ap (λ (m : Name). is_among m taken) (sym (numbered_one base)) ∙ found.below.each 1 (omega arith) (omega (arith, found.below.some, other)) in
        in_first base (still_in es name base 2 (has_is es taken base (look_up es base) e refl ∙ among))

-- ---- after a call that may fail

pub nexts_after : {A E : Type 0} (r : Result A E) (es fs : Table ℕ) (name : Name) → NextsHold es → OnOk r (fs ≡ with_name es name 2) → OnErr r (fs ≡ es) → NextsHold fs
nexts_after (Ok a) es fs name h ok err = nexts_keep es fs name h ok
nexts_after (Err e) es fs name h ok err = nexts_same es fs h err

pub taken_after : {A E : Type 0} (r : Result A E) (es fs : Table ℕ) (taken : List Name) (name : Name) (v : ℕ) → names es ≡ taken → OnOk r (fs ≡ with_name es name v) → OnOk r (IsTakenToo taken (names fs) name)
taken_after (Ok a) es fs taken name v e ok = taken_too es fs taken name v e ok
taken_after (Err x) es fs taken name v e ok = tt

pub nexts_found_after : {A E : Type 0} (r : Result A E) (es fs gs : Table ℕ) (taken : List Name) (base name : Name) (n : ℕ) → NextsHold es → names es ≡ taken → IsFirstFree taken base name n → fs ≡ with_name es name 2 → OnOk r (gs ≡ with_name fs base (n + 1)) → OnErr r (gs ≡ fs) → NextsHold gs
nexts_found_after (Ok a) es fs gs taken base name n h e found f ok err = nexts_found es fs gs taken base name n h e found f ok
nexts_found_after (Err x) es fs gs taken base name n h e found f ok err = nexts_same fs gs (nexts_keep es fs name h f) err

pub found_after : {A E : Type 0} (r : Result A E) (es fs gs : Table ℕ) (taken : List Name) (base name : Name) (n : ℕ) → names es ≡ taken → IsFirstFree taken base name n → fs ≡ with_name es name 2 → OnOk r (gs ≡ with_name fs base (n + 1)) → OnOk r (IsTakenToo taken (names gs) name)
found_after (Ok a) es fs gs taken base name n e found f ok = found_taken es fs gs taken base name n e found f ok
found_after (Err x) es fs gs taken base name n e found f ok = tt
