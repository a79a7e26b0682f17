-- Names that are taken one after another.
use Rattle.std.proofs.Common.{◌≡◌, ℕ, zero, suc, ◌+◌, ◌<◌, List, [], ◌∷◌, ◌++◌, Some, length, map, take, get_or, refl, ap, sym, ◌∙◌, arith, subst, true, false, Bool, ◌||◌, bytes_eq, append_assoc, add-one, is_some, cond}
use Rattle.std.proofs.lemmas.Bool.{true≢false}
use Rattle.std.proofs.lemmas.List.{append-nil, map-append}
use Rattle.std.proofs.lemmas.List.Folds.{list_any-append}
use Rattle.lx_text.specs.declared.faults.Refusal.{Refusal}
use Rattle.lx_alloc.specs.Judged.{Refused}
use Rattle.lx_alloc.proofs.Judging.{no_parts, none_both, refused_left, refused_right}
use Rattle.lx_names.specs.Tables.{Table, look_up, names, with_name}
use Rattle.lx_csr.specs.CWords.{c_words, is_c_word}
use Rattle.lx_csr.specs.Faults.{is_among, name_fault, taken_faults, taken_first}
use Rattle.lx_csr.specs.declared.names.Defined.{Defined}
use Rattle.lx_csr.proofs.Lists.{take_at}

abbrev pub texts : List Defined → List (List ℕ)
texts xs = map (λ (x : Defined). x.text) xs

-- ---- tables

pub in_names : (es : Table ℕ) (name : List ℕ) → is_some (look_up es name) ≡ is_among name (names es)
in_names [] name = refl
in_names (e ∷ es) name = by (bytes_eq name e.0) (in_names es name)
  where
    by : (b : Bool) → is_some (look_up es name) ≡ is_among name (names es) → is_some (cond b (Some e.1) (look_up es name)) ≡ (b || is_among name (names es))
    by true h = refl
    by false h = h

neither : (a b : Bool) → (a || b) ≡ false → (a ≡ false) × (b ≡ false)
neither true b h = absurd (true≢false h)
neither false b h = (refl, h)

-- a new name comes last
pub set_names : (es : Table ℕ) (name : List ℕ) (v : ℕ) → is_among name (names es) ≡ false → names (with_name es name v) ≡ names es ++ name ∷ []
set_names [] name v h = refl
set_names (e ∷ es) name v h =
    let p = neither (bytes_eq name e.0) (is_among name (names es)) h in
    ap (λ b. names (cond b ((e.0, v) ∷ es) (e ∷ with_name es name v))) p.0 ∙ ap (λ xs. e.0 ∷ xs) (set_names es name v p.1)

-- ---- faults

pub taken_more : (before : List (List ℕ)) (xs : List Defined) (i : ℕ) (d : Defined) → i < length xs →
    taken_faults before (take i xs) ≡ [] → name_fault (before ++ texts (take i xs)) (get_or xs i d) ≡ [] → taken_faults before (take (suc i) xs) ≡ []
taken_more before [] i d l none here = absurd (omega arith)
taken_more before (x ∷ xs) zero d l none here =
    none_both (name_fault before x) [] (ap (λ b. name_fault b x) (sym (append-nil before)) ∙ here) refl
taken_more before (x ∷ xs) (suc i) d l none here =
    let parts = no_parts (name_fault before x) (taken_faults (before ++ x.text ∷ []) (take i xs)) none in
    none_both (name_fault before x) _ parts.0
    (taken_more (before ++ x.text ∷ []) xs i d (omega arith) parts.1
    (ap (λ b. name_fault b (get_or xs i d)) (append_assoc before (x.text ∷ []) (texts (take i xs))) ∙ here))

pub taken_exit : (before : List (List ℕ)) (xs : List Defined) (i : ℕ) (d : Defined) (e : Refusal) → i < length xs →
    taken_faults before (take i xs) ≡ [] → Refused (name_fault (before ++ texts (take i xs)) (get_or xs i d)) e → Refused (taken_faults before xs) e
taken_exit before [] i d e l none here = absurd (omega arith)
taken_exit before (x ∷ xs) zero d e l none here =
    refused_left (name_fault before x) _ e (subst (λ b. Refused (name_fault b x) e) (append-nil before) here)
taken_exit before (x ∷ xs) (suc i) d e l none here =
    let parts = no_parts (name_fault before x) (taken_faults (before ++ x.text ∷ []) (take i xs)) none in
    refused_right (name_fault before x) _ e parts.0
    (taken_exit (before ++ x.text ∷ []) xs i d e (omega arith) parts.1
    (subst (λ b. Refused (name_fault b (get_or xs i d)) e) (sym (append_assoc before (x.text ∷ []) (texts (take i xs)))) here))

-- the same at a name that was read
pub taken_more_at : (before : List (List ℕ)) (xs : List Defined) (i : ℕ) (x : Defined) → i < length xs → x ≡ get_or xs i x →
    taken_faults before (take i xs) ≡ [] → name_fault (before ++ texts (take i xs)) x ≡ [] → taken_faults before (take (i + 1) xs) ≡ []
taken_more_at before xs i x l same none here =
    rw add-one (taken_more before xs i x l none (ap (λ z. name_fault (before ++ texts (take i xs)) z) (sym same) ∙ here))

pub taken_exit_at : (before : List (List ℕ)) (xs : List Defined) (i : ℕ) (x : Defined) (e : Refusal) → i < length xs → x ≡ get_or xs i x →
    taken_faults before (take i xs) ≡ [] → Refused (name_fault (before ++ texts (take i xs)) x) e → Refused (taken_faults before xs) e
taken_exit_at before xs i x e l same none here =
    taken_exit before xs i x e l none (subst (λ z. Refused (name_fault (before ++ texts (take i xs)) z) e) same here)

pub texts_more : (xs : List Defined) (i : ℕ) (x : Defined) → i < length xs → x ≡ get_or xs i x → texts (take i xs) ++ x.text ∷ [] ≡ texts (take (i + 1) xs)
texts_more xs i x l same =
    rw add-one (sym (map-append (λ (y : Defined). y.text) (take i xs) (x ∷ [])) ∙ ap texts (sym (take_at xs i x l same)))

-- ---- names of the table

-- of the headers, a name that is no word of C
pub not_word : (headers : Bool) (es : Table ℕ) (name : List ℕ) (c : Bool) → headers ≡ true → c ≡ is_c_word name → c ≡ false →
    is_some (look_up es name) ≡ is_among name (taken_first headers ++ names es)
not_word headers es name c on is none =
    let word : is_c_word name ≡ false = sym is ∙ none in
    in_names es name ∙ (ap (λ b. b || is_among name (names es)) (sym word)
    ∙ (sym (list_any-append (bytes_eq name) c_words (names es)) ∙ ap (λ b. is_among name (taken_first b ++ names es)) (sym on)))

pub wished_name : (headers : Bool) (es : Table ℕ) (name : List ℕ) → headers ≡ false → is_some (look_up es name) ≡ is_among name (taken_first headers ++ names es)
wished_name headers es name off = in_names es name ∙ ap (λ b. is_among name (taken_first b ++ names es)) (sym off)

pub not_later : (t : List ℕ) (before after : List (List ℕ)) → is_among t (before ++ after) ≡ false → is_among t after ≡ false
not_later t before after h = (neither (is_among t before) (is_among t after) (sym (list_any-append (bytes_eq t) before after) ∙ h)).1
