-- Names that are apart.
use Rattle.std.proofs.Common.{◌||◌, if◌then◌else◌, codes, ◌≡◌, ℕ, zero, suc, List, [], ◌∷◌, ◌++◌, Some, map, refl, ap, sym, ◌∙◌, subst, true, false, Bool, bytes_eq}
use Rattle.std.specs.Prelude.{flat_map, slice_get}
use Rattle.std.proofs.lemmas.Bool.{true≢false}
use Rattle.std.proofs.lemmas.Grind.{flat_map-append}
use Rattle.std.proofs.lemmas.List.Folds.{list_any-append}
use Rattle.std.proofs.lemmas.Slice.Eq.{bytes_eq-Decides}
use Rattle.lx_fhdl.specs.Keeping.{EachOf}
use Rattle.lx_fhdl.specs.declared.places.BankWish.{BankWish}
use Rattle.lx_alloc.specs.Numbers.{AreDistinct}
use Rattle.lx_alloc.proofs.Judging.{no_parts}
use Rattle.lx_description.specs.declared.description.Description.{Description}
use Rattle.lx_csr.specs.Names.{csr_macro}
use Rattle.lx_csr.specs.Collected.{banks, top_parts}
use Rattle.lx_csr.specs.Defined.{accessors, bank_names, field_names, header_names, name_of, register_names}
use Rattle.lx_csr.specs.Faults.{bank_faults, faults, is_among, name_fault, name_faults, taken_faults, taken_first, top_faults}
use Rattle.lx_csr.specs.Laws.{AreNamedApart, all_registers}
use Rattle.lx_csr.specs.Mapped.{wishes_of}
use Rattle.lx_csr.specs.declared.names.Defined.{Defined}
use Rattle.lx_csr.specs.declared.registers.Register.{Register}
use Rattle.lx_csr.specs.declared.registers.Bank.{Bank}
use Rattle.lx_csr.proofs.Housing.{untold}

-- none of these has the text
abbrev NotAmong : List ℕ → List Defined → Type 0
NotAmong t xs = EachOf (λ (x : Defined). x.text ≡ t → ⊥) xs

-- no two have one text
abbrev Apart : List Defined → Type 0
Apart [] = Unit {0}
Apart (x ∷ xs) = NotAmong x.text xs × Apart xs

-- ---- from the faults

abbrev Free : List (List ℕ) → Defined → Type 0
Free before x = is_among x.text before ≡ false

differs : (t n : List ℕ) → bytes_eq t n ≡ false → t ≡ n → ⊥
differs t n h e = true≢false (sym ((bytes_eq-Decides t n).1 e) ∙ h)

neither : (a b : Bool) → (a || b) ≡ false → (a ≡ false) × (b ≡ false)
neither true b h = absurd (true≢false h)
neither false b h = (refl, h)

among_more : (t n : List ℕ) (before : List (List ℕ)) → is_among t (before ++ n ∷ []) ≡ false → (is_among t before ≡ false) × (t ≡ n → ⊥)
among_more t n before h =
    let p = neither (is_among t before) (is_among t (n ∷ [])) (sym (list_any-append (bytes_eq t) before (n ∷ [])) ∙ h) in
    let q = neither (bytes_eq t n) false p.1 in
    (p.0, λ e. differs t n q.0 e)

frees : (n : List ℕ) (before : List (List ℕ)) (xs : List Defined) → EachOf (Free (before ++ n ∷ [])) xs → EachOf (Free before) xs × NotAmong n xs
frees n before [] h = (tt, tt)
frees n before (x ∷ xs) h =
    let here = among_more x.text n before h.0 in
    let rest = frees n before xs h.1 in
    ((here.0, rest.0), (here.1, rest.1))

untaken : (before : List (List ℕ)) (xs : List Defined) → taken_faults before xs ≡ [] → EachOf (Free before) xs × Apart xs
untaken before [] e = (tt, tt)
untaken before (x ∷ xs) e =
    let p = no_parts (name_fault before x) (taken_faults (before ++ x.text ∷ []) xs) e in
    let rest = untaken (before ++ x.text ∷ []) xs p.1 in
    let split = frees x.text before xs rest.0 in
    ((untold (is_among x.text before) x.line _ p.0, split.0), (split.1, rest.1))

-- ---- parts of a list

not_left : (t : List ℕ) (xs ys : List Defined) → NotAmong t (xs ++ ys) → NotAmong t xs
not_left t [] ys h = tt
not_left t (x ∷ xs) ys h = (h.0, not_left t xs ys h.1)

not_right : (t : List ℕ) (xs ys : List Defined) → NotAmong t (xs ++ ys) → NotAmong t ys
not_right t [] ys h = h
not_right t (x ∷ xs) ys h = not_right t xs ys h.1

not_both : (t : List ℕ) (xs ys : List Defined) → NotAmong t xs → NotAmong t ys → NotAmong t (xs ++ ys)
not_both t [] ys h k = k
not_both t (x ∷ xs) ys h k = (h.0, not_both t xs ys h.1 k)

apart_left : (xs ys : List Defined) → Apart (xs ++ ys) → Apart xs
apart_left [] ys h = tt
apart_left (x ∷ xs) ys h = (not_left x.text xs ys h.0, apart_left xs ys h.1)

apart_right : (xs ys : List Defined) → Apart (xs ++ ys) → Apart ys
apart_right [] ys h = h
apart_right (x ∷ xs) ys h = apart_right xs ys h.1

apart_behind : (ps xs ys : List Defined) → ((t : List ℕ) → NotAmong t xs → NotAmong t ys) → Apart (ps ++ xs) → Apart ys → Apart (ps ++ ys)
apart_behind [] xs ys sub h k = k
apart_behind (p ∷ ps) xs ys sub h k =
    (not_both p.text ps ys (not_left p.text ps xs h.0) (sub p.text (not_right p.text ps xs h.0)), apart_behind ps xs ys sub h.1 k)

-- the first of each, and what is behind it
not_firsts : {X : Type 0} (g : X → Defined) (h : X → List Defined) (t : List ℕ) (xs : List X) → NotAmong t (flat_map (λ x. g x ∷ h x) xs) → NotAmong t (map g xs)
not_firsts g h t [] k = tt
not_firsts g h t (x ∷ xs) k = (k.0, not_firsts g h t xs (not_right t (h x) _ k.1))

firsts_apart : {X : Type 0} (g : X → Defined) (h : X → List Defined) (xs : List X) → Apart (flat_map (λ x. g x ∷ h x) xs) → Apart (map g xs)
firsts_apart g h [] k = tt
firsts_apart g h (x ∷ xs) k =
    (not_firsts g h (g x).text xs (not_right (g x).text (h x) _ k.0), firsts_apart g h xs (apart_right (h x) _ k.1))

not_rests : {X : Type 0} (g : X → Defined) (h : X → List Defined) (t : List ℕ) (xs : List X) → NotAmong t (flat_map (λ x. g x ∷ h x) xs) → NotAmong t (flat_map h xs)
not_rests g h t [] k = tt
not_rests g h t (x ∷ xs) k =
    not_both t (h x) (flat_map h xs) (not_left t (h x) _ k.1) (not_rests g h t xs (not_right t (h x) _ k.1))

rests_apart : {X : Type 0} (g : X → Defined) (h : X → List Defined) (xs : List X) → Apart (flat_map (λ x. g x ∷ h x) xs) → Apart (flat_map h xs)
rests_apart g h [] k = tt
rests_apart g h (x ∷ xs) k =
    apart_behind (h x) (flat_map (λ y. g y ∷ h y) xs) (flat_map h xs) (λ t n. not_rests g h t xs n) k.1
    (rests_apart g h xs (apart_right (h x) _ k.1))

-- ---- places

some_is : {A : Type 0} (x y : A) → Some x ≡ Some y → x ≡ y
some_is x y e = cc

not_at : (t : List ℕ) (xs : List Defined) (j : ℕ) (x : Defined) → NotAmong t xs → slice_get xs j ≡ Some x → x.text ≡ t → ⊥
not_at t [] j x h e = absurd (cc)
not_at t (y ∷ xs) zero x h e = λ same. h.0 (ap (λ (z : Defined). z.text) (some_is y x e) ∙ same)
not_at t (y ∷ xs) (suc j) x h e = not_at t xs j x h.1 e

apart_at : (xs : List Defined) (i j : ℕ) (x y : Defined) → Apart xs → slice_get xs i ≡ Some x → slice_get xs j ≡ Some y → x.text ≡ y.text → i ≡ j
apart_at [] i j x y h e f same = absurd (cc)
apart_at (z ∷ xs) zero zero x y h e f same = refl
apart_at (z ∷ xs) zero (suc j) x y h e f same = absurd (not_at z.text xs j y h.0 f (sym (ap (λ (w : Defined). w.text) (some_is z x e) ∙ same)))
apart_at (z ∷ xs) (suc i) zero x y h e f same = absurd (not_at z.text xs i x h.0 e (same ∙ sym (ap (λ (w : Defined). w.text) (some_is z y f))))
apart_at (z ∷ xs) (suc i) (suc j) x y h e f same = ap suc (apart_at xs i j x y h.1 e f same)

mapped_at : {X : Type 0} (g : X → Defined) (xs : List X) (i : ℕ) (x : X) → slice_get xs i ≡ Some x → slice_get (map g xs) i ≡ Some (g x)
mapped_at g [] i x e = absurd (cc)
mapped_at g (y ∷ xs) zero x e = ap (λ z. Some (g z)) (some_is y x e)
mapped_at g (y ∷ xs) (suc i) x e = mapped_at g xs i x e

-- ---- the registers of a system

abbrev base_name : BankWish → Defined
base_name w = name_of (csr_macro w.name (codes "_BASE")) w.line

abbrev addr_name : Register → Defined
addr_name r = name_of (csr_macro r.name (codes "_ADDR")) r.line

abbrev later_names : Register → List Defined
later_names r = name_of (csr_macro r.name (codes "_SIZE")) r.line ∷ (flat_map (field_names r) r.fields ++ accessors r.kind r)

abbrev own_names : Bank → List Defined
own_names b = flat_map register_names b.registers

names_of_wishes : (bs : List Bank) → map (λ (b : Bank). base_name b.wish) bs ≡ map base_name (wishes_of bs)
names_of_wishes [] = refl
names_of_wishes (b ∷ bs) = ap (λ xs. base_name b.wish ∷ xs) (names_of_wishes bs)

all_names : (bs : List Bank) → flat_map own_names bs ≡ flat_map register_names (all_registers bs)
all_names [] = refl
all_names (b ∷ bs) =
    ap (λ xs. own_names b ++ xs) (all_names bs) ∙ sym (flat_map-append register_names b.registers (all_registers bs))

banks_apart : (bs : List Bank) → Apart (flat_map bank_names bs) → AreDistinct (wishes_of bs)
banks_apart bs h = λ i j a b e f same.
    let apart = subst Apart (names_of_wishes bs) (firsts_apart (λ (x : Bank). base_name x.wish) own_names bs h) in
    apart_at (map base_name (wishes_of bs)) i j (base_name a) (base_name b) apart (mapped_at base_name (wishes_of bs) i a e) (mapped_at base_name (wishes_of bs) j b f)
    (ap (λ name. csr_macro name (codes "_BASE")) same)

registers_apart : (bs : List Bank) → Apart (flat_map bank_names bs) → AreNamedApart bs
registers_apart bs h = λ i j r q e f same.
    let rests = subst Apart (all_names bs) (rests_apart (λ (x : Bank). base_name x.wish) own_names bs h) in
    let apart = firsts_apart addr_name later_names (all_registers bs) rests in
    apart_at (map addr_name (all_registers bs)) i j (addr_name r) (addr_name q) apart (mapped_at addr_name (all_registers bs) i r e) (mapped_at addr_name (all_registers bs) j q f)
    (ap (λ name. codes "CSR_" ++ (name ++ codes "_ADDR")) same)

-- the names of the headers are apart where there is no fault
names_apart : (d : Description) → d.soc ≡ true → faults d ≡ [] → Apart (flat_map bank_names (banks d))
unfolding header_names
names_apart d soc e =
    let own : flat_map top_faults (top_parts d) ++ (name_faults d ++ flat_map bank_faults (banks d)) ≡ [] =
    ap (λ b. if b then flat_map top_faults (top_parts d) ++ (name_faults d ++ flat_map bank_faults (banks d)) else []) (sym soc) ∙ e in
    let a = no_parts (flat_map top_faults (top_parts d)) _ own in
    let b = no_parts (name_faults d) (flat_map bank_faults (banks d)) a.1 in
    let c = no_parts (taken_faults (taken_first true) (header_names d)) _ b.0 in
    apart_left (flat_map bank_names (banks d)) _ (untaken (taken_first true) (header_names d) c.0).1

pub sound_banks : (d : Description) (bs : List Bank) → d.soc ≡ true → faults d ≡ [] → bs ≡ banks d → AreDistinct (wishes_of bs)
sound_banks d bs soc e is = subst (λ xs. AreDistinct (wishes_of xs)) (sym is) (banks_apart (banks d) (names_apart d soc e))

pub sound_names : (d : Description) (bs : List Bank) → d.soc ≡ true → faults d ≡ [] → bs ≡ banks d → AreNamedApart bs
sound_names d bs soc e is = subst AreNamedApart (sym is) (registers_apart (banks d) (names_apart d soc e))
