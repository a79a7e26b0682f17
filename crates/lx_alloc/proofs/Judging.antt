-- Faults looked for one after another.
use Rattle.std.proofs.Common.{◌≡◌, ℕ, suc, zero, ◌+◌, ◌<◌, List, [], ◌∷◌, ◌++◌, length, get_or, take, Option, Some, None, refl, arith, ap, sym, subst, ◌∙◌, append_assoc, add-one}
use Rattle.std.specs.Prelude.{flat_map}
use Rattle.std.proofs.lemmas.List.{append-nil}
use Rattle.lx_text.specs.declared.faults.Fault.{Fault}
use Rattle.lx_text.specs.declared.faults.Refusal.{Refusal}
use Rattle.lx_text.specs.declared.faults.Refusal.TheVariants as refusal
use Rattle.lx_alloc.specs.Judged.{first, Refused, each_pair}

pub no_parts : (a b : List Fault) → a ++ b ≡ [] → (a ≡ []) × (b ≡ [])
no_parts [] b e = (refl, e)
no_parts (f ∷ a) b e = cc

pub refused_left : (a b : List Fault) (e : Refusal) → Refused a e → Refused (a ++ b) e
refused_left [] b (refusal.Fault f) h = cc
refused_left (g ∷ a) b (refusal.Fault f) h = h
refused_left a b refusal.NoMemory h = tt

pub refused_right : (a b : List Fault) (e : Refusal) → a ≡ [] → Refused b e → Refused (a ++ b) e
refused_right a b e none h = subst (λ z. Refused (z ++ b) e) (sym none) h

pub none_both : (a b : List Fault) → a ≡ [] → b ≡ [] → a ++ b ≡ []
none_both a b e f = ap (λ z. z ++ b) e ∙ f

-- faults of elements
pub flat_more : {X : Type 0} (f : X → List Fault) (xs : List X) (i : ℕ) (d : X) → i < length xs →
    flat_map f (take i xs) ≡ [] → f (get_or xs i d) ≡ [] → flat_map f (take (suc i) xs) ≡ []
flat_more f [] i d l before here = absurd (omega arith)
flat_more f (x ∷ xs) zero d l before here = none_both (f x) [] here refl
flat_more f (x ∷ xs) (suc i) d l before here =
    let parts = no_parts (f x) _ before in
    none_both (f x) _ parts.0 (flat_more f xs i d (omega arith) parts.1 here)

pub flat_exit : {X : Type 0} (f : X → List Fault) (xs : List X) (i : ℕ) (d : X) (e : Refusal) → i < length xs →
    flat_map f (take i xs) ≡ [] → Refused (f (get_or xs i d)) e → Refused (flat_map f xs) e
flat_exit f [] i d e l before here = absurd (omega arith)
flat_exit f (x ∷ xs) zero d e l before here = refused_left (f x) (flat_map f xs) e here
flat_exit f (x ∷ xs) (suc i) d e l before here =
    let parts = no_parts (f x) _ before in
    refused_right (f x) (flat_map f xs) e parts.0 (flat_exit f xs i d e (omega arith) parts.1 here)

-- faults of pairs
pub pairs_more : {X : Type 0} (f : X → X → List Fault) (before xs : List X) (i : ℕ) (d : X) → i < length xs →
    each_pair f before (take i xs) ≡ [] → flat_map (f (get_or xs i d)) (before ++ take i xs) ≡ [] → each_pair f before (take (suc i) xs) ≡ []
pairs_more f before [] i d l none here = absurd (omega arith)
pairs_more f before (x ∷ xs) zero d l none here =
    none_both (flat_map (f x) before) [] (ap (flat_map (f x)) (sym (append-nil before)) ∙ here) refl
pairs_more f before (x ∷ xs) (suc i) d l none here =
    let parts = no_parts (flat_map (f x) before) _ none in
    none_both (flat_map (f x) before) _ parts.0
    (pairs_more f (before ++ x ∷ []) xs i d (omega arith) parts.1 (ap (flat_map (f (get_or xs i d))) (append_assoc before (x ∷ []) (take i xs)) ∙ here))

pub pairs_exit : {X : Type 0} (f : X → X → List Fault) (before xs : List X) (i : ℕ) (d : X) (e : Refusal) → i < length xs →
    each_pair f before (take i xs) ≡ [] → Refused (flat_map (f (get_or xs i d)) (before ++ take i xs)) e → Refused (each_pair f before xs) e
pairs_exit f before [] i d e l none here = absurd (omega arith)
pairs_exit f before (x ∷ xs) zero d e l none here =
    refused_left (flat_map (f x) before) _ e (subst (λ z. Refused (flat_map (f x) z) e) (append-nil before) here)
pairs_exit f before (x ∷ xs) (suc i) d e l none here =
    let parts = no_parts (flat_map (f x) before) _ none in
    refused_right (flat_map (f x) before) _ e parts.0
    (pairs_exit f (before ++ x ∷ []) xs i d e (omega arith) parts.1
    (subst (λ z. Refused (flat_map (f (get_or xs i d)) z) e) (sym (append_assoc before (x ∷ []) (take i xs))) here))

-- the same at an element that was read
pub flat_exit_at : {X : Type 0} (f : X → List Fault) (xs : List X) (i : ℕ) (x : X) (e : Refusal) → i < length xs → x ≡ get_or xs i x →
    flat_map f (take i xs) ≡ [] → Refused (f x) e → Refused (flat_map f xs) e
flat_exit_at f xs i x e l same before here = flat_exit f xs i x e l before (subst (λ z. Refused (f z) e) same here)

pub pairs_exit_at : {X : Type 0} (f : X → X → List Fault) (xs : List X) (i : ℕ) (x : X) (e : Refusal) → i < length xs → x ≡ get_or xs i x →
    each_pair f [] (take i xs) ≡ [] → Refused (flat_map (f x) (take i xs)) e → Refused (each_pair f [] xs) e
pairs_exit_at f xs i x e l same before here = pairs_exit f [] xs i x e l before (subst (λ z. Refused (flat_map (f z) (take i xs)) e) same here)

pub pairs_more_at : {X : Type 0} (f : X → X → List Fault) (xs : List X) (i : ℕ) (x : X) → i < length xs → x ≡ get_or xs i x →
    each_pair f [] (take i xs) ≡ [] → flat_map (f x) (take i xs) ≡ [] → each_pair f [] (take (i + 1) xs) ≡ []
pairs_more_at f xs i x l same before here =
    rw add-one (pairs_more f [] xs i x l before (ap (λ z. flat_map (f z) (take i xs)) (sym same) ∙ here))

pub flat_more_at : {X : Type 0} (f : X → List Fault) (xs : List X) (i : ℕ) (x : X) → i < length xs → x ≡ get_or xs i x →
    flat_map f (take i xs) ≡ [] → f x ≡ [] → flat_map f (take (i + 1) xs) ≡ []
flat_more_at f xs i x l same before here = rw add-one (flat_more f xs i x l before (ap f (sym same) ∙ here))
