-- Keys of a `Case` that were seen.
use Rattle.std.proofs.Common.{◌≡◌, ℕ, ℤ, Bool, true, false, cond, ◌||◌, List, [], ◌∷◌, ◌++◌, Option, Some, None, Result, Ok, Err, ◌<◌, ◌+◌, suc, length, drop, get_or, drop-cons, add-one, refl, sym, ap, ◌∙◌}
use Rattle.std.specs.List.{list_any}
use Rattle.std.specs.Option.{option_eq}
use Rattle.std.specs.Ordering.{int_eq}
use Rattle.indexmap.specs.IndexSet.{insert_key}
use Rattle.lx_text.specs.declared.faults.Kind.TheVariants as kind
use Rattle.lx_state.specs.declared.machine.Machine.{Machine}
use Rattle.lx_state.specs.declared.machine.Leaves.TheVariants as leaves
use Rattle.lx_state.specs.declared.machine.Pair.{Pair}
use Rattle.lx_state.specs.Step.{Outcome, Step, fault, give, go_on}
use Rattle.lx_objects.specs.Cases.{Key, case_key, key_of, keys_fit, new_key, pair_fits, same_key, with_key}
use Rattle.lx_objects.specs.Statements.{only}

same_is : (k j : Key) → option_eq int_eq k j ≡ same_key k j
same_is None None = refl
same_is None (Some b) = refl
same_is (Some a) None = refl
same_is (Some a) (Some b) = refl

pub has_is : (k : Key) (ks : List Key) → list_any (option_eq int_eq k) ks ≡ list_any (same_key k) ks
has_is k [] = refl
has_is k (j ∷ js) = ap (λ (b : Bool). b || list_any (option_eq int_eq k) js) (same_is k j) ∙ ap (λ (b : Bool). same_key k j || b) (has_is k js)

pub added_is : (k : Key) (ks : List Key) → insert_key (option_eq int_eq) ks k ≡ with_key k ks
added_is k ks = ap (λ (b : Bool). cond b ks (ks ++ k ∷ [])) (has_is k ks)

-- ---- a key that fits is new

abbrev first : Outcome Key → Key → Key
first (Ok r) d = r.0
first (Err f) d = d

new_one : (line : ℕ) (seen : List Key) (found : Option Key) (m : Machine) (k : Key) (n : Machine) → new_key line seen found m ≡ Ok (k, n) → list_any (same_key k) seen ≡ false
new_one line seen None m k n e = absurd cc
new_one line seen (Some j) m k n e = by (list_any (same_key j) seen) refl e
  where
    by : (b : Bool) → list_any (same_key j) seen ≡ b → cond {A = Step Key} b (fault line kind.BadKey) (give j) m ≡ Ok (k, n) → list_any (same_key k) seen ≡ false
    by true f g = absurd cc
    by false f g = let same : j ≡ k = ap (λ (o : Outcome Key). first o j) g in ap (λ (x : Key). list_any (same_key x) seen) (sym same) ∙ f

fits_new : (line : ℕ) (seen : List Key) (p : Pair) (m : Machine) (k : Key) (n : Machine) → pair_fits line seen p m ≡ Ok (k, n) → list_any (same_key k) seen ≡ false
unfolding pair_fits case_key
fits_new line seen p m k n e = by (new_key line seen (key_of m p.key) m) refl e
  where
    after : (j : Key) (o : Machine) (r : Outcome (Unit {0})) → go_on r (λ (u : Unit {0}) (q : Machine). Ok (j, q)) ≡ Ok (k, n) → j ≡ k
    after j o (Ok r) g = ap (λ (x : Outcome Key). first x j) g
    after j o (Err f) g = absurd cc

    by : (r : Outcome Key) → new_key line seen (key_of m p.key) m ≡ r → go_on r (λ (j : Key) (o : Machine). go_on (only leaves.StateStatements line (p.value ∷ []) o) (λ (u : Unit {0}) (q : Machine). Ok (j, q))) ≡ Ok (k, n) → list_any (same_key k) seen ≡ false
    by (Ok r) f g = ap (λ (x : Key). list_any (same_key x) seen) (sym (after r.0 r.1 (only leaves.StateStatements line (p.value ∷ []) r.1) g)) ∙ new_one line seen (key_of m p.key) m r.0 r.1 f
    by (Err x) f g = absurd cc

-- the keys behind a pair that fits
pub keys_next : (line : ℕ) (seen : List Key) (p : Pair) (ps : List Pair) (m : Machine) (k : Key) (n : Machine) → pair_fits line seen p m ≡ Ok (k, n)
    → keys_fit line (with_key k seen) ps n ≡ keys_fit line seen (p ∷ ps) m
unfolding keys_fit
keys_next line seen p ps m k n e =
    ap (λ (b : Bool). keys_fit line (cond b seen (seen ++ k ∷ [])) ps n) (fits_new line seen p m k n e)
    ∙ sym (ap (λ (r : Outcome Key). go_on r (λ (j : Key) (o : Machine). keys_fit line (seen ++ j ∷ []) ps o)) e)

pub keys_more : (line : ℕ) (seen : List Key) (ps : List Pair) (i : ℕ) (p : Pair) (m : Machine) (k : Key) (n : Machine) → i < length ps → pair_fits line seen (get_or ps i p) m ≡ Ok (k, n)
    → keys_fit line (with_key k seen) (drop (i + 1) ps) n ≡ keys_fit line seen (drop i ps) m
keys_more line seen ps i p m k n l e =
    keys_next line seen (get_or ps i p) (drop (i + 1) ps) m k n e
    ∙ sym (ap (λ (rest : List Pair). keys_fit line seen rest m) (drop-cons ps i p l ∙ ap (λ (j : ℕ). get_or ps i p ∷ drop j ps) (sym (add-one i))))
