-- The names of the modules around an object, level by level, and the path that they make.
use Rattle.std.proofs.Common.{◌≡◌, ◌∙◌, refl, sym, ap, arith, ℕ, zero, suc, ◌+◌, List, [], ◌∷◌, ◌++◌, map, reverse, Option, Some, None, option_to_list}
use Rattle.std.proofs.lemmas.List.{append_assoc, map-append, reverse-append}
use Rattle.lx_state.specs.declared.machine.Machine.{Machine}
use Rattle.lx_state.specs.declared.machine.Object.{Object}
use Rattle.lx_paths.specs.Paths.{maker_below, modules_around, own_name}

pub no_level : (m : Machine) (n : ℕ) (o : Object) → n ≡ 0 → modules_around m n o ≡ []
unfolding modules_around
no_level m zero o e = refl
no_level m (suc n) o e = absurd (omega (arith, e))

pub no_maker : (m : Machine) (n : ℕ) (o : Object) → maker_below m o.maker ≡ None → modules_around m n o ≡ []
unfolding modules_around
no_maker m zero o e = refl
no_maker m (suc n) o e = rw e refl

pub next_level : (m : Machine) (n k : ℕ) (o x : Object) → n ≡ k + 1 → maker_below m o.maker ≡ Some x → modules_around m n o ≡ modules_around m k x ++ x ∷ []
unfolding modules_around
next_level m zero k o x e f = absurd (omega (arith, e))
next_level m (suc n) k o x e f = let same : n ≡ k = omega (arith, e) in rw (f, same) refl

-- the names around an object, before names that stand already in the other order
abbrev pub named_around : Machine → ℕ → Object → List (List ℕ) → List (List ℕ)
named_around m n o names = map (own_name m) (modules_around m n o) ++ reverse names

pub one_more : {A : Type 0} (xs names : List A) (x : A) → (xs ++ x ∷ []) ++ reverse names ≡ xs ++ reverse (names ++ x ∷ [])
one_more xs names x = append_assoc xs (x ∷ []) (reverse names) ∙ ap (λ ys. xs ++ ys) (sym (reverse-append names (x ∷ [])))

pub name_next : (m : Machine) (n k : ℕ) (o x : Object) (names : List (List ℕ)) → n ≡ k + 1 → maker_below m o.maker ≡ Some x → named_around m k x (names ++ own_name m x ∷ []) ≡ named_around m n o names
name_next m n k o x names e f =
    sym (ap (λ os. map (own_name m) os ++ reverse names) (next_level m n k o x e f)
    ∙ ap (λ ns. ns ++ reverse names) (map-append (own_name m) (modules_around m k x) (x ∷ []))
    ∙ one_more (map (own_name m) (modules_around m k x)) names (own_name m x))

pub no_name : (m : Machine) (n : ℕ) (o : Object) (names : List (List ℕ)) → modules_around m n o ≡ [] → named_around m n o names ≡ reverse names
no_name m n o names e = rw e refl

-- a list of one item or none
pub reverse_part : {A : Type 0} (part : Option A) → reverse (option_to_list part) ≡ option_to_list part
reverse_part None = refl
reverse_part (Some x) = refl

pub path_is : (m : Machine) (around : List Object) (o : Object) (part : Option (List ℕ)) → map (own_name m) around ++ reverse (option_to_list part ++ own_name m o ∷ []) ≡ map (own_name m) (around ++ o ∷ []) ++ option_to_list part
path_is m around o part =
    sym (one_more (map (own_name m) around) (option_to_list part) (own_name m o))
    ∙ ap (λ ps. (map (own_name m) around ++ own_name m o ∷ []) ++ ps) (reverse_part part)
    ∙ ap (λ ns. ns ++ option_to_list part) (sym (map-append (own_name m) around (o ∷ [])))
