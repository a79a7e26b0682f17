-- Fields at their places in a register.
use Rattle.std.proofs.Common.{◌≡◌, ◌∙◌, refl, sym, ap, subst, ℕ, zero, suc, ℤ, pos, negsuc, List, [], ◌∷◌, ◌++◌, Some, None, ◌+◌, ◌<◌, ◌≤◌, ◌≤ℤ◌, arith, length, drop, get_or, drop-cons, add-one, append_assoc}
use Rattle.std.proofs.lemmas.Bool.{le-leb, lt-leb}
use Rattle.std.proofs.lemmas.Int.{ints}
use Rattle.std.proofs.Math.Nat.{max-le, le-max_left, le-max_right}
use Rattle.lx_num.specs.Fields.{with_field_of}
use Rattle.lx_description.specs.declared.registers.Field.{Field}
use Rattle.lx_state.specs.declared.machine.FieldState.{FieldState}
use Rattle.lx_objects.specs.Registers.{fields_end, fitting, laid, laid_at, lowest}

-- whether fields lie in 64 bits
pub fits : (fs : List Field) → fields_end fs ≤ 64 → fitting fs ≡ Some fs
fits fs l = rw (le-leb (fields_end fs) 64 l) refl

passes : (fs : List Field) → 64 < fields_end fs → fitting fs ≡ None
passes fs l = rw (lt-leb (fields_end fs) 64 l) refl

-- one field more
pub end_more : (xs : List Field) (f : Field) → fields_end xs ≤ 64 → f.offset + f.size ≤ 64 → fields_end (xs ++ f ∷ []) ≤ 64
unfolding fields_end
end_more [] f e l = max-le l (omega arith)
end_more (x ∷ xs) f e l = max-le (omega (arith, le-max_left (x.offset + x.size) (fields_end xs), e)) (end_more xs f (omega (arith, le-max_right (x.offset + x.size) (fields_end xs), e)) l)

-- a field ends where all do, at most
pub end_within : (xs ys : List Field) (f : Field) → f.offset + f.size ≤ fields_end (xs ++ f ∷ ys)
unfolding fields_end
end_within [] ys f = le-max_left (f.offset + f.size) (fields_end ys)
end_within (x ∷ xs) ys f = omega (arith, end_within xs ys f, le-max_right (x.offset + x.size) (fields_end (xs ++ f ∷ ys)))

-- the field at a place, and those behind it
from_there : (fs : List FieldState) (i : ℕ) (f : FieldState) → i < length fs → f ≡ get_or fs i f → drop i fs ≡ f ∷ drop (i + 1) fs
from_there fs i f l e = drop-cons fs i f l ∙ ap (λ (j : ℕ). get_or fs i f ∷ drop j fs) (sym (add-one i)) ∙ ap (λ (x : FieldState). x ∷ drop (i + 1) fs) (sym e)

laid_from : (end : ℕ) (fs : List FieldState) (i : ℕ) (f : FieldState) (low : ℕ) → i < length fs → f ≡ get_or fs i f → low ≡ lowest end f
    → laid end (drop i fs) ≡ laid_at low f ∷ laid (low + f.size) (drop (i + 1) fs)
unfolding laid
laid_from end fs i f low l e k = ap (laid end) (from_there fs i f l e) ∙ ap (λ (n : ℕ). laid_at n f ∷ laid (n + f.size) (drop (i + 1) fs)) (sym k)

-- a further field is laid
pub lay_on : (done next all : List Field) (end : ℕ) (fs : List FieldState) (i : ℕ) (f : FieldState) (low : ℕ) → i < length fs → f ≡ get_or fs i f → low ≡ lowest end f
    → done ++ laid end (drop i fs) ≡ all → next ≡ done ++ laid_at low f ∷ [] → next ++ laid (low + f.size) (drop (i + 1) fs) ≡ all
lay_on done next all end fs i f low l e k is n =
    ap (λ (xs : List Field). xs ++ laid (low + f.size) (drop (i + 1) fs)) n
    ∙ append_assoc done (laid_at low f ∷ []) (laid (low + f.size) (drop (i + 1) fs))
    ∙ ap (λ (xs : List Field). done ++ xs) (sym (laid_from end fs i f low l e k))
    ∙ is

pub end_next : (done next : List Field) (f : Field) → next ≡ done ++ f ∷ [] → fields_end done ≤ 64 → f.offset + f.size ≤ 64 → fields_end next ≤ 64
end_next done next f n e l = rw n (end_more done f e l)

pub none_laid : (done : List Field) → done ≡ [] → fields_end done ≤ 64
unfolding fields_end
none_laid done e = rw e (omega arith)

-- a field past the last bit
pub lay_past : (done all : List Field) (end : ℕ) (fs : List FieldState) (i : ℕ) (f : FieldState) (low : ℕ) → i < length fs → f ≡ get_or fs i f → low ≡ lowest end f
    → done ++ laid end (drop i fs) ≡ all → 64 < low + f.size → fitting all ≡ None
lay_past done all end fs i f low l e k is past =
    let rest = laid (low + f.size) (drop (i + 1) fs) in
    let whole : done ++ laid_at low f ∷ rest ≡ all = ap (λ (xs : List Field). done ++ xs) (sym (laid_from end fs i f low l e k)) ∙ is in
    passes all (subst (λ (xs : List Field). 64 < fields_end xs) whole (omega (arith, past, end_within done rest (laid_at low f))))

pub end_there : (fs : List Field) (i : ℕ) (d : Field) → i < length fs → fields_end fs ≤ 64 → (get_or fs i d).offset + (get_or fs i d).size ≤ 64
unfolding fields_end
end_there [] i d l e = absurd (omega (arith, l))
end_there (f ∷ fs) zero d l e = omega (arith, le-max_left (f.offset + f.size) (fields_end fs), e)
end_there (f ∷ fs) (suc i) d l e = end_there fs i d (omega (arith, l)) (omega (arith, le-max_right (f.offset + f.size) (fields_end fs), e))

-- a field of no bits changes no number
pub nothing_laid : (z x : ℤ) (low len : ℕ) → pos 0 ≤ℤ z → len ≡ 0 → z ≡ with_field_of z low len x
nothing_laid (pos a) x low zero l e = grind arith
nothing_laid (negsuc a) x low len l e = absurd (omega (arith, ints, l))
nothing_laid z x low (suc len) l e = absurd (omega (arith, e))
