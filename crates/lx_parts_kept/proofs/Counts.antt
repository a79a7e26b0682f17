-- Numbers that are counted, as far as 2, and registers, as far as 1,000,001.
use Rattle.std.proofs.Common.{◌≡◌, ℕ, zero, suc, ◌+◌, ◌<◌, ◌≤◌, Bool, true, false, List, [], ◌∷◌, ◌++◌, length, replicate, get_or, take, min, nat_eq, nat_le, refl, sym, ap, subst, ◌∙◌, arith, eq-eqb, inl, inr, if◌then◌else◌}
use Rattle.std.proofs.lemmas.Bool.{cases_eq, cases_lt, le-leb, lt-leb, ne_eqb}
use Rattle.std.proofs.lemmas.List.{get_or-set_same, get_or-set_other, length-set, take_all, take_more}
use Rattle.lx_description.specs.Keeping.{times}
use Rattle.lx_parts_kept.specs.Tables.{AreCounts, counted}

none_at : (n x : ℕ) → get_or (replicate n zero) x zero ≡ zero
none_at zero x = refl
none_at (suc n) zero = refl
none_at (suc n) (suc x) = none_at n x

pub counts_none : (counts : List ℕ) → counts ≡ replicate (length counts) 0 → AreCounts (length counts) [] counts
counts_none counts e = record { long = refl; each = λ k l. ap (λ (c : List ℕ). get_or c k 0) e ∙ none_at (length counts) k }

more_itself : (b : Bool) (s t : ℕ) → s ≡ t + 1 → (if b then 1 + s else s) ≡ (if b then 1 + t else t) + 1
more_itself true s t e = omega arith
more_itself false s t e = e

times_itself : (x : ℕ) (xs : List ℕ) → times x (xs ++ x ∷ []) ≡ times x xs + 1
times_itself x [] = rw (eq-eqb x x refl) refl
times_itself x (y ∷ ys) = more_itself (nat_eq y x) (times x (ys ++ x ∷ [])) (times x ys) (times_itself x ys)

times_other : (k x : ℕ) (xs : List ℕ) → nat_eq x k ≡ false → times k (xs ++ x ∷ []) ≡ times k xs
times_other k x [] e = rw e refl
times_other k x (y ∷ ys) e = ap (λ (n : ℕ). if nat_eq y k then 1 + n else n) (times_other k x ys e)

counts_next : (n : ℕ) (xs counts : List ℕ) (x : ℕ) → AreCounts n xs counts → AreCounts n (xs ++ x ∷ []) (counted counts x)
counts_next n xs counts x h = record {
  long = length-set counts x (min (get_or counts x 0 + 1) 2) ∙ h.long;
  each = λ k l.
      elim (cases_eq x k) [
        | inl e ↦
            let own = h.each k l in
            rw e (get_or-set_same counts k (min (get_or counts k 0 + 1) 2) 0 (omega (arith, h.long)) ∙ rw (own, times_itself k xs) (omega arith))
        | inr e ↦ get_or-set_other counts x k (min (get_or counts x 0 + 1) 2) 0 (λ q. e (sym q)) ∙ h.each k l ∙ ap (λ (t : ℕ). min t 2) (sym (times_other k x xs (ne_eqb x k e)))
      ];
}

pub counts_more : (n : ℕ) (xs : List ℕ) (i : ℕ) (counts new : List ℕ) (d : ℕ) → i < length xs → new ≡ counted counts (get_or xs i d) → AreCounts n (take i xs) counts → AreCounts n (take (i + 1) xs) new
counts_more n xs i counts new d l e h = rw (e, take_more xs i d l) (counts_next n (take i xs) counts (get_or xs i d) h)

pub counts_done : (n : ℕ) (xs : List ℕ) (i : ℕ) (counts : List ℕ) → length xs ≤ i → AreCounts n (take i xs) counts → AreCounts n xs counts
counts_done n xs i counts l h = subst (λ (ys : List ℕ). AreCounts n ys counts) (take_all i xs l) h

one_tells : (t : ℕ) → nat_eq (min t 2) 1 ≡ nat_eq t 1
one_tells t =
    elim (cases_lt t 2) [
      | inl h ↦ let e : min t 2 ≡ t = omega arith in ap (λ (k : ℕ). nat_eq k 1) e
      | inr h ↦ let e : min t 2 ≡ 2 = omega arith in ap (λ (k : ℕ). nat_eq k 1) e ∙ sym (ne_eqb t 1 (λ q. omega arith))
    ]

pub once_told : (n : ℕ) (xs counts : List ℕ) (k : ℕ) → AreCounts n xs counts → k < n → nat_eq (get_or counts k 0) 1 ≡ nat_eq (times k xs) 1
once_told n xs counts k h l = ap (λ (t : ℕ). nat_eq t 1) (h.each k l) ∙ one_tells (times k xs)

pub registers_tell : (n : ℕ) → nat_le (min n 1000001) 1000000 ≡ nat_le n 1000000
registers_tell n =
    elim (cases_lt 1000000 n) [
      | inl h ↦ let more : 1000000 < min n 1000001 = omega arith in lt-leb (min n 1000001) 1000000 more ∙ sym (lt-leb n 1000000 h)
      | inr h ↦ let flat : min n 1000001 ≤ 1000000 = omega arith in le-leb (min n 1000001) 1000000 flat ∙ sym (le-leb n 1000000 h)
    ]
