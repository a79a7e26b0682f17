-- Tables that grow by a place.
use Rattle.std.proofs.Common.{◌≡◌, ℕ, ◌+◌, List, [], ◌∷◌, ◌++◌, length, ap, ◌∙◌, arith, inl, inr}
use Rattle.std.proofs.lemmas.Bool.{cases_lt}
use Rattle.std.proofs.lemmas.List.{get_or_append_left, get_or_push, length_push}
use Rattle.lx_kept.specs.Tables.{IsTable}

pub table_none : {T : Type 0} (none : T) (f : ℕ → T) (xs : List T) → xs ≡ [] → IsTable none f 0 xs
table_none none f xs e = record { long = ap length e; each = λ k l. absurd (omega arith) }

pub table_more : {T : Type 0} (none : T) (f : ℕ → T) (n : ℕ) (xs : List T) (x : T) → IsTable none f n xs → x ≡ f n → IsTable none f (n + 1) (xs ++ x ∷ [])
table_more none f n xs x h e = record {
  long = length_push xs x ∙ ap (λ (k : ℕ). k + 1) h.long;
  each = λ k l.
      elim (cases_lt k n) [
        | inl p ↦ get_or_append_left xs (x ∷ []) none k (omega (arith, h.long)) ∙ h.each k p
        | inr p ↦
            let q : n ≡ k = omega arith in
            get_or_push xs x none k (h.long ∙ q) ∙ e ∙ ap f q
      ];
}
