-- Banks of distinct names.
use Rattle.std.proofs.Common.{◌≡◌, ℕ, suc, zero, ◌+◌, ◌<◌, ◌≤◌, Bool, true, false, List, [], ◌∷◌, length, take, get_or, Option, Some, None, ◌⊎◌, inl, inr, refl, arith, ap, sym, subst, ◌∙◌}
use Rattle.std.specs.Prelude.{slice_get}
use Rattle.std.specs.List.{list_any}
use Rattle.std.specs.Str.{bytes_eq}
use Rattle.std.proofs.lemmas.Slice.Eq.{bytes_eq-Decides}
use Rattle.std.proofs.lemmas.Option.{slice_get_within, slice_get_read}
use Rattle.std.proofs.lemmas.Bool.{or_cases, cases_lt, cases_eq, cases_Bool, false≢true}
use Rattle.lx_fhdl.specs.declared.places.BankWish.{BankWish}
use Rattle.lx_alloc.specs.Numbers.{AreDistinct}

-- no two of the first i banks have one name
abbrev pub DistinctBelow : List BankWish → ℕ → Type 0
DistinctBelow bs i = (p q : ℕ) (a b : BankWish) → p < q → q < i → slice_get bs p ≡ Some a → slice_get bs q ≡ Some b → a.name ≡ b.name → ⊥

any_at : (bs : List BankWish) (i p : ℕ) (a : BankWish) (name : List ℕ) → p < i → slice_get bs p ≡ Some a → a.name ≡ name →
    list_any (λ b. bytes_eq b.name name) (take i bs) ≡ true
any_at [] i p a name l e same = cc
any_at (b ∷ bs) zero p a name l e same = absurd (omega arith)
any_at (b ∷ bs) (suc i) zero a name l e same =
    let own : b ≡ a = cc in
    rw ((bytes_eq-Decides b.name name).1 (ap (λ z. z.name) own ∙ same)) refl
any_at (b ∷ bs) (suc i) (suc p) a name l e same = elim (cases_Bool (bytes_eq b.name name)) [
  | inl here ↦ rw here refl
  | inr other ↦ rw other (any_at bs i p a name (omega arith) e same)
]

record IsNamed (bs : List BankWish) (i : ℕ) (name : List ℕ) : Type 0 where
  at : ℕ
  bank : BankWish
  below : at < i
  stands : slice_get bs at ≡ Some bank
  named : bank.name ≡ name

at_any : (bs : List BankWish) (i : ℕ) (name : List ℕ) → list_any (λ b. bytes_eq b.name name) (take i bs) ≡ true → IsNamed bs i name
at_any [] zero name e = absurd (false≢true e)
at_any [] (suc i) name e = absurd (false≢true e)
at_any (b ∷ bs) zero name e = absurd (false≢true e)
at_any (b ∷ bs) (suc i) name e = elim (or_cases (bytes_eq b.name name) _ e) [
  | inl here ↦ record { at = 0; bank = b; below = omega arith; stands = refl; named = (bytes_eq-Decides b.name name).0 here }
  | inr later ↦
      let rest = at_any bs i name later in
      record { at = suc rest.at; bank = rest.bank; below = omega (arith, rest.below); stands = rest.stands; named = rest.named }
]

pub distinct_more : (bs : List BankWish) (i : ℕ) (x : BankWish) → i < length bs → x ≡ get_or bs i x → DistinctBelow bs i →
    list_any (λ b. bytes_eq b.name x.name) (take i bs) ≡ false → DistinctBelow bs (i + 1)
distinct_more bs i x l read before none p q a b less within e f same = elim (cases_lt q i) [
  | inl early ↦ before p q a b less early e f same
  | inr last ↦
      let here : q ≡ i = omega arith in
      let at = slice_get_read bs (length bs) i x refl l read in
      let g = ap (slice_get bs) here in
      let own : b ≡ x = cc in
      false≢true (sym none ∙ any_at bs i p a x.name (omega arith) e (same ∙ ap (λ z. z.name) own))
]

pub distinct_not : (bs : List BankWish) (i : ℕ) (x : BankWish) → i < length bs → x ≡ get_or bs i x →
    list_any (λ b. bytes_eq b.name x.name) (take i bs) ≡ true → AreDistinct bs → ⊥
distinct_not bs i x l read some distinct =
    let found = at_any bs i x.name some in
    let same = distinct found.at i found.bank x found.stands (slice_get_read bs (length bs) i x refl l read) found.named in
    omega (arith, same, found.below)

pub distinct_all : (bs : List BankWish) → DistinctBelow bs (length bs) → AreDistinct bs
distinct_all bs below i j a b e f same = elim (cases_eq i j) [
  | inl equal ↦ equal
  | inr ne ↦ elim (cases_lt i j) [
    | inl less ↦ absurd (below i j a b less (slice_get_within bs j b f) e f same)
    | inr more ↦ absurd (below j i b a (omega arith) (slice_get_within bs i a e) f e (sym same))
  ]
]
