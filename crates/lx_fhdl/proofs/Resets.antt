-- The resets of two domains are two signals.
use Rattle.std.proofs.Common.{◌≡◌, ℕ, zero, suc, true, List, [], ◌∷◌, Option, Some, None, map, not, refl, sym, ap, subst, ◌∙◌}
use Rattle.std.specs.Prelude.{slice_get, IfSome, codes}
use Rattle.std.specs.List.{list_any}
use Rattle.std.specs.Str.{bytes_eq}
use Rattle.std.proofs.lemmas.Bool.{and_parts, or_left, or_right, not-true}
use Rattle.std.proofs.lemmas.List.{append_cancel_right}
use Rattle.std.proofs.lemmas.Slice.Eq.{bytes_eq-Decides}
use Rattle.lx_fhdl.specs.Keeping.{EachOf, HasResetPath, IsReset, IsDomain, Keeps, is_distinct, reset_name}
use Rattle.lx_fhdl.specs.declared.exprs.SigId.{SigId}
use Rattle.lx_fhdl.specs.declared.design.Signal.{Signal}
use Rattle.lx_fhdl.specs.declared.design.Domain.{Domain}
use Rattle.lx_fhdl.specs.declared.design.Design.{Design}

-- a fact of each item of a list, at a place
pub each_of_at : {T : Type 0} (P : T → Type 0) (xs : List T) → EachOf P xs → (k : ℕ) (x : T) → slice_get xs k ≡ Some x → P x
each_of_at P [] h k x e = absurd (cc)
each_of_at P (y ∷ ys) h zero x e = let p : y ≡ x = cc in subst P p h.0
each_of_at P (y ∷ ys) h (suc k) x e = each_of_at P ys h.1 k x e

abbrev names : List Domain → List (List ℕ)
names ds = map (λ (x : Domain). x.name) ds

name_among : (n : List ℕ) (ds : List Domain) (k : ℕ) (y : Domain) → slice_get ds k ≡ Some y → n ≡ y.name → list_any (bytes_eq n) (names ds) ≡ true
name_among n [] k y e same = absurd (cc)
name_among n (d ∷ ds) zero y e same =
    let is : d ≡ y = cc in
    or_left (bytes_eq n d.name) (list_any (bytes_eq n) (names ds)) ((bytes_eq-Decides n d.name).1 (same ∙ ap (λ (z : Domain). z.name) (sym is)))
name_among n (d ∷ ds) (suc k) y e same = or_right (bytes_eq n d.name) (list_any (bytes_eq n) (names ds)) (name_among n ds k y e same)

alone : (n : List ℕ) (ds : List Domain) (k : ℕ) (y : Domain) → not (list_any (bytes_eq n) (names ds)) ≡ true → slice_get ds k ≡ Some y → n ≡ y.name → ⊥
alone n ds k y h e same = let p = not-true _ h in let q = name_among n ds k y e same in absurd (cc)

-- domains with one name have one place
same_place : (ds : List Domain) → is_distinct (names ds) ≡ true → (j k : ℕ) (x y : Domain) → slice_get ds j ≡ Some x → slice_get ds k ≡ Some y → x.name ≡ y.name → j ≡ k
same_place [] h j k x y e f same = absurd (cc)
same_place (d ∷ ds) h zero zero x y e f same = refl
same_place (d ∷ ds) h zero (suc k) x y e f same =
    let is : d ≡ x = cc in
    absurd (alone d.name ds k y (and_parts _ _ h).0 f (ap (λ (z : Domain). z.name) is ∙ same))
same_place (d ∷ ds) h (suc j) zero x y e f same =
    let is : d ≡ y = cc in
    absurd (alone d.name ds j x (and_parts _ _ h).0 e (ap (λ (z : Domain). z.name) is ∙ sym same))
same_place (d ∷ ds) h (suc j) (suc k) x y e f same = ap suc (same_place ds (and_parts _ _ h).1 j k x y e f same)

one_path : (x y : Domain) (o : Option Signal) → HasResetPath x o → HasResetPath y o → x.name ≡ y.name
one_path x y None p q = absurd p
one_path x y (Some s) p q =
    let both : reset_name x.name ∷ [] ≡ reset_name y.name ∷ [] = sym p ∙ q in
    let one : reset_name x.name ≡ reset_name y.name = cc in
    append_cancel_right x.name y.name (codes "_rst") one

reset_of : (d : Design) (x : Domain) (r : SigId) → IsDomain d x → x.reset ≡ Some r → IsReset d x r
reset_of d x r h e = subst (λ o. IfSome o (IsReset d x)) e h.reset

pub resets_differ : (d : Design) → Keeps d → (j k : ℕ) (x y : Domain) (r : SigId) → slice_get d.domains j ≡ Some x → slice_get d.domains k ≡ Some y → x.reset ≡ Some r → y.reset ≡ Some r → j ≡ k
resets_differ d keeps j k x y r e f p q =
    let first = reset_of d x r (each_of_at (IsDomain d) d.domains keeps.domains j x e) p in
    let second = reset_of d y r (each_of_at (IsDomain d) d.domains keeps.domains k y f) q in
    same_place d.domains keeps.domains_distinct j k x y e f (one_path x y (slice_get d.signals r.0) first.path second.path)
