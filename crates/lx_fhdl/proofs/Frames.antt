-- A value written at one place leaves those at lower places.
use Rattle.std.proofs.Common.{◌≡◌, ◌≢◌, ℕ, true, ◌+◌, ◌-◌, ◌<◌, ◌≤◌, List, [], ◌∷◌, length, refl, sym, ◌∙◌, ap, subst, arith, inl, inr, ◌&&◌, nat_lt, set, get_or-set_other, get_or-set_same}
use Rattle.std.specs.Prelude.{ℤ, pos, Some, slice_get}
use Rattle.std.proofs.lemmas.Bool.{ltb-true, and_parts, cases_lt}
use Rattle.lx_num.specs.declared.Shape.{Shape}
use Rattle.lx_num.specs.Ints.{Fits, field_of, unsigned, wrapped}
use Rattle.lx_arena.specs.Lower.{EachLower}
use Rattle.lx_circuit.specs.Places.{Values, Word}
use Rattle.lx_circuit.specs.Values.{count_of, unary_value, binary_value, mux_value, cat_pattern, pick_value, replicate_value}
use Rattle.lx_fhdl.specs.Below.{ExprId, all_below, expr_below}
use Rattle.lx_fhdl.specs.Nodes.{shape_at, shapes_at, value_at, values_at, listed, node_value, IsFit, IsValued}
use Rattle.lx_fhdl.specs.declared.exprs.Expr.{Expr}
use Rattle.lx_fhdl.specs.declared.exprs.Expr.TheVariants.{Const, Sig, Unary, Binary, Mux, Cat, Pick, Replicate, Slice, Fetch}
use Rattle.lx_arena.proofs.Places.{lower_at}

values_same : (p q : List ℤ) (n : ℕ) (is : List ExprId) → ((k : ℕ) → k < n → value_at p k ≡ value_at q k) → all_below n is ≡ true → values_at p is ≡ values_at q is
values_same p q n [] h e = refl
values_same p q n (i ∷ is) h e =
    let w = and_parts (nat_lt i.place n) (all_below n is) e in
    ap (λ (z : ℤ). z ∷ values_at p is) (h i.place (ltb-true i.place n w.0))
    ∙ ap (λ (zs : List ℤ). value_at q i.place ∷ zs) (values_same p q n is h w.1)

-- a node's value hangs on lower places alone
pub value_same : (hs : List Shape) (v : Values) (p q : List ℤ) (n : ℕ) (x : Expr) → ((k : ℕ) → k < n → value_at p k ≡ value_at q k) → expr_below x n ≡ true → node_value hs v p x ≡ node_value hs v q x
value_same hs v p q n (Const value bits signed) h e = refl
value_same hs v p q n (Sig x) h e = refl
value_same hs v p q n (Unary op of) h e = ap (unary_value op (shape_at hs of.place)) (h of.place (ltb-true of.place n e))
value_same hs v p q n (Binary op left right) h e =
    let w = and_parts (nat_lt left.place n) (nat_lt right.place n) e in
    ap (λ (z : ℤ). binary_value op z (value_at p right.place)) (h left.place (ltb-true left.place n w.0))
    ∙ ap (binary_value op (value_at q left.place)) (h right.place (ltb-true right.place n w.1))
value_same hs v p q n (Mux cond then_ else_) h e =
    let w = and_parts (nat_lt cond.place n) (nat_lt then_.place n && nat_lt else_.place n) e in
    let u = and_parts (nat_lt then_.place n) (nat_lt else_.place n) w.1 in
    ap (λ (z : ℤ). mux_value z (value_at p then_.place) (value_at p else_.place)) (h cond.place (ltb-true cond.place n w.0))
    ∙ ap (λ (z : ℤ). mux_value (value_at q cond.place) z (value_at p else_.place)) (h then_.place (ltb-true then_.place n u.0))
    ∙ ap (mux_value (value_at q cond.place) (value_at q then_.place)) (h else_.place (ltb-true else_.place n u.1))
value_same hs v p q n (Cat parts) h e = ap (λ (zs : List ℤ). pos (cat_pattern (shapes_at hs parts) zs)) (values_same p q n parts h e)
value_same hs v p q n (Pick items index) h e =
    let w = and_parts (all_below n items) (nat_lt index.place n) e in
    ap (λ (zs : List ℤ). pick_value zs (value_at p index.place)) (values_same p q n items h w.0)
    ∙ ap (pick_value (values_at q items)) (h index.place (ltb-true index.place n w.1))
value_same hs v p q n (Replicate of count) h e = ap (replicate_value (shape_at hs of.place) count) (h of.place (ltb-true of.place n e))
value_same hs v p q n (Slice of low high) h e = ap (λ (z : ℤ). pos (field_of z low (high - low))) (h of.place (ltb-true of.place n e))
value_same hs v p q n (Fetch memory width at) h e = ap (λ (z : ℤ). wrapped (unsigned width) (v (Word memory (count_of z)))) (h at.place (ltb-true at.place n e))

below_same : (into : List ℤ) (n : ℕ) (v : ℤ) (k : ℕ) → k < n → value_at (set into n v) k ≡ value_at into k
below_same into n v k h = let ne : k ≢ n = omega arith in get_or-set_other into n k v (pos 0) ne

here_same : (into : List ℤ) (n : ℕ) (v : ℤ) → n < length into → value_at (set into n v) n ≡ v
here_same into n v h = get_or-set_same into n v (pos 0) h

-- the values below n + 1 stand, after that of n is written
pub values_kept : (xs : List Expr) (hs : List Shape) (vals into : List ℤ) (n : ℕ) (v : ℤ) → EachLower expr_below xs → n < length into
    → ((k : ℕ) → k < n → IsValued xs hs vals into k)
    → ((x : Expr) → slice_get xs n ≡ Some x → v ≡ node_value hs (listed vals) into x)
    → (k : ℕ) → k < n + 1 → IsValued xs hs vals (set into n v) k
values_kept xs hs vals into n v l w old new k h x e =
    let moved : (j : ℕ) → j ≤ n → ((i : ℕ) → i < j → value_at into i ≡ value_at (set into n v) i) = λ j g i b. sym (below_same into n v i (omega arith)) in
    elim (cases_lt k n) [
      | inl q ↦
          below_same into n v k q ∙ old k q x e ∙ value_same hs (listed vals) into (set into n v) k x (moved k (omega arith)) (lower_at expr_below xs l k x e)
      | inr q ↦
          let is : n ≡ k = omega arith in
          let at : slice_get xs n ≡ Some x = ap (λ (j : ℕ). slice_get xs j) is ∙ e in
          ap (λ (j : ℕ). value_at (set into n v) j) (sym is) ∙ here_same into n v w ∙ new x at
          ∙ value_same hs (listed vals) into (set into n v) n x (moved n (omega arith)) (lower_at expr_below xs l n x at)
    ]

pub fits_kept : (hs : List Shape) (into : List ℤ) (n : ℕ) (v : ℤ) → n < length into → ((k : ℕ) → k < n → IsFit hs into k) → Fits (shape_at hs n) v → (k : ℕ) → k < n + 1 → IsFit hs (set into n v) k
fits_kept hs into n v w old new k h =
    elim (cases_lt k n) [
      | inl q ↦ let P : ℤ → Type 0 = λ z. Fits (shape_at hs k) z in subst P (sym (below_same into n v k q)) (old k q)
      | inr q ↦
          let is : n ≡ k = omega arith in
          let P : ℤ → Type 0 = λ z. Fits (shape_at hs n) z in
          subst (λ (j : ℕ). IsFit hs (set into n v) j) is (subst P (sym (here_same into n v w)) new)
    ]
