-- The arena without expressions that read words.
use Rattle.std.proofs.Common.{◌≡◌, ℕ, ◌+◌, List, [], ◌∷◌, ◌++◌, length, sym, ap, ◌∙◌, subst, arith, inl, inr}
use Rattle.std.specs.Prelude.{Some, slice_get, IsTrue}
use Rattle.std.proofs.lemmas.Bool.{cases_lt}
use Rattle.std.proofs.lemmas.List.{length_push}
use Rattle.lx_arena.proofs.Places.{get_front, get_last}
use Rattle.lx_fhdl.specs.Below.{expr_below}
use Rattle.lx_fhdl.specs.declared.exprs.Expr.{Expr}
use Rattle.lx_fhdl.specs.declared.exprs.Expr.TheVariants.{Const, Sig, Unary, Binary, Mux, Cat, Pick, Replicate, Slice, Fetch}
use Rattle.lx_sim.specs.Words.{AreWithoutWords, without_words}

pub none_without : (xs ys : List Expr) → ys ≡ [] → AreWithoutWords xs 0 ys
none_without xs ys e = record { long = ap length e; each = λ k x l. absurd (omega arith) }

below : (x : Expr) (n : ℕ) → IsTrue (expr_below x n) → IsTrue (expr_below (without_words x) n)
below (Fetch memory width at) n h = search
below (Const value bits signed) n h = h
below (Sig y) n h = h
below (Unary op of) n h = h
below (Binary op left right) n h = h
below (Mux cond then_ else_) n h = h
below (Cat parts) n h = h
below (Pick items index) n h = h
below (Replicate of count) n h = h
below (Slice of low high) n h = h

pub without_below : (x node : Expr) (n : ℕ) → node ≡ without_words x → IsTrue (expr_below x n) → IsTrue (expr_below node n)
without_below x node n e h = subst (λ (y : Expr). IsTrue (expr_below y n)) (sym e) (below x n h)

pub one_without : (xs ys zs : List Expr) (n : ℕ) (x node : Expr) → AreWithoutWords xs n ys → slice_get xs n ≡ Some x → node ≡ without_words x → zs ≡ ys ++ node ∷ [] → AreWithoutWords xs (n + 1) zs
one_without xs ys zs n x node h at e f = subst (AreWithoutWords xs (n + 1)) (sym f) (record {
  long = omega (arith, length_push ys node, h.long);
  each = λ k z l g.
      elim (cases_lt k n) [
        | inl p ↦ get_front ys (node ∷ []) k (omega (arith, h.long)) ∙ h.each k z p g
        | inr p ↦
            let q : n ≡ k = omega arith in
            let r : length ys ≡ k = omega (arith, h.long) in
            let same : x ≡ z = cc in
            subst (λ (j : ℕ). slice_get (ys ++ node ∷ []) j ≡ Some (without_words z)) r (get_last ys node ∙ ap Some (e ∙ ap without_words same))
      ];
})
