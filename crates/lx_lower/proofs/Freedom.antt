-- Expressions that name no signal, from the lowest on.
use Rattle.std.proofs.Common.{◌≡◌, ℕ, ◌+◌, Bool, false, List, [], ◌∷◌, ◌++◌, length, refl, sym, ap, ◌∙◌, arith, inl, inr}
use Rattle.std.specs.Prelude.{Some, slice_get}
use Rattle.lx_arena.specs.Lower.{EachLower}
use Rattle.lx_arena.proofs.Places.{lower_at}
use Rattle.lx_fhdl.proofs.Trees.{term_at-is}
use Rattle.std.proofs.lemmas.Bool.{cases_lt}
use Rattle.std.proofs.lemmas.List.{get_or_append_left, get_or_push, length_push}
use Rattle.lx_circuit.specs.Terms.{Term}
use Rattle.lx_fhdl.specs.Below.{ExprId, expr_below}
use Rattle.lx_fhdl.specs.Nodes.{EachPlace, EachChild}
use Rattle.lx_fhdl.specs.Trees.{terms_at, node_term, term_at}
use Rattle.lx_fhdl.specs.declared.exprs.Expr.{Expr}
use Rattle.lx_fhdl.specs.declared.exprs.Expr.TheVariants.{Const, Sig, Unary, Binary, Mux, Cat, Pick, Replicate, Slice, Fetch}
use Rattle.lx_fhdl.proofs.Arena.{each_child}
use Rattle.lx_lowering.specs.Constants.{names_none, all_name_none}
use Rattle.lx_lower.specs.Fixed.{free_at, all_free, node_free, AreFree}

-- a list says of a tree whether it names no signal
abbrev pub Tells : List Bool → (ℕ → Term) → ℕ → Type 0
Tells free t k = free_at free k ≡ names_none (t k)

parts_free : (free : List Bool) (t : ℕ → Term) (is : List ExprId) → EachPlace (Tells free t) is → all_free free is ≡ all_name_none (terms_at t is)
parts_free free t [] h = refl
parts_free free t (i ∷ is) h = rw (h.0, parts_free free t is h.1) refl

pub node_tells : (free : List Bool) (t : ℕ → Term) (x : Expr) → EachChild (Tells free t) x → node_free free x ≡ names_none (node_term t x)
node_tells free t (Const value bits signed) h = refl
node_tells free t (Sig x) h = refl
node_tells free t (Unary op of) h = h
node_tells free t (Binary op left right) h = rw (h.0, h.1) refl
node_tells free t (Mux cond then_ else_) h = rw (h.0, h.1.0, h.1.1) refl
node_tells free t (Cat parts) h = parts_free free t parts h
node_tells free t (Pick items index) h = rw (parts_free free t items h.0, h.1) refl
node_tells free t (Replicate of count) h = h
node_tells free t (Slice of low high) h = h
node_tells free t (Fetch memory width at) h = refl

pub free_none : (xs : List Expr) (free : List Bool) → free ≡ [] → AreFree xs 0 free
free_none xs free e = record { long = ap length e; each = λ k l. absurd (omega arith) }

-- the next expression is told by its tree
pub free_more : (xs : List Expr) (n : ℕ) (free : List Bool) (b : Bool) → AreFree xs n free → b ≡ names_none (term_at xs n) → AreFree xs (n + 1) (free ++ b ∷ [])
free_more xs n free b h e = record {
  long = length_push free b ∙ ap (λ (k : ℕ). k + 1) h.long;
  each = λ k l.
      elim (cases_lt k n) [
        | inl p ↦ get_or_append_left free (b ∷ []) false k (omega (arith, h.long)) ∙ h.each k p
        | inr p ↦
            let q : n ≡ k = omega arith in
            get_or_push free b false k (h.long ∙ q) ∙ e ∙ ap (λ (j : ℕ). names_none (term_at xs j)) q
      ];
}

pub free_next : (xs : List Expr) (n : ℕ) (free : List Bool) (x : Expr) (b : Bool) → EachLower expr_below xs → AreFree xs n free → slice_get xs n ≡ Some x → b ≡ node_free free x → AreFree xs (n + 1) (free ++ b ∷ [])
free_next xs n free x b low h at e =
    free_more xs n free b h
    (e ∙ node_tells free (term_at xs) x (each_child (Tells free (term_at xs)) n x h.each (lower_at expr_below xs low n x at)) ∙ ap names_none (sym (term_at-is xs low n x at)))
