-- The tree that hangs at a place of an arena.
use Rattle.std.specs.Prelude.{ℕ, pos, List, [], ◌∷◌}
use Rattle.lx_num.specs.Ints.{shape, unsigned}
use Rattle.lx_arena.specs.Folds.{fold_at}
use Rattle.lx_circuit.specs.Terms as term
use Rattle.lx_circuit.specs.Terms.{Term, Terms, NoTerm, MoreTerms}
use Rattle.lx_fhdl.specs.Below.{ExprId}
use Rattle.lx_fhdl.specs.declared.exprs.Expr.{Expr}
use Rattle.lx_fhdl.specs.declared.exprs.Expr.TheVariants.{Const, Sig, Unary, Binary, Mux, Cat, Pick, Replicate, Slice, Fetch}

abbrev pub terms_at : (ℕ → Term) → List ExprId → Terms
terms_at t [] = NoTerm
terms_at t (i ∷ is) = MoreTerms (t i.place) (terms_at t is)

-- the tree of a node, from the trees of its children
abbrev pub node_term : (ℕ → Term) → Expr → Term
node_term t (Const value bits signed) = term.Constant value (shape bits signed)
node_term t (Sig x) = term.Signal x.0
node_term t (Unary op of) = term.Unary op (t of.place)
node_term t (Binary op left right) = term.Binary op (t left.place) (t right.place)
node_term t (Mux cond then_ else_) = term.Mux (t cond.place) (t then_.place) (t else_.place)
node_term t (Cat parts) = term.Cat (terms_at t parts)
node_term t (Pick items index) = term.Pick (terms_at t items) (t index.place)
node_term t (Replicate of count) = term.Replicate (t of.place) count
node_term t (Slice of low high) = term.Slice (t of.place) low high
node_term t (Fetch memory width at) = term.Fetch memory width (t at.place)

-- what stands where no node is
abbrev pub no_term : Term
no_term = term.Constant (pos 0) (unsigned 1)

-- the tree at a place, whose children are lower
unfoldable pub term_at : List Expr → ℕ → Term
term_at xs k = fold_at no_term node_term xs k
