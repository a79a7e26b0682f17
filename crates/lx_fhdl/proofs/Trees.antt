-- The tree at a place is made of the trees at the places of its children.
use Rattle.std.proofs.Common.{◌≡◌, ℕ, true, List, [], ◌∷◌, ◌++◌, length, Some, refl, ◌∙◌, ap, ◌&&◌, nat_lt}
use Rattle.std.specs.Prelude.{slice_get}
use Rattle.std.proofs.lemmas.Bool.{ltb-true, and_parts}
use Rattle.lx_arena.specs.Lower.{EachLower}
use Rattle.lx_arena.specs.Folds.{Same, IsLocal, Added}
use Rattle.lx_arena.proofs.Folds.{fold_at-is, added_by}
use Rattle.lx_circuit.specs.Terms as term
use Rattle.lx_circuit.specs.Terms.{Term, Terms, NoTerm, MoreTerms}
use Rattle.lx_fhdl.specs.Below.{ExprId, all_below, expr_below}
use Rattle.lx_fhdl.specs.Trees.{terms_at, node_term, no_term, term_at}
use Rattle.lx_fhdl.specs.declared.exprs.Expr.{Expr}
use Rattle.lx_fhdl.specs.declared.exprs.Expr.TheVariants.{Const, Sig, Unary, Binary, Mux, Cat, Pick, Replicate, Slice, Fetch}

-- two families of trees that agree below n
terms_same : (t u : ℕ → Term) (n : ℕ) (is : List ExprId) → Same t u n → all_below n is ≡ true → terms_at t is ≡ terms_at u is
terms_same t u n [] h e = refl
terms_same t u n (i ∷ is) h e =
    let p = and_parts (nat_lt i.place n) (all_below n is) e in
    ap (λ (x : Term). MoreTerms x (terms_at t is)) (h i.place (ltb-true i.place n p.0))
    ∙ ap (MoreTerms (u i.place)) (terms_same t u n is h p.1)

pub node_same : (t u : ℕ → Term) (n : ℕ) (x : Expr) → Same t u n → expr_below x n ≡ true → node_term t x ≡ node_term u x
node_same t u n (Const value bits signed) h e = refl
node_same t u n (Sig x) h e = refl
node_same t u n (Unary op of) h e = ap (term.Unary op) (h of.place (ltb-true of.place n e))
node_same t u n (Binary op left right) h e =
    let p = and_parts (nat_lt left.place n) (nat_lt right.place n) e in
    ap (λ (a : Term). term.Binary op a (t right.place)) (h left.place (ltb-true left.place n p.0))
    ∙ ap (term.Binary op (u left.place)) (h right.place (ltb-true right.place n p.1))
node_same t u n (Mux cond then_ else_) h e =
    let p = and_parts (nat_lt cond.place n) (nat_lt then_.place n && nat_lt else_.place n) e in
    let q = and_parts (nat_lt then_.place n) (nat_lt else_.place n) p.1 in
    ap (λ (a : Term). term.Mux a (t then_.place) (t else_.place)) (h cond.place (ltb-true cond.place n p.0))
    ∙ ap (λ (a : Term). term.Mux (u cond.place) a (t else_.place)) (h then_.place (ltb-true then_.place n q.0))
    ∙ ap (term.Mux (u cond.place) (u then_.place)) (h else_.place (ltb-true else_.place n q.1))
node_same t u n (Cat parts) h e = ap term.Cat (terms_same t u n parts h e)
node_same t u n (Pick items index) h e =
    let p = and_parts (all_below n items) (nat_lt index.place n) e in
    ap (λ (a : Terms). term.Pick a (t index.place)) (terms_same t u n items h p.0)
    ∙ ap (term.Pick (terms_at u items)) (h index.place (ltb-true index.place n p.1))
node_same t u n (Replicate of count) h e = ap (λ (a : Term). term.Replicate a count) (h of.place (ltb-true of.place n e))
node_same t u n (Slice of low high) h e = ap (λ (a : Term). term.Slice a low high) (h of.place (ltb-true of.place n e))
node_same t u n (Fetch memory width at) h e = ap (term.Fetch memory width) (h at.place (ltb-true at.place n e))

pub term_local : IsLocal expr_below node_term
term_local = record { same = node_same }

pub term_at-is : (xs : List Expr) → EachLower expr_below xs → (k : ℕ) (x : Expr) → slice_get xs k ≡ Some x → term_at xs k ≡ node_term (term_at xs) x
unfolding term_at
term_at-is xs low k x e = fold_at-is expr_below no_term node_term term_local xs low k x e

-- a node that is pushed
pub term_added : (old : List Expr) (x : Expr) → EachLower expr_below (old ++ x ∷ []) → expr_below x (length old) ≡ true → Added term_at node_term old (old ++ x ∷ []) (length old) x
unfolding term_at
term_added old x low h = added_by expr_below no_term node_term term_local old x low h
