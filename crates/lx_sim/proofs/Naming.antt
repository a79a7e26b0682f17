-- The signals that expressions name are there.
use Rattle.std.proofs.Common.{◌≡◌, ℕ, true, ◌<◌, List, [], ◌∷◌, length, sym, ◌∙◌, ap, subst, inl, inr, ◌||◌, eqb-true}
use Rattle.std.proofs.lemmas.Bool.{or_cases}
use Rattle.lx_arena.proofs.Places.{by_places, lower_at}
use Rattle.lx_circuit.specs.Places.{At}
use Rattle.lx_circuit.specs.Terms.{Term}
use Rattle.lx_circuit.specs.Reads.{names, some_names}
use Rattle.lx_fhdl.specs.Below.{ExprId, expr_below}
use Rattle.lx_fhdl.specs.Designs.{term}
use Rattle.lx_fhdl.specs.Keeping.{Keeps, NamesThere}
use Rattle.lx_fhdl.specs.Nodes.{EachChild, EachPlace}
use Rattle.lx_fhdl.specs.Trees.{node_term, terms_at}
use Rattle.lx_fhdl.specs.declared.design.Memory.{Memory}
use Rattle.lx_fhdl.specs.declared.design.Design.{Design}
use Rattle.lx_fhdl.specs.declared.exprs.Expr.{Expr}
use Rattle.lx_fhdl.specs.declared.exprs.Expr.TheVariants.{Const, Sig, Unary, Binary, Mux, Cat, Pick, Replicate, Slice, Fetch}
use Rattle.lx_fhdl.proofs.Arena.{each_child}
use Rattle.lx_fhdl.proofs.Trees.{term_at-is}

abbrev Below : (ℕ → Term) → ℕ → ℕ → Type 0
Below t n k = (y : ℕ) → names (At y) (t k) ≡ true → y < n

parts_below : (t : ℕ → Term) (n : ℕ) (is : List ExprId) → EachPlace (Below t n) is → (y : ℕ) → some_names (At y) (terms_at t is) ≡ true → y < n
parts_below t n [] h y e = absurd cc
parts_below t n (i ∷ is) h y e = elim (or_cases (names (At y) (t i.place)) (some_names (At y) (terms_at t is)) e) [ inl p ↦ h.0 y p | inr p ↦ parts_below t n is h.1 y p ]

node_below : (t : ℕ → Term) (n : ℕ) (ms : List Memory) (x : Expr) → NamesThere n ms x → EachChild (Below t n) x → (y : ℕ) → names (At y) (node_term t x) ≡ true → y < n
node_below t n ms (Const value bits signed) there h y e = absurd cc
node_below t n ms (Sig x) there h y e = subst (λ (k : ℕ). k < n) (eqb-true x.0 y e) there
node_below t n ms (Unary op of) there h y e = h y e
node_below t n ms (Binary op left right) there h y e = elim (or_cases (names (At y) (t left.place)) (names (At y) (t right.place)) e) [ inl p ↦ h.0 y p | inr p ↦ h.1 y p ]
node_below t n ms (Mux cond then_ else_) there h y e =
    elim (or_cases (names (At y) (t cond.place)) (names (At y) (t then_.place) || names (At y) (t else_.place)) e) [
      | inl p ↦ h.0 y p
      | inr p ↦ elim (or_cases (names (At y) (t then_.place)) (names (At y) (t else_.place)) p) [ inl q ↦ h.1.0 y q | inr q ↦ h.1.1 y q ]
    ]
node_below t n ms (Cat parts) there h y e = parts_below t n parts h y e
node_below t n ms (Pick items index) there h y e = elim (or_cases (some_names (At y) (terms_at t items)) (names (At y) (t index.place)) e) [ inl p ↦ parts_below t n items h.0 y p | inr p ↦ h.1 y p ]
node_below t n ms (Replicate of count) there h y e = h y e
node_below t n ms (Slice of low high) there h y e = h y e
node_below t n ms (Fetch memory width at) there h y e = h y e

-- an expression names signals of its design
pub named_there : (d : Design) → Keeps d → (k : ℕ) → k < length d.exprs → Below (term d) (length d.signals) k
named_there d keeps =
    by_places (Below (term d) (length d.signals)) d.exprs
    (λ k x found below y e.
    node_below (term d) (length d.signals) d.memories x (keeps.arenas.named k x found)
    (each_child (Below (term d) (length d.signals)) k x below (lower_at expr_below d.exprs keeps.arenas.exprs_lower k x found))
    y (ap (names (At y)) (sym (term_at-is d.exprs keeps.arenas.exprs_lower k x found)) ∙ e))
