-- The told cycle of a relation is that of another one that says the same.
use Rattle.std.proofs.Common.{◌≡◌, ℕ, zero, suc, ◌<◌, ◌≤◌, Bool, true, List, [], ◌∷◌, length, refl, sym, ap, subst, ◌∙◌}
use Rattle.std.specs.Prelude.{IsTrue}
use Rattle.std.proofs.lemmas.Bool.{and_from, lt-ltb}
use Rattle.lx_fhdl.specs.declared.design.Design.{Design}
use Rattle.lx_graph.specs.Cycle.{IsLink, IsTold, IsToldFrom, IsWayBack, OnCycle, Walk}
use Rattle.lx_graph.specs.Graph.{Nodes}
use Rattle.lx_graph.specs.Through as through
use Rattle.lx_reads.specs.Net.{signals_of}
use Rattle.lx_check.specs.Graphs.{IsReadGraph, all_reads}
use Rattle.lx_check.specs.Loops.{Links}
use Rattle.lx_check.specs.Orders.{are_under, is_under}
use Rattle.lx_check.proofs.Reaching.{are_links, links_are}

abbrev Says : (ℕ → ℕ → Type 0) → (ℕ → ℕ → Type 0) → Type 0
Says R S = (x y : ℕ) → R x y → S x y

walk_as : (R S : ℕ → ℕ → Type 0) (a b n : ℕ) → Says R S → Walk R a b n → Walk S a b n
walk_as R S a b zero f w = w
walk_as R S a b (suc n) f (c, l, w) = (c, f a c l, walk_as R S c b n f w)

way_as : (R S : ℕ → ℕ → Type 0) (t a : ℕ) (others : List ℕ) → Says R S → Says S R → IsWayBack R t a others → IsWayBack S t a others
way_as R S t a [] f g w = f a t w
way_as R S t a (c ∷ others) f g (l, w) = (
  record { link = f a c l.link; lowest = λ b h v. l.lowest b (g a b h) (walk_as S R b t (suc (length others)) g v) },
  way_as R S t c others f g w,
)

told_as : (R S : ℕ → ℕ → Type 0) (cycle : List ℕ) → Says R S → Says S R → IsTold R cycle → IsTold S cycle
told_as R S [] f g t = t
told_as R S (x ∷ others) f g t = record {
  cycle = way_as R S x x others f g t.cycle;
  shortest = λ n w. t.shortest n (walk_as S R x x (suc n) g w);
  first = λ a l w. t.first a l (w.0, walk_as S R a a (suc w.0) g w.1);
}

pub told_is : (d : Design) (g : Nodes) (cycle : List ℕ) → IsReadGraph d (all_reads d) g → IsTold (through.Links g) cycle → IsTold (Links d) cycle
told_is d g cycle r t = told_as (through.Links g) (Links d) cycle (λ x y l. links_are d g r x y l) (λ x y l. are_links d g r x y l) t

-- ---- its signals

way_under : (g : Nodes) (n t a : ℕ) (others : List ℕ) → g.plain ≡ n → IsWayBack (through.Links g) t a others → are_under n (a ∷ others) ≡ true
way_under g n t a [] e w = and_from (is_under n a) true (lt-ltb a n (subst (λ (v : ℕ). a < v) e w.0)) refl
way_under g n t a (c ∷ others) e (l, w) = and_from (is_under n a) (are_under n (c ∷ others)) (lt-ltb a n (subst (λ (v : ℕ). a < v) e l.link.0)) (way_under g n t c others e w)

pub told_under : (d : Design) (g : Nodes) (cycle : List ℕ) → IsReadGraph d (all_reads d) g → IsTold (through.Links g) cycle → are_under (signals_of d) cycle ≡ true
told_under d g [] r t = refl
told_under d g (x ∷ others) r t = way_under g (signals_of d) x x others r.has.plain t.cycle
