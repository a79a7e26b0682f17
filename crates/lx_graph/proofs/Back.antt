-- The way back along the levels, while it is written.
use Rattle.std.proofs.Common.{◌≡◌, ℕ, suc, ◌+◌, ◌<◌, List, [], ◌∷◌, ◌++◌, Option, Some, length, sym, ◌∙◌, ap, subst, append_assoc, arith}
use Rattle.std.proofs.lemmas.List.{append-nil, length_push}
use Rattle.lx_graph.specs.Graph.{Nodes, row}
use Rattle.lx_graph.specs.Cycle.{OnCycle, IsLink, IsWayBack, IsToldFrom, IsTold}
use Rattle.lx_graph.specs.Through.{Links}
use Rattle.lx_graph.specs.Levels.{level_of, AreLevels, IsLeast}
use Rattle.lx_graph.proofs.Ahead.{least_plain, closed_way, no_shorter}

-- so many links are left from a node to the target, and what they add to the nodes so far is the way back
pub record IsBack (g : Nodes) (target : ℕ) (levels : List (Option ℕ)) (all : ℕ) (cycle : List ℕ) (node level : ℕ) : Type 0 where
  pub plain : node < g.plain
  pub least : IsLeast levels (row g node) level
  pub others : List ℕ
  pub is : cycle ≡ target ∷ others
  pub size : length others + level ≡ all
  pub way : (rest : List ℕ) → length rest ≡ level → IsWayBack (Links g) target node rest → IsWayBack (Links g) target target (others ++ rest)

pub back_begun : (g : Nodes) (target : ℕ) (levels : List (Option ℕ)) (all : ℕ) (cycle : List ℕ) → target < g.plain → IsLeast levels (row g target) all →
    cycle ≡ target ∷ [] → IsBack g target levels all cycle target all
back_begun g target levels all cycle plain least is = record {
  plain = plain;
  least = least;
  others = [];
  is = is;
  size = omega arith;
  way = λ rest _ way. way;
}

pub back_on : (g : Nodes) (target : ℕ) (levels : List (Option ℕ)) (all : ℕ) (cycle : List ℕ) (node level next rest : ℕ) → AreLevels g target levels →
    IsBack g target levels all cycle node level → level ≡ suc rest → IsLink (Links g) target node next level → level_of levels next ≡ Some level →
    IsBack g target levels all (cycle ++ next ∷ []) next rest
back_on g target levels all cycle node level next rest are back e link at = record {
  plain = link.link.1;
  least = least_plain g target levels next rest are link.link.1 (at ∙ ap (λ (v : ℕ). Some v) e);
  others = back.others ++ next ∷ [];
  is = ap (λ (xs : List ℕ). xs ++ next ∷ []) back.is;
  size = omega (arith, back.size, length_push back.others next, e);
  way = λ more size way.
      let l : suc (length more) ≡ level = omega (arith, size, e) in
      let link_there : IsLink (Links g) target node next (suc (length more)) = subst (λ (v : ℕ). IsLink (Links g) target node next v) (sym l) link in
      subst (λ (xs : List ℕ). IsWayBack (Links g) target target xs) (sym (append_assoc back.others (next ∷ []) more)) (back.way (next ∷ more) l (link_there, way));
}

pub back_done : (g : Nodes) (target : ℕ) (levels : List (Option ℕ)) (all : ℕ) (cycle : List ℕ) (node level : ℕ) → AreLevels g target levels → target < g.plain →
    IsLeast levels (row g target) all → ((a : ℕ) → a < target → OnCycle (Links g) a → ⊥) → IsBack g target levels all cycle node level → level ≡ 0 →
    IsTold (Links g) cycle
back_done g target levels all cycle node level are plain least first back e =
    let last = closed_way g target levels node are back.plain plain (subst (λ (v : ℕ). IsLeast levels (row g node) v) e back.least) in
    let way = back.way [] (sym e) last in
    let told : IsToldFrom (Links g) target back.others = record {
      cycle = subst (λ (xs : List ℕ). IsWayBack (Links g) target target xs) (append-nil back.others) way;
      shortest = λ n w. omega (arith, no_shorter g target levels all n are least w, back.size, e);
      first = first;
    } in
    subst (λ (xs : List ℕ). IsTold (Links g) xs) (sym back.is) told
