-- Expressions that are put among nodes one after the other.
use Rattle.std.proofs.Common.{◌≡◌, ℕ, zero, suc, ◌+◌, ◌<◌, ◌≤◌, true, drop, get_or, take, nat_lt, ◌-◌, ltb-true, lt-ltb, List, [], ◌∷◌, ◌++◌, length, refl, sym, ap, subst, ◌∙◌, arith}
use Rattle.std.specs.Prelude.{Result, IfOk, IsTrue}
use Rattle.std.proofs.Math.Seq.{take-suc, take-length}
use Rattle.lx_arena.specs.declared.Id.{Id}
use Rattle.lx_vtree.specs.declared.nodes.VExpr.{VExpr}
use Rattle.lx_vtree.specs.declared.nodes.InExprs.{InExprs}
use Rattle.lx_vtree.specs.Growth.{GrowsExprs, PutExpr, AddedExpr}
use Rattle.lx_vtree.specs.Below.{Ref, are_below}
use Rattle.lx_vtree.specs.NodeLists.{NodeLists, expr_tree}
use Rattle.lx_vtree.specs.Trees.{plant, plants}
use Rattle.lx_vtree.proofs.Exprs.{both}
use Rattle.lx_vtree.proofs.Grown.{exprs_then, expr_kept}
use Rattle.lx_fhdl.specs.Below.{ExprId, all_below}
use Rattle.lx_fhdl.proofs.Parts.{next_part}
use Rattle.lx_emission.specs.Nodes.{parts_onto, concat_of, cat_text}
use Rattle.lx_nets.specs.Texts.{PutParts}
use Rattle.lx_vtext.specs.Tree as tree
use Rattle.lx_vtree.specs.declared.nodes.VExpr.TheVariants as node

pub put_ok : {E : Type 0} (r : Result (Id InExprs) E) (old new : NodeLists) (t u : tree.VExpr) → t ≡ u → IfOk r (λ i. PutExpr old new i.place t) → IfOk r (λ i. PutExpr old new i.place u)
put_ok r old new t u e h = subst (λ (x : tree.VExpr). IfOk r (λ i. PutExpr old new i.place x)) e h

pub put_node : (a b c : NodeLists) (i : ℕ) (e : VExpr) (t : tree.VExpr) → GrowsExprs a b → AddedExpr b c i e → plant (expr_tree b) e ≡ t → PutExpr a c i t
put_node a b c i e t g p s = record { grows = exprs_then a b c g p.grows; within = p.within; is = p.is ∙ s }

-- ---- parts

plants_stay : (a b : NodeLists) (ids : List Ref) → are_below ids (length a.exprs) ≡ true → GrowsExprs a b → plants (expr_tree b) ids ≡ plants (expr_tree a) ids
plants_stay a b [] h g = refl
plants_stay a b (i ∷ is) h g =
    let p = both _ _ h in
    let l = ltb-true i.place (length a.exprs) p.0 in
    rw (g.trees i.place l, plants_stay a b is p.1 g) refl

below_wider : (ids : List Ref) (n m : ℕ) → are_below ids n ≡ true → n ≤ m → are_below ids m ≡ true
below_wider [] n m h l = refl
below_wider (i ∷ is) n m h l =
    let p = both _ _ h in
    let q = ltb-true i.place n p.0 in
    rw (lt-ltb i.place m (omega arith), below_wider is n m p.1 l) refl

below_more : (ids : List Ref) (i : Ref) (n : ℕ) → are_below ids n ≡ true → i.place < n → are_below (ids ++ i ∷ []) n ≡ true
below_more [] i n h l = rw (lt-ltb i.place n l) refl
below_more (x ∷ xs) i n h l = let p = both (nat_lt x.place n) (are_below xs n) h in rw (p.0, below_more xs i n p.1 l) refl

-- a tree at the end
abbrev pub then : tree.VExprs → tree.VExpr → tree.VExprs
then tree.NoMore t = tree.More t tree.NoMore
then (tree.More x xs) t = tree.More x (then xs t)

plants_then : (f : ℕ → tree.VExpr) (ids : List Ref) (i : Ref) → plants f (ids ++ i ∷ []) ≡ then (plants f ids) (f i.place)
plants_then f [] i = refl
plants_then f (x ∷ xs) i = ap (tree.More (f x.place)) (plants_then f xs i)

parts_then : (o : ℕ → tree.VExpr) (xs : List ExprId) (done : tree.VExprs) (t : tree.VExpr) → parts_onto o xs (then done t) ≡ then (parts_onto o xs done) t
parts_then o [] done t = refl
parts_then o (x ∷ xs) done t = parts_then o xs (tree.More (o x.place) done) t

pub parts_more : (a b c : NodeLists) (o : ℕ → tree.VExpr) (xs : List ExprId) (k : ℕ) (d : ExprId) (ids : List Ref) (i : Ref) → k < length xs
    → PutParts a b ids (parts_onto o (drop (k + 1) xs) tree.NoMore) → PutExpr b c i.place (o (get_or xs k d).place) → PutParts a c (ids ++ i ∷ []) (parts_onto o (drop k xs) tree.NoMore)
parts_more a b c o xs k d ids i l h p = record {
  grows = exprs_then a b c h.grows p.grows;
  within = below_more ids i (length c.exprs) (below_wider ids (length b.exprs) (length c.exprs) h.within p.grows.longer) p.within;
  trees =
      plants_then (expr_tree c) ids i
      ∙ ap (then (plants (expr_tree c) ids)) p.is
      ∙ ap (λ (ts : tree.VExprs). then ts (o (get_or xs k d).place)) (plants_stay b c ids h.within p.grows ∙ h.trees)
      ∙ sym (parts_then o (drop (k + 1) xs) tree.NoMore (o (get_or xs k d).place))
      ∙ ap (λ (ys : List ExprId). parts_onto o ys tree.NoMore) (sym (next_part xs k d l));
}

parts_last : (o : ℕ → tree.VExpr) (xs : List ExprId) (x : ExprId) (done : tree.VExprs) → parts_onto o (xs ++ x ∷ []) done ≡ tree.More (o x.place) (parts_onto o xs done)
parts_last o [] x done = refl
parts_last o (y ∷ ys) x done = parts_last o ys x (tree.More (o y.place) done)

last_apart : (xs : List ExprId) (d : ExprId) → 0 < length xs → xs ≡ take (length xs - 1) xs ++ get_or xs (length xs - 1) d ∷ []
last_apart xs d h =
    let n = length xs - 1 in
    let l : n < length xs = omega arith in
    let e : length xs ≡ suc n = omega arith in
    sym (take-length xs) ∙ ap (λ (k : ℕ). take k xs) e ∙ take-suc xs n d l

pub all_taken : (n k : ℕ) (xs : List ExprId) → IsTrue (all_below n xs) → IsTrue (all_below n (take k xs))
all_taken n zero xs h = refl
all_taken n (suc k) [] h = refl
all_taken n (suc k) (x ∷ xs) h = let p = both (nat_lt x.place n) (all_below n xs) h in rw (p.0, all_taken n k xs p.1) refl

pub cat_is : (a b c e : NodeLists) (o : ℕ → tree.VExpr) (xs : List ExprId) (d : ExprId) (first : Ref) (more : List Ref) (i : ℕ) → 0 < length xs → PutExpr a b first.place (o (get_or xs (length xs - 1) d).place)
    → PutParts b c more (parts_onto o (take (length xs - 1) xs) tree.NoMore) → AddedExpr c e i (node.Concatenation first more) → PutExpr a e i (cat_text o xs)
cat_is a b c e o xs d first more i h p q r =
    let trees : tree.More (expr_tree c first.place) (plants (expr_tree c) more) ≡ parts_onto o xs tree.NoMore =
    ap (λ (t : tree.VExpr). tree.More t (plants (expr_tree c) more)) (expr_kept a b c first.place (o (get_or xs (length xs - 1) d).place) p q.grows).is
    ∙ ap (tree.More (o (get_or xs (length xs - 1) d).place)) q.trees
    ∙ sym (parts_last o (take (length xs - 1) xs) (get_or xs (length xs - 1) d) tree.NoMore)
    ∙ ap (λ (ys : List ExprId). parts_onto o ys tree.NoMore) (sym (last_apart xs d h)) in
    put_node a c e i (node.Concatenation first more) (cat_text o xs) (exprs_then a b c p.grows q.grows) r (ap concat_of trees)
