-- An expression's tree hangs on the trees of its children.
use Rattle.std.proofs.Common.{◌≡◌, ℕ, true, List, [], ◌∷◌, ◌++◌, length, Some, IsTrue, slice_get, refl, ltb-true}
use Rattle.std.proofs.lemmas.Bool.{and_parts}
use Rattle.lx_arena.specs.Lower.{EachLower}
use Rattle.lx_arena.specs.Folds.{Same, IsLocal, Added}
use Rattle.lx_arena.proofs.Folds.{fold_at-is, added_by}
use Rattle.lx_vtext.specs.Tree as tree
use Rattle.lx_vtree.specs.declared.nodes.VExpr.{VExpr}
use Rattle.lx_vtree.specs.declared.nodes.VExpr.TheVariants as node
use Rattle.lx_vtree.specs.Below.{Ref, are_below, is_below}
use Rattle.lx_vtree.specs.Trees.{plants, plant, nowhere, tree_at}
pub use Rattle.std.proofs.lemmas.Bool.{and_parts as both}

plants_same : (f g : ℕ → tree.VExpr) (n : ℕ) (ids : List Ref) → Same f g n → are_below ids n ≡ true → plants f ids ≡ plants g ids
plants_same f g n [] s b = refl
plants_same f g n (id ∷ ids) s b = let h = and_parts _ _ b in rw (s id.place (ltb-true _ _ h.0), plants_same f g n ids s h.1) refl

plant_same : (f g : ℕ → tree.VExpr) (n : ℕ) (e : VExpr) → Same f g n → is_below e n ≡ true → plant f e ≡ plant g e
plant_same f g n (node.Net name) s b = refl
plant_same f g n (node.Literal l) s b = refl
plant_same f g n (node.PartSelect name hi lo) s b = refl
plant_same f g n (node.Word name index) s b = rw (s index.place (ltb-true _ _ b)) refl
plant_same f g n (node.Unary op of) s b = rw (s of.place (ltb-true _ _ b)) refl
plant_same f g n (node.Binary left op right) s b = let h = and_parts _ _ b in rw (s left.place (ltb-true _ _ h.0), s right.place (ltb-true _ _ h.1)) refl
plant_same f g n (node.Conditional c so other) s b =
    let h = and_parts _ _ b in
    let k = and_parts _ _ h.0 in
    rw (s c.place (ltb-true _ _ k.0), s so.place (ltb-true _ _ k.1), s other.place (ltb-true _ _ h.1)) refl
plant_same f g n (node.Concatenation first more) s b = let h = and_parts _ _ b in rw (s first.place (ltb-true _ _ h.0), plants_same f g n more s h.1) refl
plant_same f g n (node.Replication count of) s b = rw (s of.place (ltb-true _ _ b)) refl
plant_same f g n (node.ToSigned of) s b = rw (s of.place (ltb-true _ _ b)) refl
plant_same f g n (node.ToUnsigned of) s b = rw (s of.place (ltb-true _ _ b)) refl

pub plant_local : IsLocal is_below plant
plant_local = record { same = plant_same }

-- the tree of the node at a place
pub tree_is : (nodes : List VExpr) (id : ℕ) (e : VExpr) → EachLower is_below nodes → slice_get nodes id ≡ Some e → tree_at nodes id ≡ plant (tree_at nodes) e
tree_is nodes id e low is = fold_at-is is_below nowhere plant plant_local nodes low id e is

-- a node that is pushed hangs at the end, and the trees that were there stay
pub added : (old : List VExpr) (e : VExpr) → EachLower is_below (old ++ e ∷ []) → IsTrue (is_below e (length old)) → Added tree_at plant old (old ++ e ∷ []) (length old) e
added old e low below = added_by is_below nowhere plant plant_local old e low below
