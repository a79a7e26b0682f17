-- Trees in the arena.
use Rattle.std.proofs.Common.{ℕ, true, ◌≡◌, ◌<◌, ◌≤◌, ◌++◌, nat_lt, List, [], ◌∷◌, length, refl, sym, ap, ◌∙◌, subst, arith, slice_get, Some, None, Result, Ok, Err, MatchResult}
use Rattle.std.proofs.lemmas.Bool.{ltb-true, lt-ltb, and_parts, and_from}
use Rattle.lx_text.specs.declared.lists.NoMemory.{NoMemory}
use Rattle.lx_arena.specs.Lower.{EachLower}
use Rattle.lx_arena.specs.Folds.{IsLocal, Added}
use Rattle.lx_arena.proofs.Folds.{added_by, fold_at-is, grows_not}
use Rattle.lx_arena.proofs.Places.{lower_more}
use Rattle.lx_grammar.specs.declared.grammar.Rule.{Rule}
use Rattle.lx_grammar.specs.Derives.{Tree, Grown, NoTree, end, token, child, joined, wrap}
use Rattle.lx_pytree.specs.declared.tree.PyNode.{PyNode}
use Rattle.lx_pytree.specs.declared.tree.PyPart.{PyPart}
use Rattle.lx_pytree.specs.declared.tree.PyPart.TheVariants as part
use Rattle.lx_arena.specs.declared.Id.{Id}
use Rattle.lx_token.specs.declared.tokens.Token.{Token}
use Rattle.lx_pytree.specs.declared.tree.PyNodes.{PyNodes}
use Rattle.lx_pytree.specs.Below.{part_below, parts_below}
use Rattle.lx_pytree.specs.Trees.{plants, node_tree, tree_at, below_node, IsSole, IsHung, IsClosed}

-- parts below n hang alike where the trees below n are alike
pub plants_same : (f g : ℕ → Tree) (n : ℕ) (ps : List PyPart) → parts_below n ps ≡ true → ((i : ℕ) → i < n → f i ≡ g i) → plants f ps ≡ plants g ps
unfolding plants parts_below
plants_same f g n [] h e = refl
plants_same f g n (part.Token x ∷ ps) h e = ap (λ qs. token x qs) (plants_same f g n ps (and_parts true (parts_below n ps) h).1 e)
plants_same f g n (part.Node id ∷ ps) h e =
    let here : f id.place ≡ g id.place = e id.place (ltb-true _ _ (and_parts (nat_lt id.place n) (parts_below n ps) h).0) in
    let rest : plants f ps ≡ plants g ps = plants_same f g n ps (and_parts (nat_lt id.place n) (parts_below n ps) h).1 e in
    cc

pub parts_more : (n m : ℕ) (ps : List PyPart) → n ≤ m → parts_below n ps ≡ true → parts_below m ps ≡ true
unfolding parts_below
parts_more n m [] le h = refl
parts_more n m (part.Token x ∷ ps) le h = parts_more n m ps le h
parts_more n m (part.Node id ∷ ps) le h =
    let lt : id.place < n = ltb-true _ _ (and_parts (nat_lt id.place n) (parts_below n ps) h).0 in
    and_from _ _ (lt-ltb id.place m (omega arith)) (parts_more n m ps le (and_parts (nat_lt id.place n) (parts_below n ps) h).1)

pub parts_push : (n : ℕ) (ps : List PyPart) (p : PyPart) → parts_below n ps ≡ true → part_below n p ≡ true → parts_below n (ps ++ p ∷ []) ≡ true
unfolding parts_below
parts_push n [] p h k = and_from _ _ k refl
parts_push n (q ∷ ps) p h k = and_from _ _ (and_parts (part_below n q) (parts_below n ps) h).0 (parts_push n ps p (and_parts (part_below n q) (parts_below n ps) h).1 k)

pub plants_push_node : (f : ℕ → Tree) (ps : List PyPart) (id : Id PyNodes) → plants f (ps ++ part.Node id ∷ []) ≡ joined (plants f ps) (child (f id.place) end)
unfolding plants joined
plants_push_node f [] id = refl
plants_push_node f (part.Token x ∷ ps) id = ap (λ qs. token x qs) (plants_push_node f ps id)
plants_push_node f (part.Node j ∷ ps) id = ap (λ qs. child (f j.place) qs) (plants_push_node f ps id)

pub plants_push_token : (f : ℕ → Tree) (ps : List PyPart) (x : Token) → plants f (ps ++ part.Token x ∷ []) ≡ joined (plants f ps) (token x end)
unfolding plants joined
plants_push_token f [] x = refl
plants_push_token f (part.Token y ∷ ps) x = ap (λ qs. token y qs) (plants_push_token f ps x)
plants_push_token f (part.Node j ∷ ps) x = ap (λ qs. child (f j.place) qs) (plants_push_token f ps x)

pub tree_local : IsLocal below_node node_tree
unfolding parts_below
tree_local = record { same = λ f g n node alike low. ap (λ ps. Grown node.rule ps) (plants_same f g n node.parts low alike) }

-- the tree at a place hangs the parts of the node there
pub tree_node : (nodes : List PyNode) (place : ℕ) (node : PyNode) → EachLower below_node nodes → slice_get nodes place ≡ Some node → tree_at nodes place ≡ node_tree (tree_at nodes) node
unfolding tree_at
tree_node nodes place node low at = fold_at-is below_node NoTree node_tree tree_local nodes low place node at

-- a node that is pushed hangs its parts
tree_added : (old : List PyNode) (node : PyNode) → EachLower below_node (old ++ node ∷ []) → below_node node (length old) ≡ true → Added tree_at node_tree old (old ++ node ∷ []) (length old) node
unfolding tree_at
tree_added old node low h = added_by below_node NoTree node_tree tree_local old node low h

pub hung_new : (r : Rule) (ps : List PyPart) (nodes new : List PyNode) (place : ℕ) → EachLower below_node nodes → parts_below (length nodes) ps ≡ true → new ≡ nodes ++ record { rule = r; parts = ps } ∷ [] → place ≡ length nodes → IsSole ps None → IsHung r ps nodes new place
hung_new r ps nodes new place low h e p sole =
    let node : PyNode = record { rule = r; parts = ps } in
    let added = tree_added nodes node (lower_more below_node nodes node low h) h in
    subst (λ k. IsHung r ps nodes new k) (sym p) (subst (λ k. IsHung r ps nodes k (length nodes)) (sym e)
    (record { grows = added.grows; within = added.within; is = added.is ∙ sym (sole (tree_at nodes) r) }))

pub hung_sole : (r : Rule) (ps : List PyPart) (nodes : List PyNode) (id : Id PyNodes) → parts_below (length nodes) ps ≡ true → ps ≡ part.Node id ∷ [] → IsHung r ps nodes nodes id.place
unfolding parts_below plants wrap
hung_sole r ps nodes id low e =
    let one : parts_below (length nodes) (part.Node id ∷ []) ≡ true = subst (λ qs. parts_below (length nodes) qs ≡ true) e low in
    record {
      grows = grows_not tree_at nodes;
      within = ltb-true _ _ (and_parts (nat_lt id.place (length nodes)) true one).0;
      is = sym (ap (λ qs. wrap r (plants (tree_at nodes) qs)) e);
    }

pub hung_by : (r : Rule) (ps : List PyPart) (nodes new : List PyNode) (result : Result (Id PyNodes) NoMemory) → EachLower below_node nodes → parts_below (length nodes) ps ≡ true → MatchResult result (λ id. (id.place ≡ length nodes) × (new ≡ nodes ++ record { rule = r; parts = ps } ∷ [])) (λ e. new ≡ nodes) → IsSole ps None → IsClosed r ps nodes new result
hung_by r ps nodes new (Ok id) low h m sole = hung_new r ps nodes new id.place low h m.1 m.0 sole
hung_by r ps nodes new (Err e) low h m sole = tt
