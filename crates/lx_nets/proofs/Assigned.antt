-- Assigns that are put into a list, and their expressions among nodes.
use Rattle.std.proofs.Common.{◌≡◌, ℕ, ◌<◌, ◌≤◌, Bool, true, false, cond, List, [], ◌∷◌, ◌++◌, length, map, nat_lt, ◌+◌, flat_map, sym, ap, subst, ◌∙◌, arith, append_assoc, ltb-true, lt-ltb}
use Rattle.std.specs.Prelude.{Result, OnOk, Some, slice_get}
use Rattle.std.proofs.lemmas.Result.{on_ok_weaker}
use Rattle.std.proofs.lemmas.List.{append-nil}
use Rattle.lx_arena.specs.Folds.{Same}
use Rattle.lx_vtext.specs.Tree.{Name, VAssign}
use Rattle.lx_vtree.specs.declared.modules.Assign.{Assign}
use Rattle.lx_vtree.specs.NodeLists.{NodeLists, expr_tree}
use Rattle.lx_vtree.specs.Modules.{assign_of, are_assigns_placed}
use Rattle.lx_vtree.specs.Growth.{Grows, PutExpr}
use Rattle.lx_vtree.proofs.Grown.{exprs_same, exprs_then}
use Rattle.lx_fhdl.specs.declared.exprs.Expr.{Expr}
use Rattle.lx_fhdl.specs.declared.design.Design.{Design}
use Rattle.lx_emission.specs.Naming.{has_net, node_net}
use Rattle.lx_emission.specs.Nodes.{node_text}
use Rattle.lx_emission.specs.Emission.{places_from, is_net_node, node_assign}
use Rattle.lx_nets.specs.Lines.{PutAssigns}
use Rattle.lx_sheet.proofs.Lines.{list_stays, list_wider, list_more, trees_more, pieces, pieces_more, pieces_all}
use Rattle.lx_vtext.specs.Tree as tree

-- what is there when the nodes have grown
wider : (n m : ℕ) → n ≤ m → (x : Assign) → nat_lt x.value.place n ≡ true → nat_lt x.value.place m ≡ true
wider n m l x h = let p = ltb-true x.value.place n h in lt-ltb x.value.place m (omega arith)

-- the same trees below n
stays : (f g : ℕ → tree.VExpr) (n : ℕ) → Same g f n → (x : Assign) → nat_lt x.value.place n ≡ true → assign_of g x ≡ assign_of f x
stays f g n s x h = ap (λ (t : tree.VExpr). record { name = x.name; value = t }) (s x.value.place (ltb-true x.value.place n h))

-- assigns stay while the nodes grow
pub assigns_placed : (a b : NodeLists) (xs : List Assign) → Grows a b → are_assigns_placed (length a.exprs) xs ≡ true → are_assigns_placed (length b.exprs) xs ≡ true
assigns_placed a b xs g h = list_wider _ _ xs (wider (length a.exprs) (length b.exprs) g.exprs) h

pub assigns_stay : (a b : NodeLists) (xs : List Assign) → Grows a b → are_assigns_placed (length a.exprs) xs ≡ true → map (assign_of (expr_tree b)) xs ≡ map (assign_of (expr_tree a)) xs
assigns_stay a b xs g h = list_stays (assign_of (expr_tree a)) (assign_of (expr_tree b)) _ xs (stays (expr_tree a) (expr_tree b) (length a.exprs) g.trees) h

pub assigns_none : (a : NodeLists) (xs : List Assign) → are_assigns_placed (length a.exprs) xs ≡ true → PutAssigns a a xs xs []
assigns_none a xs h = record { grows = exprs_same a; placed = h; trees = sym (append-nil (map (assign_of (expr_tree a)) xs)) }

pub assigns_empty : (a : NodeLists) (xs : List Assign) (ts : List VAssign) → are_assigns_placed (length a.exprs) xs ≡ true → [] ≡ ts → PutAssigns a a xs xs ts
assigns_empty a xs ts h e = subst (λ (us : List VAssign). PutAssigns a a xs xs us) e (assigns_none a xs h)

assigns_one : (a b : NodeLists) (xs : List Assign) (x : Assign) (t : tree.VExpr) → are_assigns_placed (length a.exprs) xs ≡ true → PutExpr a b x.value.place t → PutAssigns a b xs (xs ++ x ∷ []) (record { name = x.name; value = t } ∷ [])
assigns_one a b xs x t h p = record {
  grows = p.grows;
  placed = list_more _ _ xs x (wider (length a.exprs) (length b.exprs) p.grows.longer) h (lt-ltb x.value.place (length b.exprs) p.within);
  trees = trees_more (assign_of (expr_tree a)) (assign_of (expr_tree b)) _ xs x (record { name = x.name; value = t }) (stays (expr_tree a) (expr_tree b) (length a.exprs) p.grows.trees) h (ap (λ (u : tree.VExpr). record { name = x.name; value = u }) p.is);
}

pub assigns_more : (a b c : NodeLists) (xs ys zs : List Assign) (ts us : List VAssign) → PutAssigns a b xs ys ts → PutAssigns b c ys zs us → PutAssigns a c xs zs (ts ++ us)
assigns_more a b c xs ys zs ts us p q = record {
  grows = exprs_then a b c p.grows q.grows;
  placed = q.placed;
  trees = q.trees ∙ ap (λ (vs : List VAssign). vs ++ us) p.trees ∙ append_assoc (map (assign_of (expr_tree a)) xs) ts us;
}

-- a line at the end of the list
pub assigns_push : {E : Type 0} (r : Result (Unit {0}) E) (a b : NodeLists) (xs after : List Assign) (x : Assign) (m : Name) (t : tree.VExpr) (ts : List VAssign) → are_assigns_placed (length a.exprs) xs ≡ true → PutExpr a b x.value.place t → x.name ≡ m → record { name = m; value = t } ∷ [] ≡ ts
    → OnOk r (after ≡ xs ++ x ∷ []) → OnOk r (PutAssigns a b xs after ts)
assigns_push r a b xs after x m t ts h p e f g =
    let same : record { name = x.name; value = t } ∷ [] ≡ ts = ap (λ (n : Name). record { name = n; value = t } ∷ []) e ∙ f in
    let one = subst (λ (us : List VAssign). PutAssigns a b xs (xs ++ x ∷ []) us) same (assigns_one a b xs x t h p) in
    on_ok_weaker r (λ l. subst (λ (ys : List Assign). PutAssigns a b xs ys ts) (sym l) one) g

pub assigns_next : {T : Type 0} (f : ℕ → List VAssign) (ps : List T) (k : ℕ) (a b c : NodeLists) (xs ys zs : List Assign) → k < length ps → PutAssigns a b xs ys (pieces f ps k) → PutAssigns b c ys zs (f k) → PutAssigns a c xs zs (pieces f ps (k + 1))
assigns_next f ps k a b c xs ys zs l p q = rw (pieces_more f ps k l) (assigns_more a b c xs ys zs (pieces f ps k) (f k) p q)

pub assigns_end : {T : Type 0} (f : ℕ → List VAssign) (ps : List T) (k : ℕ) (a b : NodeLists) (xs ys : List Assign) → length ps ≤ k → PutAssigns a b xs ys (pieces f ps k) → PutAssigns a b xs ys (flat_map f (places_from 0 ps))
assigns_end f ps k a b xs ys l p = subst (λ (us : List VAssign). PutAssigns a b xs ys us) (pieces_all f ps k l) p

-- ---- lines of a design

no_node_line : (d : Design) (names : List Name) (k : ℕ) (x : Expr) → slice_get d.exprs k ≡ Some x → has_net x ≡ false → [] ≡ node_assign d names k
unfolding node_assign
no_node_line d names k x e h = sym (ap (λ (b : Bool). cond b (record { name = node_net d.exprs k; value = node_text d names k } ∷ []) []) (ap is_net_node e ∙ h))

pub no_node_assign : (d : Design) (names : List Name) (k : ℕ) (x : Expr) (a : NodeLists) (xs : List Assign) → slice_get d.exprs k ≡ Some x → has_net x ≡ false → are_assigns_placed (length a.exprs) xs ≡ true → PutAssigns a a xs xs (node_assign d names k)
no_node_assign d names k x a xs e h p = subst (λ (ts : List VAssign). PutAssigns a a xs xs ts) (no_node_line d names k x e h) (assigns_none a xs p)

pub node_line : (d : Design) (names : List Name) (k : ℕ) (x : Expr) → slice_get d.exprs k ≡ Some x → has_net x ≡ true → record { name = node_net d.exprs k; value = node_text d names k } ∷ [] ≡ node_assign d names k
unfolding node_assign
node_line d names k x e h = sym (ap (λ (b : Bool). cond b (record { name = node_net d.exprs k; value = node_text d names k } ∷ []) []) (ap is_net_node e ∙ h))
