-- Always blocks that are put into a list, and their statements among nodes.
use Rattle.std.proofs.Common.{◌≡◌, ℕ, ◌+◌, ◌<◌, ◌≤◌, true, List, [], ◌∷◌, ◌++◌, length, map, flat_map, sym, ap, subst, ◌∙◌, append_assoc}
use Rattle.std.specs.Prelude.{Result, OnOk, Option}
use Rattle.std.proofs.lemmas.Result.{on_ok_weaker}
use Rattle.std.proofs.lemmas.List.{append-nil}
use Rattle.lx_vtext.specs.Tree.{Name, VAlways}
use Rattle.lx_vtree.specs.declared.modules.Always.{Always}
use Rattle.lx_vtree.specs.Growth.{Grows}
use Rattle.lx_vtree.specs.NodeLists.{NodeLists, stmt_tree}
use Rattle.lx_vtree.specs.Stmts.{are_stmts_below}
use Rattle.lx_vtree.specs.Modules.{always_of, are_blocks_placed}
use Rattle.lx_emission.specs.Emission.{places_from}
use Rattle.lx_blocks.specs.Lines.{PutAlways}
use Rattle.lx_blocks.specs.Puts.{PutBlock}
use Rattle.lx_vtree.proofs.Grown.{grows_same, grows_then}
use Rattle.lx_blocks.proofs.Grown.{below_wider, block_stays}
use Rattle.lx_sheet.proofs.Lines.{list_more, trees_more, pieces, pieces_more, pieces_all}
use Rattle.lx_vtext.specs.Tree as tree

-- what is there when the nodes have grown
wider : (n m : ℕ) → n ≤ m → (x : Always) → are_stmts_below x.body n ≡ true → are_stmts_below x.body m ≡ true
wider n m l x h = below_wider x.body n m h l

stays : (n0 n1 : NodeLists) → Grows n0 n1 → (x : Always) → are_stmts_below x.body (length n0.stmts) ≡ true → always_of (stmt_tree n1) x ≡ always_of (stmt_tree n0) x
stays n0 n1 g x h = ap (λ (b : tree.VBlock). record { clock = x.clock; body = b }) (block_stays (stmt_tree n0) (stmt_tree n1) (length n0.stmts) x.body g.stays h)

pub always_none : (n : NodeLists) (xs : List Always) → are_blocks_placed (length n.stmts) xs ≡ true → PutAlways n n xs xs []
always_none n xs h = record { grows = grows_same n; placed = h; trees = sym (append-nil (map (always_of (stmt_tree n)) xs)) }

pub always_empty : (n : NodeLists) (xs : List Always) (ts : List VAlways) → are_blocks_placed (length n.stmts) xs ≡ true → [] ≡ ts → PutAlways n n xs xs ts
always_empty n xs ts h f = subst (λ (us : List VAlways). PutAlways n n xs xs us) f (always_none n xs h)

always_one : (n0 n1 : NodeLists) (xs : List Always) (x : Always) (b : tree.VBlock) → are_blocks_placed (length n0.stmts) xs ≡ true → PutBlock n0 n1 x.body b → PutAlways n0 n1 xs (xs ++ x ∷ []) (record { clock = x.clock; body = b } ∷ [])
always_one n0 n1 xs x b h p = record {
  grows = p.grows;
  placed = list_more _ _ xs x (wider (length n0.stmts) (length n1.stmts) p.grows.longer) h p.within;
  trees = trees_more (always_of (stmt_tree n0)) (always_of (stmt_tree n1)) _ xs x (record { clock = x.clock; body = b }) (stays n0 n1 p.grows) h (ap (λ (c : tree.VBlock). record { clock = x.clock; body = c }) p.tree);
}

-- a block at the end of the list
pub always_push : {E : Type 0} (r : Result (Unit {0}) E) (n0 n1 : NodeLists) (xs after : List Always) (x : Always) (clock : Option Name) (b : tree.VBlock) (ts : List VAlways)
    → are_blocks_placed (length n0.stmts) xs ≡ true → PutBlock n0 n1 x.body b → x.clock ≡ clock → record { clock = clock; body = b } ∷ [] ≡ ts → OnOk r (after ≡ xs ++ x ∷ []) → OnOk r (PutAlways n0 n1 xs after ts)
always_push r n0 n1 xs after x clock b ts h p e f g =
    let same : record { clock = x.clock; body = b } ∷ [] ≡ ts = ap (λ (o : Option Name). record { clock = o; body = b } ∷ []) e ∙ f in
    let one = subst (λ (us : List VAlways). PutAlways n0 n1 xs (xs ++ x ∷ []) us) same (always_one n0 n1 xs x b h p) in
    on_ok_weaker r (λ l. subst (λ (ys : List Always). PutAlways n0 n1 xs ys ts) (sym l) one) g

pub always_more : (n0 n1 n2 : NodeLists) (xs ys zs : List Always) (ts us : List VAlways) → PutAlways n0 n1 xs ys ts → PutAlways n1 n2 ys zs us → PutAlways n0 n2 xs zs (ts ++ us)
always_more n0 n1 n2 xs ys zs ts us p q = record {
  grows = grows_then n0 n1 n2 p.grows q.grows;
  placed = q.placed;
  trees = q.trees ∙ ap (λ (vs : List VAlways). vs ++ us) p.trees ∙ append_assoc (map (always_of (stmt_tree n0)) xs) ts us;
}

pub always_next : {T : Type 0} (f : ℕ → List VAlways) (ps : List T) (k : ℕ) (n0 n1 n2 : NodeLists) (xs ys zs : List Always) → k < length ps → PutAlways n0 n1 xs ys (pieces f ps k) → PutAlways n1 n2 ys zs (f k) → PutAlways n0 n2 xs zs (pieces f ps (k + 1))
always_next f ps k n0 n1 n2 xs ys zs l p q = rw (pieces_more f ps k l) (always_more n0 n1 n2 xs ys zs (pieces f ps k) (f k) p q)

pub always_end : {T : Type 0} (f : ℕ → List VAlways) (ps : List T) (k : ℕ) (n0 n1 : NodeLists) (xs ys : List Always) → length ps ≤ k → PutAlways n0 n1 xs ys (pieces f ps k) → PutAlways n0 n1 xs ys (flat_map f (places_from 0 ps))
always_end f ps k n0 n1 xs ys l p = subst (λ (us : List VAlways). PutAlways n0 n1 xs ys us) (pieces_all f ps k l) p
