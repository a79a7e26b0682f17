-- Nodes grow: the trees of statements stay.
use Rattle.std.proofs.Common.{◌≡◌, ℕ, ◌+◌, ◌<◌, ◌≤◌, Bool, true, ◌&&◌, List, [], ◌∷◌, ◌++◌, length, get_or, take, nat_lt, append_assoc, add-one, refl, ap, subst, ◌∙◌, arith, ltb-true, lt-ltb}
use Rattle.std.specs.Prelude.{Option, Some, None, Result, IfOk, IsTrue}
use Rattle.std.proofs.Math.Seq.{take-suc}
use Rattle.lx_vtree.specs.declared.nodes.VTarget.{VTarget}
use Rattle.lx_vtree.specs.Below.{Ref}
use Rattle.lx_vtree.specs.NodeLists.{NodeLists, expr_tree, stmt_tree}
use Rattle.lx_vtree.specs.Stmts.{StmtRef, plant_block, plant_else, are_stmts_below, is_else_below}
use Rattle.lx_vtree.specs.Growth.{GrowsExprs, Grows, PutExpr, PutStmt, AddedStmt}
use Rattle.lx_vtree.proofs.Exprs.{both}
use Rattle.lx_vtree.proofs.Grown.{by_exprs, grows_then}
use Rattle.lx_fhdl.specs.Below.{StmtId}
use Rattle.lx_emission.specs.Texts.{block_onto}
use Rattle.lx_blocks.specs.Puts.{IsTarget, PutBlock, PutElse, PutStmts, trees_of, texts_of}
use Rattle.lx_vtext.specs.Tree as tree
use Rattle.lx_vtree.specs.declared.nodes.VStmt.TheVariants as node

pub put_stmt_ok : {E : Type 0} (r : Result StmtRef E) (n0 n1 : NodeLists) (t u : tree.VStmt) → t ≡ u → IfOk r (λ i. PutStmt n0 n1 i.place t) → IfOk r (λ i. PutStmt n0 n1 i.place u)
put_stmt_ok r n0 n1 t u e h = subst (λ (x : tree.VStmt). IfOk r (λ i. PutStmt n0 n1 i.place x)) e h

pub assign_put : (n0 n1 n2 : NodeLists) (v : Ref) (t : tree.VExpr) (target : VTarget) (u : tree.VTarget) (blocking : Bool) (i : ℕ)
    → PutExpr n0 n1 v.place t → IsTarget target u → AddedStmt n1 n2 i (node.Assign target blocking v) → PutStmt n0 n2 i (tree.Assign u blocking t)
assign_put n0 n1 n2 v t target u blocking i put is a = record {
  grows = grows_then n0 n1 n2 (by_exprs n0 n1 put.grows) a.grows;
  within = a.within;
  is = a.is ∙ ap (λ (x : tree.VTarget). tree.Assign x blocking (expr_tree n1 v.place)) (is.tree (expr_tree n1)) ∙ ap (tree.Assign u blocking) put.is;
}

-- ---- blocks

pub block_stays : (g h : ℕ → tree.VStmt) (n : ℕ) (ids : List StmtRef) → ((k : ℕ) → k < n → h k ≡ g k) → are_stmts_below ids n ≡ true → plant_block h ids ≡ plant_block g ids
block_stays g h n [] s b = refl
block_stays g h n (i ∷ is) s b = let p = both _ _ b in rw (s i.place (ltb-true i.place n p.0), block_stays g h n is s p.1) refl

else_stays : (g h : ℕ → tree.VStmt) (n : ℕ) (o : Option (List StmtRef)) → ((k : ℕ) → k < n → h k ≡ g k) → is_else_below o n ≡ true → plant_else h o ≡ plant_else g o
else_stays g h n None s b = refl
else_stays g h n (Some ids) s b = ap tree.Else (block_stays g h n ids s b)

pub below_wider : (ids : List StmtRef) (n m : ℕ) → are_stmts_below ids n ≡ true → n ≤ m → are_stmts_below ids m ≡ true
below_wider [] n m h l = refl
below_wider (i ∷ is) n m h l =
    let p = both _ _ h in
    let q = ltb-true i.place n p.0 in
    rw (lt-ltb i.place m (omega arith), below_wider is n m p.1 l) refl

below_more : (ids : List StmtRef) (i : StmtRef) (n : ℕ) → are_stmts_below ids n ≡ true → i.place < n → are_stmts_below (ids ++ i ∷ []) n ≡ true
below_more [] i n h l = rw (lt-ltb i.place n l) refl
below_more (x ∷ xs) i n h l = let p = both (nat_lt x.place n) (are_stmts_below xs n) h in rw (p.0, below_more xs i n p.1 l) refl

-- a block that was put stays
pub kept_block : (n0 n1 n2 : NodeLists) (ids : List StmtRef) (b : tree.VBlock) → PutBlock n0 n1 ids b → Grows n1 n2 → PutBlock n0 n2 ids b
kept_block n0 n1 n2 ids b p g = record {
  grows = grows_then n0 n1 n2 p.grows g;
  within = below_wider ids (length n1.stmts) (length n2.stmts) p.within g.longer;
  tree = block_stays (stmt_tree n1) (stmt_tree n2) (length n1.stmts) ids g.stays p.within ∙ p.tree;
}

-- the parts of a condition stand
pub parts_below : (n0 n1 n2 n3 : NodeLists) (so : List StmtRef) (other : Option (List StmtRef)) (b : tree.VBlock) (r : tree.VElse) → PutBlock n0 n1 so b → PutElse n1 n2 other r → GrowsExprs n2 n3
    → IsTrue (are_stmts_below so (length n3.stmts) && is_else_below other (length n3.stmts))
parts_below n0 n1 n2 n3 so other b r p q g = rw (g.stmts, below_wider so (length n1.stmts) (length n2.stmts) p.within q.grows.longer, q.within) refl

-- and so do those of one without an `else`
pub so_below : (n1 n2 : NodeLists) (so : List StmtRef) → are_stmts_below so (length n1.stmts) ≡ true → GrowsExprs n1 n2 → IsTrue (are_stmts_below so (length n2.stmts) && true)
so_below n1 n2 so h g = rw (g.stmts, h) refl

pub lone_below : (n0 n1 n2 : NodeLists) (lone : StmtRef) (so : List StmtRef) (t : tree.VStmt) → PutStmt n0 n1 lone.place t → so ≡ lone ∷ [] → GrowsExprs n1 n2 → IsTrue (are_stmts_below so (length n2.stmts) && true)
lone_below n0 n1 n2 lone so t p e g = rw (g.stmts, e, lt-ltb lone.place (length n1.stmts) p.within) refl

pub when_put : (n0 n1 n2 n3 n4 : NodeLists) (so : List StmtRef) (other : Option (List StmtRef)) (c : Ref) (b : tree.VBlock) (r : tree.VElse) (t : tree.VExpr) (i : ℕ)
    → PutBlock n0 n1 so b → PutElse n1 n2 other r → PutExpr n2 n3 c.place t → AddedStmt n3 n4 i (node.When c so other) → PutStmt n0 n4 i (tree.When t b r)
when_put n0 n1 n2 n3 n4 so other c b r t i p q put a =
    let start = kept_block n0 n1 n3 so b p (grows_then n1 n2 n3 q.grows (by_exprs n2 n3 put.grows)) in
    let rest = else_stays (stmt_tree n2) (stmt_tree n3) (length n2.stmts) other (λ k l. put.grows.stays k) q.within ∙ q.tree in
    record {
      grows = grows_then n0 n3 n4 start.grows a.grows;
      within = a.within;
      is =
          a.is
          ∙ ap (λ (x : tree.VExpr). tree.When x (plant_block (stmt_tree n3) so) (plant_else (stmt_tree n3) other)) put.is
          ∙ ap (λ (x : tree.VBlock). tree.When t x (plant_else (stmt_tree n3) other)) start.tree
          ∙ ap (tree.When t b) rest;
    }

-- ---- lists of a block's statements

trees_stay : (g h : ℕ → tree.VStmt) (n : ℕ) (ids : List StmtRef) → ((k : ℕ) → k < n → h k ≡ g k) → are_stmts_below ids n ≡ true → trees_of h ids ≡ trees_of g ids
trees_stay g h n [] s b = refl
trees_stay g h n (i ∷ is) s b = let p = both _ _ b in rw (s i.place (ltb-true i.place n p.0), trees_stay g h n is s p.1) refl

trees_then : (g : ℕ → tree.VStmt) (ids : List StmtRef) (i : StmtRef) → trees_of g (ids ++ i ∷ []) ≡ trees_of g ids ++ g i.place ∷ []
trees_then g [] i = refl
trees_then g (x ∷ xs) i = ap (λ (ts : List tree.VStmt). g x.place ∷ ts) (trees_then g xs i)

pub stmts_more : (n0 n1 n2 : NodeLists) (before after : List StmtRef) (ts : List tree.VStmt) (i : StmtRef) (t : tree.VStmt) → PutStmts n0 n1 before after ts → PutStmt n1 n2 i.place t
    → PutStmts n0 n2 before (after ++ i ∷ []) (ts ++ t ∷ [])
stmts_more n0 n1 n2 before after ts i t p q = record {
  grows = grows_then n0 n1 n2 p.grows q.grows;
  within = below_more after i (length n2.stmts) (below_wider after (length n1.stmts) (length n2.stmts) p.within q.grows.longer) q.within;
  trees =
      trees_then (stmt_tree n2) after i
      ∙ ap (λ (x : tree.VStmt). trees_of (stmt_tree n2) after ++ x ∷ []) q.is
      ∙ ap (λ (xs : List tree.VStmt). xs ++ t ∷ []) (trees_stay (stmt_tree n1) (stmt_tree n2) (length n1.stmts) after q.grows.stays p.within ∙ p.trees)
      ∙ append_assoc (trees_of (stmt_tree n0) before) ts (t ∷ []);
}

pub texts_more : (g : ℕ → tree.VStmt) (ids : List StmtId) (k : ℕ) (z : StmtId) → k < length ids → texts_of g (take (k + 1) ids) ≡ texts_of g (take k ids) ++ g (get_or ids k z).place ∷ []
texts_more g ids k z h =
    ap (λ (n : ℕ). texts_of g (take n ids)) (add-one k)
    ∙ ap (texts_of g) (take-suc ids k z h)
    ∙ texts_then g (take k ids) (get_or ids k z)
  where
    texts_then : (g : ℕ → tree.VStmt) (ids : List StmtId) (i : StmtId) → texts_of g (ids ++ i ∷ []) ≡ texts_of g ids ++ g i.place ∷ []
    texts_then g [] i = refl
    texts_then g (x ∷ xs) i = ap (λ (ts : List tree.VStmt). g x.place ∷ ts) (texts_then g xs i)

-- statements before the end of a block
abbrev pub before_end : List tree.VStmt → tree.VBlock → tree.VBlock
before_end [] end = end
before_end (t ∷ ts) end = tree.InBlock t (before_end ts end)

pub end_after : (xs ys : List tree.VStmt) (end : tree.VBlock) → before_end (xs ++ ys) end ≡ before_end xs (before_end ys end)
end_after [] ys end = refl
end_after (x ∷ xs) ys end = ap (tree.InBlock x) (end_after xs ys end)

pub block_of : (g : ℕ → tree.VStmt) (ids : List StmtRef) → plant_block g ids ≡ before_end (trees_of g ids) tree.EndBlock
block_of g [] = refl
block_of g (i ∷ is) = ap (tree.InBlock (g i.place)) (block_of g is)

pub texts_block : (g : ℕ → tree.VStmt) (ids : List StmtId) (end : tree.VBlock) → before_end (texts_of g ids) end ≡ block_onto g ids end
texts_block g [] end = refl
texts_block g (i ∷ is) end = ap (tree.InBlock (g i.place)) (texts_block g is end)

-- a list that began empty
pub block_put : (n0 n1 : NodeLists) (before after : List StmtRef) (g : ℕ → tree.VStmt) (ids : List StmtId) → before ≡ [] → PutStmts n0 n1 before after (texts_of g ids) → PutBlock n0 n1 after (block_onto g ids tree.EndBlock)
block_put n0 n1 before after g ids e p = record {
  grows = p.grows;
  within = p.within;
  tree =
      block_of (stmt_tree n1) after
      ∙ ap (λ (ts : List tree.VStmt). before_end ts tree.EndBlock) (p.trees ∙ ap (λ (is : List StmtRef). trees_of (stmt_tree n0) is ++ texts_of g ids) e)
      ∙ texts_block g ids tree.EndBlock;
}
