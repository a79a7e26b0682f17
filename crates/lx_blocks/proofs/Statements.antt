-- The texts of a design's statements, from those of the statements inside.
use Rattle.std.proofs.Common.{◌≡◌, ℕ, Bool, true, List, [], ◌∷◌, refl, sym, ap, ◌∙◌, ltb-true}
use Rattle.std.specs.Prelude.{Some, slice_get}
use Rattle.lx_arena.specs.Lower.{EachLower}
use Rattle.lx_arena.specs.Folds.{Same}
use Rattle.lx_arena.proofs.Folds.{fold_at-is}
use Rattle.lx_vtext.specs.Tree.{Name}
use Rattle.lx_vtree.proofs.Exprs.{both}
use Rattle.lx_fhdl.specs.Below.{StmtId, all_stmts_below, all_branches_below, stmt_below}
use Rattle.lx_fhdl.specs.declared.stmts.Branch.{Branch}
use Rattle.lx_fhdl.specs.declared.stmts.Stmt.{Stmt}
use Rattle.lx_fhdl.specs.declared.design.Design.{Design}
use Rattle.lx_emission.specs.Nodes.{operand}
use Rattle.lx_emission.specs.Texts.{block_onto, else_text, if_text, no_text, node_stmt_text, stmt_text}
use Rattle.lx_vtext.specs.Tree as tree
use Rattle.lx_fhdl.specs.declared.stmts.Stmt.TheVariants as node

onto_same : (f g : ℕ → tree.VStmt) (n : ℕ) (ids : List StmtId) (end : tree.VBlock) → Same f g n → all_stmts_below n ids ≡ true → block_onto f ids end ≡ block_onto g ids end
onto_same f g n [] end s h = refl
onto_same f g n (i ∷ is) end s h = let p = both _ _ h in rw (s i.place (ltb-true i.place n p.0), onto_same f g n is end s p.1) refl

else_same : (f g : ℕ → tree.VStmt) (n : ℕ) (ids : List StmtId) → Same f g n → all_stmts_below n ids ≡ true → else_text f ids ≡ else_text g ids
else_same f g n [] s h = refl
else_same f g n (i ∷ is) s h = ap tree.Else (onto_same f g n (i ∷ is) tree.EndBlock s h)

if_same : (o : ℕ → tree.VExpr) (f g : ℕ → tree.VStmt) (n : ℕ) (bs : List Branch) (rest : List StmtId) → Same f g n → all_branches_below n bs ≡ true → all_stmts_below n rest ≡ true → if_text o f bs rest ≡ if_text o g bs rest
if_same o f g n [] rest s h l = refl
if_same o f g n (b ∷ bs) rest s h l = let p = both _ _ h in rw (onto_same f g n b.body tree.EndBlock s p.0, else_same f g n rest s l) refl

text_same : (d : Design) (names : List Name) (now : Bool) (f g : ℕ → tree.VStmt) (n : ℕ) (x : Stmt) → Same f g n → stmt_below x n ≡ true → node_stmt_text d names now f x ≡ node_stmt_text d names now g x
text_same d names now f g n (node.Assign target value line) s h = refl
text_same d names now f g n (node.If branches rest line) s h = let p = both _ _ h in if_same (operand d names) f g n branches rest s p.0 p.1
text_same d names now f g n (node.Case on arms rest line) s h = refl

pub text_is : (d : Design) (names : List Name) (now : Bool) (k : ℕ) (x : Stmt) → EachLower stmt_below d.stmts → slice_get d.stmts k ≡ Some x → stmt_text d names now k ≡ node_stmt_text d names now (stmt_text d names now) x
unfolding stmt_text
text_is d names now k x low e =
    fold_at-is stmt_below no_text (node_stmt_text d names now) (record { same = text_same d names now }) d.stmts low k x e

-- the one item of a list
pub first_is : {T : Type 0} (xs : List T) (x y : T) → xs ≡ x ∷ [] → slice_get xs 0 ≡ Some y → y ≡ x
first_is xs x y e f = let g : slice_get (x ∷ []) 0 ≡ Some y = ap (λ (zs : List _). slice_get zs 0) (sym e) ∙ f in cc

-- the text of a condition with one branch
pub if_is : (d : Design) (names : List Name) (now : Bool) (k : ℕ) (x : Stmt) (branches : List Branch) (b c : Branch) (rest ids : List StmtId) (line : ℕ) → EachLower stmt_below d.stmts → slice_get d.stmts k ≡ Some x → x ≡ node.If branches rest line → branches ≡ b ∷ [] → c ≡ b → ids ≡ rest
    → tree.When (operand d names c.cond.place) (block_onto (stmt_text d names now) c.body tree.EndBlock) (else_text (stmt_text d names now) ids) ≡ stmt_text d names now k
if_is d names now k x branches b c rest ids line low e f g h i =
    ap (λ (y : Branch). tree.When (operand d names y.cond.place) (block_onto (stmt_text d names now) y.body tree.EndBlock) (else_text (stmt_text d names now) ids)) h
    ∙ ap (λ (js : List StmtId). if_text (operand d names) (stmt_text d names now) (b ∷ []) js) i
    ∙ ap (λ (bs : List Branch). if_text (operand d names) (stmt_text d names now) bs rest) (sym g)
    ∙ sym (text_is d names now k (node.If branches rest line) low (e ∙ ap (λ (z : Stmt). Some z) f))
