-- The blocks that drive signals, and their resets.
use Rattle.std.proofs.Common.{◌≡◌, ℕ, true, false, List, [], ◌∷◌, ◌++◌, length, lt-ltb, refl, sym, ap, subst, ◌∙◌}
use Rattle.std.specs.Prelude.{Option, Some, None, slice_get}
use Rattle.lx_circuit.specs.Circuit.{Made, made}
use Rattle.lx_vtext.specs.Tree.{Name}
use Rattle.lx_vtree.specs.Below.{Ref}
use Rattle.lx_vtree.specs.Growth.{PutExpr, PutStmt, AddedStmt}
use Rattle.lx_vtree.specs.NodeLists.{NodeLists, stmt_tree}
use Rattle.lx_vtree.specs.Stmts.{StmtRef, plant_block}
use Rattle.lx_vtree.proofs.Grown.{grows_same, grows_then}
use Rattle.lx_fhdl.specs.Below.{StmtId}
use Rattle.lx_fhdl.specs.Designs.{circuit_of}
use Rattle.lx_fhdl.specs.declared.exprs.SigId.{SigId}
use Rattle.lx_fhdl.specs.declared.design.Signal.{Signal}
use Rattle.lx_fhdl.specs.declared.design.Domain.{Domain}
use Rattle.lx_fhdl.specs.declared.design.Design.{Design}
use Rattle.lx_emission.specs.Naming.{net}
use Rattle.lx_emission.specs.Signals.{reset_block, domain_reset}
use Rattle.lx_emission.specs.Texts.{block_onto}
use Rattle.lx_sheet.specs.Plans.{Plan}
use Rattle.lx_blocks.specs.Plans.{reset_assign_in}
use Rattle.lx_blocks.specs.Puts.{IsTarget, PutBlock, PutElse, PutStmts, trees_of, texts_of}
use Rattle.lx_blocks.specs.Resets.{reset_stmt, block_by}
use Rattle.lx_sheet.proofs.Owners.{made_is}
use Rattle.lx_blocks.proofs.Grown.{before_end, end_after, block_of, texts_block, when_put, stmts_more}
use Rattle.lx_vtext.specs.Tree as tree
use Rattle.lx_vtree.specs.declared.nodes.VStmt.TheVariants as node
use Rattle.lx_vtree.specs.declared.nodes.VTarget.TheVariants as target

-- ---- resets

less : (d : Design) (names : List Name) (k : ℕ) (o : Option SigId) → (made (circuit_of d) k).reset_less ≡ true → tree.EndBlock ≡ reset_block d names k o
less d names k None e = refl
less d names k (Some r) e = rw e refl

pub no_reset : (d : Design) (names : List Name) (k : ℕ) (s : Signal) (o : Option SigId) → slice_get d.signals k ≡ Some s → s.reset_less ≡ true → tree.EndBlock ≡ reset_block d names k o
no_reset d names k s o e f = less d names k o (ap (λ (m : Made). m.reset_less) (made_is d k s e) ∙ f)

taken : (p : Plan) (k : ℕ) (r : SigId) (n : Name) → (made (circuit_of p.design) k).reset_less ≡ false → n ≡ net p.names r.0 → block_by p k (Some n) ≡ reset_block p.design p.names k (Some r)
taken p k r n e f = rw (f, e) refl

-- the reset of a signal that takes part, by its name
pub some_reset : (p : Plan) (k : ℕ) (s : Signal) (n : ℕ) (x : Domain) (r : SigId) (m : Name) → slice_get p.design.signals k ≡ Some s → s.reset_less ≡ false → slice_get p.design.domains n ≡ Some x → x.reset ≡ Some r → m ≡ net p.names r.0
    → block_by p k (Some m) ≡ reset_block p.design p.names k (domain_reset (slice_get p.design.domains n))
some_reset p k s n x r m e f g h i =
    taken p k r m (ap (λ (a : Made). a.reset_less) (made_is p.design k s e) ∙ f) i
    ∙ ap (reset_block p.design p.names k) (sym h)
    ∙ ap (λ (o : Option Domain). reset_block p.design p.names k (domain_reset o)) (sym g)

-- that of a domain without one
pub without_reset : (p : Plan) (k n : ℕ) (x : Domain) → slice_get p.design.domains n ≡ Some x → x.reset ≡ None → block_by p k None ≡ reset_block p.design p.names k (domain_reset (slice_get p.design.domains n))
without_reset p k n x g h = ap (reset_block p.design p.names k) (sym h) ∙ ap (λ (o : Option Domain). reset_block p.design p.names k (domain_reset o)) (sym g)

-- the end of a block, where no reset applies, and where one does
pub no_end : (p : Plan) (k : ℕ) (o : Option Name) (end : tree.VBlock) → block_by p k o ≡ end → ((m : Name) → o ≡ Some m → ⊥) → tree.EndBlock ≡ end
no_end p k None end e h = e
no_end p k (Some m) end e h = absurd (h m refl)

pub reset_end : (p : Plan) (k : ℕ) (o : Option Name) (m : Name) (end : tree.VBlock) → block_by p k o ≡ end → o ≡ Some m → tree.InBlock (reset_stmt p k m) tree.EndBlock ≡ end
reset_end p k o m end e f = sym (ap (block_by p k) f) ∙ e

-- ---- targets and blocks

pub whole_is : (n m : Name) → n ≡ m → IsTarget (target.Whole n) (tree.Whole m)
whole_is n m e = record { tree = λ f. ap tree.Whole e; placed = λ k. refl }

-- a list that began empty
pub stmts_block : (n0 n1 : NodeLists) (before after : List StmtRef) (ts : List tree.VStmt) → before ≡ [] → PutStmts n0 n1 before after ts → PutBlock n0 n1 after (before_end ts tree.EndBlock)
stmts_block n0 n1 before after ts e p = record {
  grows = p.grows;
  within = p.within;
  tree =
      block_of (stmt_tree n1) after
      ∙ ap (λ (us : List tree.VStmt). before_end us tree.EndBlock) (p.trees ∙ ap (λ (is : List StmtRef). trees_of (stmt_tree n0) is ++ ts) e);
}

pub combined_put : (n0 n1 n2 : NodeLists) (first : StmtRef) (before after : List StmtRef) (t : tree.VStmt) (g : ℕ → tree.VStmt) (ids : List StmtId)
    → PutStmt n0 n1 first.place t → before ≡ first ∷ [] → PutStmts n1 n2 before after (texts_of g ids) → PutBlock n0 n2 after (tree.InBlock t (block_onto g ids tree.EndBlock))
combined_put n0 n1 n2 first before after t g ids p e q = record {
  grows = grows_then n0 n1 n2 p.grows q.grows;
  within = q.within;
  tree =
      block_of (stmt_tree n2) after
      ∙ ap (λ (us : List tree.VStmt). before_end us tree.EndBlock) (q.trees ∙ ap (λ (is : List StmtRef). trees_of (stmt_tree n1) is ++ texts_of g ids) e)
      ∙ ap (λ (u : tree.VStmt). tree.InBlock u (before_end (texts_of g ids) tree.EndBlock)) p.is
      ∙ ap (tree.InBlock t) (texts_block g ids tree.EndBlock);
}

pub clocked_put : (n0 n1 : NodeLists) (before after : List StmtRef) (g : ℕ → tree.VStmt) (ids : List StmtId) (end : tree.VBlock)
    → before ≡ [] → PutStmts n0 n1 before after (texts_of g ids) → tree.EndBlock ≡ end → PutBlock n0 n1 after (block_onto g ids end)
clocked_put n0 n1 before after g ids end e p f =
    subst (λ (b : tree.VBlock). PutBlock n0 n1 after b) (texts_block g ids tree.EndBlock ∙ ap (block_onto g ids) f) (stmts_block n0 n1 before after (texts_of g ids) e p)

pub reset_put : (n0 n1 n2 : NodeLists) (before between : List StmtRef) (last : StmtRef) (g : ℕ → tree.VStmt) (ids : List StmtId) (t : tree.VStmt) (end : tree.VBlock)
    → before ≡ [] → PutStmts n0 n1 before between (texts_of g ids) → PutStmt n1 n2 last.place t → tree.InBlock t tree.EndBlock ≡ end → PutBlock n0 n2 (between ++ last ∷ []) (block_onto g ids end)
reset_put n0 n1 n2 before between last g ids t end e p q f =
    subst (λ (b : tree.VBlock). PutBlock n0 n2 (between ++ last ∷ []) b)
    (end_after (texts_of g ids) (t ∷ []) tree.EndBlock ∙ texts_block g ids (tree.InBlock t tree.EndBlock) ∙ ap (block_onto g ids) f)
    (stmts_block n0 n2 before (between ++ last ∷ []) (texts_of g ids ++ t ∷ []) e (stmts_more n0 n1 n2 before between (texts_of g ids) last t p q))

pub no_else : (n : NodeLists) → PutElse n n None tree.NoElse
no_else n = record { grows = grows_same n; within = refl; tree = refl }

lone_block : (n0 n1 : NodeLists) (i : StmtRef) (ids : List StmtRef) (t : tree.VStmt) → PutStmt n0 n1 i.place t → ids ≡ i ∷ [] → PutBlock n0 n1 ids (tree.InBlock t tree.EndBlock)
lone_block n0 n1 i ids t p e = record {
  grows = p.grows;
  within = rw (e, lt-ltb i.place (length n1.stmts) p.within) refl;
  tree = ap (plant_block (stmt_tree n1)) e ∙ ap (λ (u : tree.VStmt). tree.InBlock u tree.EndBlock) p.is;
}

-- one statement under a condition
pub lone_when : (n0 n1 n2 n3 : NodeLists) (lone : StmtRef) (so : List StmtRef) (c : Ref) (i : ℕ) (t : tree.VStmt) (u : tree.VExpr) → PutStmt n0 n1 lone.place t → so ≡ lone ∷ [] → PutExpr n1 n2 c.place u
    → AddedStmt n2 n3 i (node.When c so None) → PutStmt n0 n3 i (tree.When u (tree.InBlock t tree.EndBlock) tree.NoElse)
lone_when n0 n1 n2 n3 lone so c i t u p e put a =
    when_put n0 n1 n1 n2 n3 so None c (tree.InBlock t tree.EndBlock) tree.NoElse u i (lone_block n0 n1 lone so t p e) (no_else n1) put a

-- the signal takes its reset value where the reset is high
pub reset_stmt_put : (n0 n1 n2 n3 : NodeLists) (assign : StmtRef) (so : List StmtRef) (c : Ref) (i : ℕ) (p : Plan) (x : ℕ) (reset : Name)
    → PutStmt n0 n1 assign.place (reset_assign_in p false x) → so ≡ assign ∷ [] → PutExpr n1 n2 c.place (tree.Net reset)
    → AddedStmt n2 n3 i (node.When c so None) → PutStmt n0 n3 i (reset_stmt p x reset)
reset_stmt_put n0 n1 n2 n3 assign so c i p x reset q e put a = lone_when n0 n1 n2 n3 assign so c i (reset_assign_in p false x) (tree.Net reset) q e put a
