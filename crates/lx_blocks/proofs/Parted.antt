-- What a lowered statement is made of.
use Rattle.std.proofs.Common.{◌≡◌, ℕ, ◌<◌, true, false, ◌&&◌, ◌⊎◌, inl, inr, List, [], ◌∷◌, length, refl, sym, ap, subst, ◌∙◌}
use Rattle.std.specs.Prelude.{Some, slice_get, IsTrue}
use Rattle.lx_vtree.proofs.Exprs.{both}
use Rattle.lx_fhdl.specs.Below.{ExprId, TargetId, StmtId, all_stmts_below, all_branches_below, stmt_below}
use Rattle.lx_fhdl.specs.Designs.{shapes, term, target, stmt, block}
use Rattle.lx_fhdl.specs.Keeping.{TargetStands, StmtStands, Keeps}
use Rattle.lx_fhdl.specs.Lowered.{is_plain_target, is_lone, is_for, branches_are_for, are_for, IsPlain, ArePlain}
use Rattle.lx_fhdl.specs.Stmts.{branches_at, node_stmt}
use Rattle.lx_fhdl.specs.declared.stmts.Target.{Target}
use Rattle.lx_fhdl.specs.declared.stmts.Branch.{Branch}
use Rattle.lx_fhdl.specs.declared.stmts.Stmt.{Stmt}
use Rattle.lx_fhdl.specs.declared.design.Design.{Design}
use Rattle.lx_sheet.specs.Drives.{IsPlainTarget}
use Rattle.lx_sheet.proofs.Inside.{stmt_is, target_is}
use Rattle.lx_circuit.specs.Statements as circuit
use Rattle.lx_fhdl.specs.declared.stmts.Target.TheVariants as of
use Rattle.lx_fhdl.specs.declared.stmts.Stmt.TheVariants as node

pub target_stands : (d : Design) (k : ℕ) (x y : Target) → Keeps d → slice_get d.targets k ≡ Some x → x ≡ y → TargetStands (shapes d) (length d.signals) d.exprs y
target_stands d k x y keeps e f = keeps.arenas.targets k y (e ∙ ap (λ (z : Target). Some z) f)

-- a target of several signals
abbrev pub IsMany : Target → Type 0
IsMany x = ((parts : List TargetId) × (x ≡ of.Cat parts)) ⊎ ((items : List TargetId) × (index : ExprId) × (x ≡ of.Pick items index))

many : (d : Design) (x : ℕ) (k : ℕ) (y : Target) → Keeps d → slice_get d.targets k ≡ Some y → IsMany y → is_plain_target x (target d k) ≡ false
many d x k y keeps e (inl (parts, f)) = ap (is_plain_target x) (target_is d k (of.Cat parts) keeps (e ∙ ap (λ (z : Target). Some z) f))
many d x k y keeps e (inr (items, index, f)) = ap (is_plain_target x) (target_is d k (of.Pick items index) keeps (e ∙ ap (λ (z : Target). Some z) f))

pub not_many : (d : Design) (k : ℕ) (y : Target) → Keeps d → IsPlainTarget (target d k) → slice_get d.targets k ≡ Some y → IsMany y → ⊥
not_many d k y keeps p e m = let f : true ≡ false = sym p.alone ∙ many d p.signal k y keeps e m in absurd (cc)

-- ---- statements

pub stmt_stands : (d : Design) (k : ℕ) (x y : Stmt) → Keeps d → slice_get d.stmts k ≡ Some x → x ≡ y → StmtStands (length d.exprs) (length d.targets) y
stmt_stands d k x y keeps e f = keeps.arenas.stmts k y (e ∙ ap (λ (z : Stmt). Some z) f)

plain_node : (d : Design) (k : ℕ) (x y : Stmt) → Keeps d → IsPlain (stmt d k) → slice_get d.stmts k ≡ Some x → x ≡ y → IsPlain (node_stmt (term d) (target d) (stmt d) y)
plain_node d k x y keeps p e f = subst (λ (s : circuit.Stmt). IsPlain s) (stmt_is d k y keeps (e ∙ ap (λ (z : Stmt). Some z) f)) p

plain_all : (x : ℕ) (b : circuit.Block) → are_for x b ≡ true → ArePlain b
plain_all x circuit.Done h = tt
plain_all x (circuit.Then s ss) h = let p = both (is_for x s) (are_for x ss) h in (record { signal = x; alone = p.0 }, plain_all x ss p.1)

-- the one branch of a condition, and the rest
pub record IsLoneIf (d : Design) (k : ℕ) (branches : List Branch) (rest : List StmtId) : Type 0 where
  pub branch : Branch
  pub lone : branches ≡ branch ∷ []
  pub cond : branch.cond.place < length d.exprs
  pub body : IsTrue (all_stmts_below k branch.body)
  pub below : IsTrue (all_stmts_below k rest)
  pub plain_body : ArePlain (block d branch.body)
  pub plain_rest : ArePlain (block d rest)

lone : (d : Design) (k : ℕ) (branches : List Branch) (rest : List StmtId) (line : ℕ) → IsPlain (node_stmt (term d) (target d) (stmt d) (node.If branches rest line)) → StmtStands (length d.exprs) (length d.targets) (node.If branches rest line) → IsTrue (stmt_below (node.If branches rest line) k)
    → IsLoneIf d k branches rest
lone d k [] rest line p s b = let h : false ≡ true = p.alone in absurd (cc)
lone d k (x ∷ (y ∷ ys)) rest line p s b = let h : false ≡ true = p.alone in absurd (cc)
lone d k (x ∷ []) rest line p s b =
    let f = both (is_lone (branches_at (term d) (stmt d) (x ∷ [])) (block d rest)) (branches_are_for p.signal (branches_at (term d) (stmt d) (x ∷ [])) && are_for p.signal (block d rest)) p.alone in
    let g = both (branches_are_for p.signal (branches_at (term d) (stmt d) (x ∷ []))) (are_for p.signal (block d rest)) f.1 in
    let l = both (all_branches_below k (x ∷ [])) (all_stmts_below k rest) b in
    record {
      branch = x;
      lone = refl;
      cond = s.0;
      body = (both (all_stmts_below k x.body) true l.0).0;
      below = l.1;
      plain_body = plain_all p.signal (block d x.body) (both (are_for p.signal (block d x.body)) true g.0).0;
      plain_rest = plain_all p.signal (block d rest) g.1;
    }

pub lone_if : (d : Design) (k : ℕ) (x : Stmt) (branches : List Branch) (rest : List StmtId) (line : ℕ) → Keeps d → IsPlain (stmt d k) → slice_get d.stmts k ≡ Some x → IsTrue (stmt_below x k) → x ≡ node.If branches rest line → IsLoneIf d k branches rest
lone_if d k x branches rest line keeps p e l f =
    lone d k branches rest line (plain_node d k x (node.If branches rest line) keeps p e f) (stmt_stands d k x (node.If branches rest line) keeps e f) (ap (λ (z : Stmt). stmt_below z k) (sym f) ∙ l)
