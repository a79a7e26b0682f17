-- The nodes of a whole tree.
use Rattle.std.proofs.Common.{ℕ, zero, suc, true, ◌≡◌, ◌<◌, ◌++◌, List, [], ◌∷◌, refl, ap, ◌∙◌, sym, subst, arith, map, length, Option, Some, None, slice_get, inl, inr}
use Rattle.std.proofs.lemmas.Bool.{cases_lt, lt-ltb}
use Rattle.std.proofs.lemmas.Option.{slice_get_within}
use Rattle.std.proofs.lemmas.List.{length_push}
use Rattle.lx_arena.specs.Folds.{Same}
use Rattle.lx_arena.specs.Lower.{EachLower}
use Rattle.lx_arena.specs.declared.Id.{Id}
use Rattle.lx_arena.proofs.Places.{by_places, each_lower, get_front, get_last, lower_at}
use Rattle.lx_grammar.specs.Derives.{Tree}
use Rattle.lx_pytree.specs.declared.tree.PyNodes.{PyNodes}
use Rattle.lx_syntax.specs.declared.forms.ClassForm.{ClassForm}
use Rattle.lx_syntax.specs.declared.forms.ExprForm.{ExprForm}
use Rattle.lx_syntax.specs.declared.forms.Node.{Node}
use Rattle.lx_syntax.specs.declared.forms.Parameter.{Parameter}
use Rattle.lx_syntax.specs.declared.forms.Program.{Program}
use Rattle.lx_syntax.specs.declared.forms.StmtForm.{StmtForm}
use Rattle.lx_syntax.specs.Ast as ast
use Rattle.lx_syntax.specs.Classes.{classes}
use Rattle.lx_syntax.specs.Classing.{AllLower, AreClasses}
use Rattle.lx_syntax.specs.Convert.{expr, line_of, stmt, text_of}
use Rattle.lx_syntax.specs.Forms.{Exprs_at, Ids, Lower, bound_at, class_form, class_ids, classes_of, expr_at, expr_form, expr_ids, expr_of, ids_below, node_below, node_ids, option_ids, param_at, param_ids, stmt_at, stmt_form, stmt_ids, stmt_of}
use Rattle.lx_syntax.specs.Programs.{IsProgram}
use Rattle.lx_syntax.specs.Says.{AreNodes, HaveLines, IsExprAt, IsNode, IsStmtAt, exprs_of, stmts_of}
use Rattle.lx_syntax.proofs.Standing.{back_lower, block_same, expr_node, form_same, front_lower, lower_of, stmt_node, stmt_same}
use Rattle.lx_syntax.proofs.Trailing.{lower_both}

below_of : (n : ℕ) (ids : Ids) → Lower n ids → ids_below n ids ≡ true
unfolding ids_below Lower
below_of n [] h = refl
below_of n (id ∷ ids) h = rw (lt-ltb id.place n h.0, below_of n ids h.1) refl

pub have_lines : (src : List ℕ) (t : ℕ → Tree) (nodes : List Node) → AreNodes src t nodes → HaveLines t nodes
have_lines src t nodes are k node e = (are k node e).line

pub node_made : (src : List ℕ) (t : ℕ → Tree) (k line : ℕ) (e : ExprForm) (s : StmtForm) → line ≡ line_of (t k) → IsExprAt src t k e → IsStmtAt src t k s → IsNode src t k (record { line = line; expr = e; stmt = s })
node_made src t k line e s l x y = record { line = l; expr = x; stmt = y }

pub nodes_none : (src : List ℕ) (t : ℕ → Tree) (nodes : List Node) → nodes ≡ [] → AreNodes src t nodes
nodes_none src t nodes e k node at = absurd (cc)

pub nodes_more : (src : List ℕ) (t : ℕ → Tree) (id : Id PyNodes) (old new : List Node) (node : Node) → AreNodes src t old → id.place ≡ length old → IsNode src t id.place node → new ≡ old ++ node ∷ [] → AreNodes src t new
nodes_more src t id old new node are at is e = subst (AreNodes src t) (sym e) (λ k x p.
    elim (cases_lt k (length old)) [
      | inl l ↦ are k x (sym (get_front old (node ∷ []) k l) ∙ p)
      | inr l ↦
          let within = slice_get_within (old ++ node ∷ []) k x p in
          let one = length_push old node in
          let q : length old ≡ k = omega arith in
          let last : slice_get (old ++ node ∷ []) k ≡ Some node = subst (λ (j : ℕ). slice_get (old ++ node ∷ []) j ≡ Some node) q (get_last old node) in
          let same : node ≡ x = cc in
          subst (λ z. IsNode src t k z) same (subst (λ (j : ℕ). IsNode src t j node) (at ∙ q) is)
    ])

-- ---- the trees of the arena

node_low : (src : List ℕ) (t : ℕ → Tree) (k : ℕ) (node : Node) → IsNode src t k node → node_below node k ≡ true
node_low src t k node is = below_of k (node_ids node) (lower_both k (expr_ids node.expr) (stmt_ids node.stmt) is.expr.lower is.stmt.lower)

pub each_low : (src : List ℕ) (t : ℕ → Tree) (nodes : List Node) → AreNodes src t nodes → EachLower node_below nodes
each_low src t nodes are = each_lower node_below nodes (λ k node e. node_low src t k node (are k node e))

pub expr_says : (src : List ℕ) (t : ℕ → Tree) (nodes : List Node) → AreNodes src t nodes → (k : ℕ) → k < length nodes → expr_at src nodes k ≡ expr src (t k)
expr_says src t nodes are = by_places (λ k. expr_at src nodes k ≡ expr src (t k)) nodes (λ k node e below.
    let is : IsNode src t k node = are k node e in
    expr_node src nodes k node (each_low src t nodes are) e
    ∙ form_same src (expr_at src nodes) (exprs_of src t) k node.line node.expr below is.expr.lower
    ∙ ap (λ line. expr_form src (exprs_of src t) line node.expr) is.line ∙ is.expr.says)

pub stmt_says : (src : List ℕ) (t : ℕ → Tree) (nodes : List Node) → AreNodes src t nodes → (k : ℕ) → k < length nodes → stmt_at src nodes k ≡ stmt src (t k)
stmt_says src t nodes are = by_places (λ k. stmt_at src nodes k ≡ stmt src (t k)) nodes (λ k node e below.
    let is : IsNode src t k node = are k node e in
    let inside : k < length nodes = slice_get_within nodes k node e in
    stmt_node src nodes k node (each_low src t nodes are) e
    ∙ stmt_same src (expr_at src nodes) (exprs_of src t) (stmt_at src nodes) (stmts_of src t) k node.line node.stmt (λ j l. expr_says src t nodes are j (omega (arith, l, inside))) below is.stmt.lower
    ∙ ap (λ line. stmt_form src (exprs_of src t) (stmts_of src t) line node.stmt) is.line ∙ is.stmt.says)

-- ---- classes

option_same : (f g : Exprs_at) (n : ℕ) (o : Option (Id PyNodes)) (rest : Ids) → Same f g n → Lower n (option_ids o rest) → (bound_at f o ≡ bound_at g o) × Lower n rest
unfolding bound_at Lower
option_same f g n None rest s h = (refl, h)
option_same f g n (Some id) rest s h = (ap (λ e. ast.more e ast.none) (s id.place h.0), h.1)

params_same : (src : List ℕ) (f g : Exprs_at) (n : ℕ) (ps : List Parameter) → Same f g n → Lower n (param_ids ps) → map (param_at src f) ps ≡ map (param_at src g) ps
unfolding param_ids
params_same src f g n [] s h = refl
params_same src f g n (p ∷ ps) s h =
    let both = option_same f g n p.default (param_ids ps) s h in
    ap (λ d. record { name = text_of src p.name; default = d } ∷ map (param_at src f) ps) both.0 ∙ ap (λ qs. param_at src g p ∷ qs) (params_same src f g n ps s both.1)

class_same : (src : List ℕ) (e h : Exprs_at) (f g : ℕ → ast.Stmt) (n : ℕ) (c : ClassForm) → Same e h n → Same f g n → Lower n (class_ids c) → class_form src e f c ≡ class_form src h g c
class_same src e h f g n c r s low =
    let params = params_same src e h n c.params r (front_lower n (param_ids c.params) c.body low) in
    let body = block_same f g n c.body s (back_lower n (param_ids c.params) c.body low) in
    rw (params, body) refl

same_classes : (src : List ℕ) (e h : Exprs_at) (f g : ℕ → ast.Stmt) (n : ℕ) (cs : List ClassForm) → Same e h n → Same f g n → AllLower n cs → map (class_form src e f) cs ≡ map (class_form src h g) cs
same_classes src e h f g n [] r s low = refl
same_classes src e h f g n (c ∷ cs) r s low =
    ap (λ x. x ∷ map (class_form src e f) cs) (class_same src e h f g n c r s (low zero c refl)) ∙ ap (λ xs. class_form src h g c ∷ xs) (same_classes src e h f g n cs r s (λ k d at. low (suc k) d at))

pub is_program : (src text : List ℕ) (t : ℕ → Tree) (k : ℕ) (nodes : List Node) (cs : List ClassForm) → AreNodes src t nodes → AreClasses src t (length nodes) k cs → IsProgram (record { src = text; nodes = nodes; classes = cs })
is_program src text t k nodes cs are is = record { lower = each_low src t nodes are; classes = is.lower }

pub classes_are : (src text : List ℕ) (t : ℕ → Tree) (k : ℕ) (nodes : List Node) (cs : List ClassForm) → AreNodes src t nodes → AreClasses src t (length nodes) k cs → text ≡ src → classes_of (record { src = text; nodes = nodes; classes = cs }) ≡ classes src (t k)
classes_are src text t k nodes cs are is e =
    ap (λ s. classes_of (record { src = s; nodes = nodes; classes = cs })) e
    ∙ same_classes src (expr_at src nodes) (exprs_of src t) (stmt_at src nodes) (stmts_of src t) (length nodes) cs (expr_says src t nodes are) (stmt_says src t nodes are) is.lower
    ∙ is.says

-- ---- a program's nodes

pub node_expr : (p : Program) (k : ℕ) (node : Node) → IsProgram p → slice_get p.nodes k ≡ Some node → expr_of p k ≡ expr_form p.src (expr_of p) node.line node.expr
node_expr p k node is e = expr_node p.src p.nodes k node is.lower e

pub node_stmt : (p : Program) (k : ℕ) (node : Node) → IsProgram p → slice_get p.nodes k ≡ Some node → stmt_of p k ≡ stmt_form p.src (expr_of p) (stmt_of p) node.line node.stmt
node_stmt p k node is e = stmt_node p.src p.nodes k node is.lower e

pub class_lower : (p : Program) (k : ℕ) (c : ClassForm) → IsProgram p → slice_get p.classes k ≡ Some c → Lower (length p.nodes) (class_ids c)
class_lower p k c is e = is.classes k c e

pub node_lower : (p : Program) (k : ℕ) (node : Node) → IsProgram p → slice_get p.nodes k ≡ Some node → Lower k (node_ids node)
node_lower p k node is e = lower_of k (node_ids node) (lower_at node_below p.nodes is.lower k node e)
