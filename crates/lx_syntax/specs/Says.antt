-- That a form says what a node of a tree says.
use Rattle.std.specs.Prelude.{ℕ, List, [], ◌∷◌, ◌≡◌, ◌<◌, Some, slice_get}
use Rattle.lx_arena.specs.declared.Id.{Id}
use Rattle.lx_token.specs.declared.tokens.Token.{Token}
use Rattle.lx_grammar.specs.declared.grammar.Rule.TheVariants as rule
use Rattle.lx_grammar.specs.Derives.{Tree, Grown, Parts}
use Rattle.lx_pytree.specs.declared.tree.PyNodes.{PyNodes}
use Rattle.lx_pytree.specs.declared.tree.PyPart.{PyPart}
use Rattle.lx_pytree.specs.declared.tree.PyPart.TheVariants as part
use Rattle.lx_pytree.specs.Trees.{plants}
use Rattle.lx_syntax.specs.declared.forms.Argument.{Argument}
use Rattle.lx_syntax.specs.declared.forms.Argument.TheVariants as argument
use Rattle.lx_syntax.specs.declared.forms.ExprForm.{ExprForm}
use Rattle.lx_syntax.specs.declared.forms.Node.{Node}
use Rattle.lx_syntax.specs.declared.forms.StmtForm.{StmtForm}
use Rattle.lx_syntax.specs.declared.forms.Trailer.{Trailer}
use Rattle.lx_syntax.specs.Ast.{Expr, Exprs, Stmt, Trailers}
use Rattle.lx_syntax.specs.Convert.{Keyed, Placed, Starred, Way, alone, arguments, bounds, expr, exprs, line_of, line_of_parts, of_two, spread, stmt, suite, tokens, way_of}
use Rattle.lx_syntax.specs.Forms.{Exprs_at, Ids, Lower, argument_ids, arguments_at, block_at, expr_form, expr_ids, items_at, stmt_form, stmt_ids, trailer_before, trailer_ids}

-- the trees that hang at places
abbrev pub Hung : Type 0
Hung = ℕ → Tree

-- what they say, as expressions and as statements
abbrev pub exprs_of : List ℕ → (ℕ → Tree) → Exprs_at
exprs_of src t k = expr src (t k)

abbrev pub stmts_of : List ℕ → (ℕ → Tree) → ℕ → Stmt
stmts_of src t k = stmt src (t k)

-- parts whose nodes stand at places lower than n
unfoldable pub PartsLower : ℕ → List PyPart → Type 0
PartsLower n [] = Unit {0}
PartsLower n (part.Token x ∷ ps) = PartsLower n ps
PartsLower n (part.Node id ∷ ps) = (id.place < n) × PartsLower n ps

-- the tokens and the nodes among parts
pub record IsSplit (ps : List PyPart) (xs : List Token) (ids : Ids) : Type 0 where
  pub tokens : (t : ℕ → Tree) → xs ≡ tokens (plants t ps)
  pub nodes : (src : List ℕ) (t : ℕ → Tree) → items_at (exprs_of src t) ids ≡ exprs src (plants t ps)
  pub lower : (n : ℕ) → PartsLower n ps → Lower n ids

-- what tokens, a line and nodes say
abbrev pub Word : Type 0
Word = List Token → ℕ → Exprs → Expr

-- a form that says a word of these tokens and nodes
pub record IsFlat (src : List ℕ) (word : Word) (xs : List Token) (ids : Ids) (form : ExprForm) : Type 0 where
  pub expr : (f : Exprs_at) (line : ℕ) → expr_form src f line form ≡ word xs line (items_at f ids)
  pub lower : (n : ℕ) → Lower n ids → Lower n (expr_ids form)

-- a form that says this of its only node
pub record IsAlone (src : List ℕ) (say : ℕ → Expr → Expr) (ids : Ids) (form : ExprForm) : Type 0 where
  pub expr : (f : Exprs_at) (line : ℕ) → expr_form src f line form ≡ alone (say line) (items_at f ids)
  pub lower : (n : ℕ) → Lower n ids → Lower n (expr_ids form)

-- a form that says this of its only two nodes
pub record IsPair (src : List ℕ) (say : ℕ → Expr → Expr → Expr) (ids : Ids) (form : ExprForm) : Type 0 where
  pub expr : (f : Exprs_at) (line : ℕ) → expr_form src f line form ≡ of_two (say line) (items_at f ids)
  pub lower : (n : ℕ) → Lower n ids → Lower n (expr_ids form)

-- a form that says this expression, of nodes at places lower than n
pub record IsExpr (src : List ℕ) (t : ℕ → Tree) (n line : ℕ) (e : Expr) (form : ExprForm) : Type 0 where
  pub says : expr_form src (exprs_of src t) line form ≡ e
  pub lower : Lower n (expr_ids form)

-- a form that says this of the parts of a node at the place n
abbrev pub SaysOf : List ℕ → (ℕ → Tree) → ℕ → List PyPart → (List ℕ → Parts → Expr) → ExprForm → Type 0
SaysOf src t n ps word form = IsExpr src t n (line_of_parts (plants t ps)) (word src (plants t ps)) form

-- a form that says this statement
pub record IsStmt (src : List ℕ) (t : ℕ → Tree) (n line : ℕ) (s : Stmt) (form : StmtForm) : Type 0 where
  pub says : stmt_form src (exprs_of src t) (stmts_of src t) line form ≡ s
  pub lower : Lower n (stmt_ids form)

abbrev pub StmtSaysOf : List ℕ → (ℕ → Tree) → ℕ → List PyPart → (List ℕ → Parts → Stmt) → StmtForm → Type 0
StmtSaysOf src t n ps word form = IsStmt src t n (line_of_parts (plants t ps)) (word src (plants t ps)) form

-- what the tree at a place says
abbrev pub IsExprAt : List ℕ → (ℕ → Tree) → ℕ → ExprForm → Type 0
IsExprAt src t k form = IsExpr src t k (line_of (t k)) (expr src (t k)) form

abbrev pub IsStmtAt : List ℕ → (ℕ → Tree) → ℕ → StmtForm → Type 0
IsStmtAt src t k form = IsStmt src t k (line_of (t k)) (stmt src (t k)) form

-- a node that says what the tree at its place says
pub record IsNode (src : List ℕ) (t : ℕ → Tree) (k : ℕ) (node : Node) : Type 0 where
  pub line : node.line ≡ line_of (t k)
  pub expr : IsExprAt src t k node.expr
  pub stmt : IsStmtAt src t k node.stmt

abbrev pub HaveLines : (ℕ → Tree) → List Node → Type 0
HaveLines t nodes = (k : ℕ) (node : Node) → slice_get nodes k ≡ Some node → node.line ≡ line_of (t k)

abbrev pub AreNodes : List ℕ → (ℕ → Tree) → List Node → Type 0
AreNodes src t nodes = (k : ℕ) (node : Node) → slice_get nodes k ≡ Some node → IsNode src t k node

-- ---- what a node is to the one above it

-- the items that it gives, where it stands between square brackets
pub record AreItems (t : ℕ → Tree) (k : ℕ) (ids : Ids) : Type 0 where
  pub says : (src : List ℕ) → items_at (exprs_of src t) ids ≡ spread src (t k) (expr src (t k))
  pub lower : (n : ℕ) → k < n → Lower n ids

-- the statements of the block that it is
pub record AreLines (t : ℕ → Tree) (k : ℕ) (ids : Ids) : Type 0 where
  pub says : (src : List ℕ) → block_at (stmts_of src t) ids ≡ suite src (t k) (stmt src (t k))
  pub lower : (n : ℕ) → k < n → Lower n ids

-- the argument that it is
abbrev pub given : Id PyNodes → Way → Argument
given id Placed = argument.Placed id
given id Starred = argument.Starred id
given id (Keyed x) = argument.Keyed x id

abbrev pub argument_of : (ℕ → Tree) → Id PyNodes → Argument
argument_of t id = given id (way_of (t id.place))

-- the arguments that it holds, where it stands between round brackets
pub record AreArguments (t : ℕ → Tree) (k : ℕ) (args : List Argument) : Type 0 where
  pub says : (src : List ℕ) → arguments_at src (exprs_of src t) args ≡ arguments src (t k) (expr src (t k))
  pub lower : (n : ℕ) → k < n → Lower n (argument_ids args)

-- the index or the slice that it is
pub record IsIndex (t : ℕ → Tree) (k : ℕ) (x : Trailer) : Type 0 where
  pub says : (src : List ℕ) (rest : Trailers) → trailer_before src (exprs_of src t) x rest ≡ bounds src (t k) (expr src (t k)) rest
  pub lower : (n : ℕ) → k < n → Lower n (trailer_ids x)

-- the same, of the parts of such a node
pub record IsSlice (id : Id PyNodes) (ps : List PyPart) (x : Trailer) : Type 0 where
  pub says : (src : List ℕ) (t : ℕ → Tree) (rest : Trailers) → trailer_before src (exprs_of src t) x rest ≡ bounds src (Grown rule.Sub (plants t ps)) (expr src (t id.place)) rest
  pub lower : (n : ℕ) → id.place < n → PartsLower n ps → Lower n (trailer_ids x)
