-- That forms say what stands between brackets.
use Rattle.std.specs.Prelude.{ℕ, List, [], ◌≡◌, ◌<◌, ◌++◌, map}
use Rattle.lx_token.specs.declared.tokens.Token.{Token}
use Rattle.lx_grammar.specs.Derives.{Tree}
use Rattle.lx_pytree.specs.declared.tree.PyPart.{PyPart}
use Rattle.lx_pytree.specs.Trees.{plants}
use Rattle.lx_syntax.specs.declared.forms.Branching.{Branching}
use Rattle.lx_syntax.specs.declared.forms.ExprForm.{ExprForm}
use Rattle.lx_syntax.specs.Ast as ast
use Rattle.lx_syntax.specs.Ast.{Expr}
use Rattle.lx_syntax.specs.Convert.{comprehension, expr, exprs, grouped, names_of, pairs_of, sign_of, spelled, spread, text_of}
use Rattle.lx_syntax.specs.Forming.{branchings_of}
use Rattle.lx_syntax.specs.Says.{IsExpr}
use Rattle.lx_syntax.specs.Forms.{Exprs_at, Ids, Lower, expr_form, expr_ids, items_at}

-- a form that says this, and has no parts
pub record IsBare (src : List ℕ) (line : ℕ) (e : Expr) (form : ExprForm) : Type 0 where
  pub says : (f : Exprs_at) → expr_form src f line form ≡ e
  pub none : expr_ids form ≡ []

-- what an expression between brackets says
abbrev pub bracketed : List ℕ → (ℕ → Tree) → Token → ℕ → Expr
bracketed src t x k = grouped (sign_of src x) x.line (expr src (t k)) (spread src (t k) (expr src (t k)))

-- a comprehension's item, names, source and filter
pub record IsSourced (item : ℕ) (names : List Token) (ids : Ids) (form : ExprForm) : Type 0 where
  pub says : (src : List ℕ) (f : Exprs_at) (line : ℕ) → expr_form src f line form ≡ comprehension line (f item) (map (text_of src) names) (items_at f ids)
  pub lower : (n : ℕ) → item < n → Lower n ids → Lower n (expr_ids form)

-- what a comprehension says, and what pairs say
abbrev pub comprehended : List ℕ → (ℕ → Tree) → ℕ → ℕ → List PyPart → ℕ → Expr
comprehended src t item names ps line = comprehension line (expr src (t item)) (map (text_of src) (names_of src (t names))) (exprs src (plants t ps))

abbrev pub paired : List ℕ → (ℕ → Tree) → ℕ → ℕ → List PyPart → ℕ → Expr
paired src t key value ps line = ast.Dictionary line (ast.pair (expr src (t key)) (expr src (t value)) (pairs_of (exprs src (plants t ps))))

abbrev pub spelled_out : List ℕ → (ℕ → Tree) → Token → ℕ → ℕ → List PyPart → Expr
spelled_out src t x j k ps = spelled (sign_of src x) (comprehended src t j k ps x.line) (paired src t j k ps x.line)

-- what else is chosen, where a conditional begins on a line: these are found, and those nodes are left, from a line on
pub record AreBranchings (lines : ℕ → ℕ) (n begin : ℕ) (ids : Ids) (line : ℕ) (rest : Ids) (made : List Branching) : Type 0 where
  pub says : made ++ branchings_of lines line rest ≡ branchings_of lines begin ids
  pub left : Lower n rest

-- forms that say these
abbrev pub IsGrouped : List ℕ → (ℕ → Tree) → ℕ → Token → ℕ → ExprForm → Type 0
IsGrouped src t n x k form = IsExpr src t n x.line (bracketed src t x k) form

abbrev pub IsComprehension : List ℕ → (ℕ → Tree) → ℕ → ℕ → ℕ → List PyPart → ExprForm → Type 0
IsComprehension src t n item names ps form = (line : ℕ) → IsExpr src t n line (comprehended src t item names ps line) form

abbrev pub IsDictionary : ℕ → ℕ → ℕ → List PyPart → ExprForm → Type 0
IsDictionary n key value ps form = (src : List ℕ) (t : ℕ → Tree) (line : ℕ) → IsExpr src t n line (paired src t key value ps line) form

abbrev pub IsSpelled : List ℕ → (ℕ → Tree) → ℕ → Token → ℕ → ℕ → List PyPart → ExprForm → Type 0
IsSpelled src t n x j k ps form = IsExpr src t n x.line (spelled_out src t x j k ps) form
