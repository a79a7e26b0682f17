-- What a tree of the grammar says. Every tree says something: one that the grammar derives is never misshapen.
use Rattle.std.specs.Prelude.{ℕ, Bool, true, false, List, [], ◌∷◌, Option, Some, None, map, if◌then◌else◌}
use Rattle.lx_token.specs.declared.tokens.Token.{Token}
use Rattle.lx_token.specs.Numbers.{whole_number}
use Rattle.lx_token.specs.Meanings.{quoted_bytes}
use Rattle.lx_grammar.specs.declared.grammar.Rule.{Rule}
use Rattle.lx_grammar.specs.declared.grammar.Rule.TheVariants as rule
use Rattle.lx_grammar.specs.declared.sign.Sign.{Sign}
use Rattle.lx_grammar.specs.declared.sign.Sign.TheVariants as sign
use Rattle.lx_grammar.specs.Derives.{Tree, Grown, NoTree, Parts, end, token, child}
use Rattle.lx_grammar.specs.Signs.{token_sign, text_at}
use Rattle.lx_syntax.specs.declared.forms.Operator.{Operator}
use Rattle.lx_syntax.specs.declared.forms.Operator.TheVariants as operator
use Rattle.lx_syntax.specs.declared.forms.Comparison.{Comparison}
use Rattle.lx_syntax.specs.declared.forms.Comparison.TheVariants as comparison
use Rattle.lx_syntax.specs.declared.forms.Prefix.{Prefix}
use Rattle.lx_syntax.specs.declared.forms.Prefix.TheVariants as prefix
use Rattle.lx_syntax.specs.Ast as ast
use Rattle.lx_syntax.specs.Ast.{Expr, Exprs, Pairs, Choices, Links, Trailers, Arguments, Place, Stmt, Stmts, Branches}

abbrev pub text_of : List ℕ → Token → List ℕ
text_of src x = text_at src x.start x.end

abbrev pub sign_of : List ℕ → Token → Sign
sign_of src x = token_sign x.kind (text_of src x)

-- the line of a tree is that of its first token
unfoldable mutual
  pub line_of : Tree → ℕ
  line_of NoTree = 0
  line_of (Grown r ps) = line_of_parts ps

  pub line_of_parts : Parts → ℕ
  line_of_parts end = 0
  line_of_parts (token x ps) = x.line
  line_of_parts (child t ps) = line_of t

-- the lines of the nodes among parts
unfoldable pub lines : Parts → List ℕ
lines end = []
lines (token x ps) = lines ps
lines (child t ps) = line_of t ∷ lines ps

-- ---- operators

unfoldable pub operator_of : Sign → Option Operator
operator_of sign.Plus = Some operator.Add
operator_of sign.Minus = Some operator.Sub
operator_of sign.Star = Some operator.Mul
operator_of sign.Floor = Some operator.Floor
operator_of sign.Percent = Some operator.Remainder
operator_of sign.ShiftLeft = Some operator.ShiftLeft
operator_of sign.ShiftRight = Some operator.ShiftRight
operator_of sign.Ampersand = Some operator.And
operator_of sign.Bar = Some operator.Or
operator_of sign.Caret = Some operator.Xor
operator_of _ = None

unfoldable pub comparison_of : Sign → Option Comparison
comparison_of sign.Equal = Some comparison.Equal
comparison_of sign.Unequal = Some comparison.Unequal
comparison_of sign.Less = Some comparison.Less
comparison_of sign.LessEqual = Some comparison.LessEqual
comparison_of sign.Greater = Some comparison.Greater
comparison_of sign.GreaterEqual = Some comparison.GreaterEqual
comparison_of sign.In = Some comparison.In
comparison_of _ = None

unfoldable pub prefix_of : Sign → Option Prefix
prefix_of sign.Minus = Some prefix.Minus
prefix_of sign.Plus = Some prefix.Plus
prefix_of sign.Tilde = Some prefix.Tilde
prefix_of _ = None

-- ---- tokens among parts

unfoldable pub tokens : Parts → List Token
tokens end = []
tokens (token x ps) = x ∷ tokens ps
tokens (child t ps) = tokens ps

unfoldable pub is_name : Sign → Bool
is_name sign.Name = true
is_name sign.Init = true
is_name sign.SelfName = true
is_name _ = false

-- the names among tokens
unfoldable pub names_among : List ℕ → List Token → List Token
names_among src [] = []
names_among src (x ∷ xs) = if is_name (sign_of src x) then x ∷ names_among src xs else names_among src xs

unfoldable pub names_of : List ℕ → Tree → List Token
names_of src NoTree = []
names_of src (Grown r ps) = names_among src (tokens ps)

-- what a token that stands alone says
unfoldable pub leaf : List ℕ → Token → Sign → Expr
leaf src x sign.Name = ast.Name x.line (text_of src x)
leaf src x sign.Init = ast.Name x.line (text_of src x)
leaf src x sign.SelfName = ast.Name x.line (text_of src x)
leaf src x sign.Number = ast.Number x.line (whole_number (text_of src x))
leaf src x sign.Text = ast.Quoted x.line (quoted_bytes (text_of src x))
leaf src x sign.None = ast.Nothing x.line
leaf src x sign.True = ast.Truth x.line true
leaf src x sign.False = ast.Truth x.line false
leaf src x _ = ast.Misshapen

unfoldable pub with_sign : ℕ → Option Prefix → Option (List ast.Sign) → Option (List ast.Sign)
with_sign line None rest = None
with_sign line (Some prefix) None = None
with_sign line (Some prefix) (Some rest) = Some (record { line = line; prefix = prefix } ∷ rest)

unfoldable pub signs : List ℕ → List Token → Option (List ast.Sign)
signs src [] = Some []
signs src (x ∷ xs) = with_sign x.line (prefix_of (sign_of src x)) (signs src xs)

-- ---- what parts say together

abbrev pub token_line : Token → ℕ
token_line x = x.line

-- what is said of one node alone
unfoldable pub alone : (Expr → Expr) → Exprs → Expr
alone say (ast.more e ast.none) = say e
alone say _ = ast.Misshapen

unfoldable pub of_two : (Expr → Expr → Expr) → Exprs → Expr
of_two say (ast.more left (ast.more right ast.none)) = say left right
of_two say _ = ast.Misshapen

unfoldable pub prefixed : Option (List ast.Sign) → Exprs → Expr
prefixed None es = ast.Misshapen
prefixed (Some signs) es = alone (ast.Prefixed signs) es

-- conditions and what else is chosen, where the conditional begins on this line, and the nodes on those
unfoldable pub choices_of : ℕ → List ℕ → Exprs → Choices
choices_of line (l ∷ m ∷ ls) (ast.more condition (ast.more value es)) = ast.choice line condition value (choices_of m ls es)
choices_of line _ _ = ast.no_choice

unfoldable pub choice : ℕ → List ℕ → Exprs → Expr
choice line (l ∷ ls) (ast.more value es) = ast.Choice line value (choices_of line ls es)
choice line _ _ = ast.Misshapen

-- in twos
unfoldable pub pairs_of : Exprs → Pairs
pairs_of (ast.more key (ast.more value es)) = ast.pair key value (pairs_of es)
pairs_of _ = ast.no_pair

unfoldable pub compared : ℕ → Option Comparison → Expr → Expr → Expr
compared line None left right = ast.Misshapen
compared line (Some by_) left right = ast.Compare line by_ left right

-- `is None` is two tokens, `is not None` three
unfoldable pub related : List ℕ → List Token → ℕ → Exprs → Expr
related src (x ∷ []) line es = of_two (compared line (comparison_of (sign_of src x))) es
related src (x ∷ y ∷ []) line es = alone (ast.IsNothing line false) es
related src (x ∷ y ∷ z ∷ []) line es = alone (ast.IsNothing line true) es
related src _ line es = ast.Misshapen

unfoldable pub with_link : Option Operator → Expr → Option Links → Option Links
with_link None e rest = None
with_link (Some op) e None = None
with_link (Some op) e (Some rest) = Some (ast.link op e rest)

-- operators, and the operands behind them
unfoldable pub links : List ℕ → List Token → Exprs → Option Links
links src [] es = Some ast.no_link
links src (x ∷ xs) ast.none = None
links src (x ∷ xs) (ast.more e es) = with_link (operator_of (sign_of src x)) e (links src xs es)

unfoldable pub linked : ℕ → Expr → Option Links → Expr
linked line first None = ast.Misshapen
linked line first (Some rest) = ast.Chain line first rest

unfoldable pub chain : List ℕ → List Token → ℕ → Exprs → Expr
chain src xs line ast.none = ast.Misshapen
chain src xs line (ast.more first es) = linked line first (links src xs es)

-- what a node says whose tokens, line and nodes are these, where it is no atom, conditional and has no trailers
unfoldable pub flat : List ℕ → Rule → List Token → ℕ → Exprs → Expr
flat src rule.Values xs line es = ast.Tuple line es
flat src rule.Or xs line es = ast.Either line es
flat src rule.And xs line es = ast.Both line es
flat src rule.Not xs line es = alone (ast.Not (map token_line xs)) es
flat src rule.Comp xs line es = related src xs line es
flat src rule.Bor xs line es = chain src xs line es
flat src rule.Bxor xs line es = chain src xs line es
flat src rule.Band xs line es = chain src xs line es
flat src rule.Shift xs line es = chain src xs line es
flat src rule.Sum xs line es = chain src xs line es
flat src rule.Term xs line es = chain src xs line es
flat src rule.Unary xs line es = prefixed (signs src xs) es
flat src rule.Power xs line es = of_two (ast.Power line) es
-- what an argument's sign or name stands before
flat src rule.Arg xs line es = alone (λ e. e) es
flat src _ xs line es = ast.Misshapen

-- a source, and a filter where there is one
unfoldable pub comprehension : ℕ → Expr → List (List ℕ) → Exprs → Expr
comprehension line item names (ast.more source ast.none) = ast.Comprehension line item names source ast.none
comprehension line item names (ast.more source (ast.more filter ast.none)) = ast.Comprehension line item names source (ast.more filter ast.none)
comprehension line item names _ = ast.Misshapen

-- ---- what brackets open

unfoldable pub empty : Sign → ℕ → Expr
empty sign.OpenRound line = ast.Tuple line ast.none
empty sign.OpenSquare line = ast.Listed line ast.none
empty sign.OpenCurly line = ast.Dictionary line ast.no_pair
empty _ line = ast.Misshapen

-- one expression, or several with commas, in brackets
unfoldable pub grouped : Sign → ℕ → Expr → Exprs → Expr
grouped sign.OpenRound line inner items = inner
grouped sign.OpenSquare line inner items = ast.Listed line items
grouped _ line inner items = ast.Misshapen

-- a comprehension or pairs in brackets
unfoldable pub spelled : Sign → Expr → Expr → Expr
spelled sign.OpenSquare comprehension pairs = comprehension
spelled sign.OpenCurly comprehension pairs = pairs
spelled _ comprehension pairs = ast.Misshapen

-- how an argument is given
pub data Way : Type 0 where
  Placed : Way
  Starred : Way
  Keyed : (name : Token) → Way

unfoldable pub way_of : Tree → Way
way_of (Grown rule.Arg (token x (child t ps))) = Starred
way_of (Grown rule.Arg (token x (token y ps))) = Keyed x
way_of _ = Placed

unfoldable pub with_argument : List ℕ → Way → Expr → Arguments → Arguments
with_argument src Placed e rest = ast.placed e rest
with_argument src Starred e rest = ast.starred e rest
with_argument src (Keyed name) e rest = ast.keyed (text_of src name) e rest

-- `(` and `)`, or `.` and a name
unfoldable pub called_or_named : Sign → List ℕ → Trailers → Trailers
called_or_named sign.OpenRound name rest = ast.call ast.no_argument rest
called_or_named _ name rest = ast.attribute name rest

unfoldable pub called_or_indexed : Sign → Arguments → (Trailers → Trailers) → Trailers → Trailers
called_or_indexed sign.OpenRound arguments index rest = ast.call arguments rest
called_or_indexed _ arguments index rest = index rest

-- ---- expressions

unfoldable mutual
  pub expr : List ℕ → Tree → Expr
  expr src NoTree = ast.Misshapen
  expr src (Grown rule.Post ps) = post src ps
  expr src (Grown rule.Atom ps) = atom src ps
  expr src (Grown rule.Expr ps) = choice (line_of_parts ps) (lines ps) (exprs src ps)
  expr src (Grown r ps) = flat src r (tokens ps) (line_of_parts ps) (exprs src ps)

  pub post : List ℕ → Parts → Expr
  post src (child t ps) = ast.Post (line_of t) (expr src t) (trailers src ps)
  post src _ = ast.Misshapen

  pub atom : List ℕ → Parts → Expr
  atom src (token x end) = leaf src x (sign_of src x)
  atom src (token x (token y end)) = empty (sign_of src x) x.line
  atom src (token x (child t (token y end))) = grouped (sign_of src x) x.line (expr src t) (spread src t (expr src t))
  atom src (token x (child t (token y (child u ps)))) =
      spelled (sign_of src x) (comprehension x.line (expr src t) (map (text_of src) (names_of src u)) (exprs src ps)) (ast.Dictionary x.line (ast.pair (expr src t) (expr src u) (pairs_of (exprs src ps))))
  atom src _ = ast.Misshapen

  -- all nodes among parts
  pub exprs : List ℕ → Parts → Exprs
  exprs src end = ast.none
  exprs src (token x ps) = exprs src ps
  exprs src (child t ps) = ast.more (expr src t) (exprs src ps)

  -- the items of several expressions with commas, or one item
  pub spread : List ℕ → Tree → Expr → Exprs
  spread src (Grown rule.Values ps) inner = exprs src ps
  spread src _ inner = ast.more inner ast.none

  -- attributes, calls and subscripts
  pub trailers : List ℕ → Parts → Trailers
  trailers src (token x (token y ps)) = called_or_named (sign_of src x) (text_of src y) (trailers src ps)
  trailers src (token x (child t (token y ps))) = called_or_indexed (sign_of src x) (arguments src t (expr src t)) (bounds src t (expr src t)) (trailers src ps)
  trailers src _ = ast.no_trailer

  pub arguments : List ℕ → Tree → Expr → Arguments
  arguments src (Grown rule.Args ps) inner = arguments_in src ps
  arguments src t inner = with_argument src (way_of t) inner ast.no_argument

  pub arguments_in : List ℕ → Parts → Arguments
  arguments_in src end = ast.no_argument
  arguments_in src (token x ps) = arguments_in src ps
  arguments_in src (child t ps) = with_argument src (way_of t) (expr src t) (arguments_in src ps)

  -- an index, or the bounds of a slice, which stand before and behind its `:`
  pub bounds : List ℕ → Tree → Expr → Trailers → Trailers
  bounds src (Grown rule.Sub (token x end)) inner = ast.slice ast.none ast.none
  bounds src (Grown rule.Sub (child t (token x end))) inner = ast.slice (ast.more (expr src t) ast.none) ast.none
  bounds src (Grown rule.Sub (token x (child u end))) inner = ast.slice ast.none (ast.more (expr src u) ast.none)
  bounds src (Grown rule.Sub (child t (token x (child u end)))) inner = ast.slice (ast.more (expr src t) ast.none) (ast.more (expr src u) ast.none)
  bounds src t inner = ast.item inner

-- what a conditional says
unfoldable pub chosen : List ℕ → Parts → Expr
chosen src ps = choice (line_of_parts ps) (lines ps) (exprs src ps)

-- ---- statements

unfoldable pub place_of : List ℕ → Tree → Option Place
place_of src (Grown rule.Place (token x end)) = Some (ast.Named (text_of src x))
place_of src (Grown rule.Place (child t (token y (token x end)))) = Some (ast.Attribute (expr src t) (text_of src x))
place_of src _ = None

-- a statement that binds a place, or adds to it
unfoldable pub bound : ℕ → Sign → Option Place → Expr → Stmt
bound line sign.Assign (Some place) value = ast.Bind line place value
bound line sign.AddAssign (Some place) value = ast.Add line place value
bound line _ _ value = ast.NoStmt

unfoldable pub simple : List ℕ → Parts → Stmt
simple src (token x ps) = ast.Pass x.line
simple src (child t (token x end)) = ast.Value (line_of t) (expr src t)
simple src (child t (token x (child u ps))) = bound (line_of t) (sign_of src x) (place_of src t) (expr src u)
simple src _ = ast.NoStmt

unfoldable mutual
  pub stmt : List ℕ → Tree → Stmt
  stmt src NoTree = ast.NoStmt
  stmt src (Grown rule.Simple ps) = simple src ps
  stmt src (Grown rule.If ps) = ast.If (line_of_parts ps) (branches src ps) (otherwise src ps)
  stmt src (Grown rule.For ps) = loop_ src ps
  stmt src (Grown _ _) = ast.NoStmt

  pub loop_ : List ℕ → Parts → Stmt
  loop_ src (token x (child n (token y (child t (token z (child u end)))))) = ast.For x.line (map (text_of src) (names_of src n)) (expr src t) (suite src u (stmt src u))
  loop_ src _ = ast.NoStmt

  -- the lines of a block, or a statement on the same line
  pub suite : List ℕ → Tree → Stmt → Stmts
  suite src (Grown rule.Suite ps) alone = stmts src ps
  suite src _ alone = ast.then_ alone ast.done

  pub stmts : List ℕ → Parts → Stmts
  stmts src end = ast.done
  stmts src (token x ps) = stmts src ps
  stmts src (child t ps) = ast.then_ (stmt src t) (stmts src ps)

  -- a condition behind `if` or `elif`, and its block
  pub branches : List ℕ → Parts → Branches
  branches src (token x (child t (token y (child u ps)))) = ast.branch (expr src t) (suite src u (stmt src u)) (branches src ps)
  branches src _ = ast.no_branch

  -- the block behind `else`
  pub otherwise : List ℕ → Parts → Stmts
  otherwise src (token x (token y (child u ps))) = suite src u (stmt src u)
  otherwise src (token x (child t (token y (child u ps)))) = otherwise src ps
  otherwise src _ = ast.done
