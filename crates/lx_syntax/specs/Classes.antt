-- The classes of a file.
use Rattle.std.specs.Prelude.{ℕ, Bool, true, false, List, [], ◌∷◌, ◌++◌, map, if◌then◌else◌}
use Rattle.lx_token.specs.declared.tokens.Token.{Token}
use Rattle.lx_grammar.specs.declared.grammar.Rule.TheVariants as rule
use Rattle.lx_grammar.specs.declared.sign.Sign.{Sign}
use Rattle.lx_grammar.specs.declared.sign.Sign.TheVariants as sign
use Rattle.lx_grammar.specs.Derives.{Tree, Grown, NoTree, Parts, end, token, child}
use Rattle.lx_syntax.specs.Ast as ast
use Rattle.lx_syntax.specs.Ast.{Stmts, Param, Class}
use Rattle.lx_syntax.specs.Convert.{expr, stmt, suite, text_of, sign_of, is_name, names_among, tokens, line_of}

unfoldable pub is_assign : Sign → Bool
is_assign sign.Assign = true
is_assign _ = false

-- parameters, each with a comma before it; what is no name ends them
unfoldable pub params_in : List ℕ → Parts → List Param
params_in src (token c (token x (token a (child t ps)))) =
    if is_name (sign_of src x)
    then (if is_assign (sign_of src a)
    then record { name = text_of src x; default = ast.more (expr src t) ast.none } ∷ params_in src ps
    else record { name = text_of src x; default = ast.none } ∷ params_in src (token a (child t ps)))
    else []
params_in src (token c (token x ps)) = if is_name (sign_of src x) then record { name = text_of src x; default = ast.none } ∷ params_in src ps else []
params_in src _ = []

-- the block of an `__init__`, which is its last node
unfoldable pub body_of : List ℕ → Parts → Stmts
body_of src end = ast.done
body_of src (token x ps) = body_of src ps
body_of src (child t end) = suite src t (stmt src t)
body_of src (child t ps) = body_of src ps

-- the parameters behind `def`, `__init__`, the bracket and `self`
unfoldable pub params_of : List ℕ → Tree → List Param
params_of src (Grown rule.Init (token d (token i (token o (token s ps))))) = params_in src ps
params_of src _ = []

unfoldable pub block_of : List ℕ → Tree → Stmts
block_of src (Grown rule.Init ps) = body_of src ps
block_of src _ = ast.done

-- the `__init__` of a class, which is its only node
unfoldable pub init_of : Parts → Tree
init_of end = NoTree
init_of (token x ps) = init_of ps
init_of (child t ps) = t

abbrev pub base_of : List ℕ → Token → ast.Base
base_of src x = record { line = x.line; name = text_of src x }

-- a class by its name, the names in its brackets, and its `__init__`
abbrev pub class_with : List ℕ → ℕ → List Token → Tree → List Class
class_with src line [] init = []
class_with src line (name ∷ bases) init = record { line = line; name = text_of src name; bases = map (base_of src) bases; init_line = line_of init; params = params_of src init; body = block_of src init } ∷ []

-- imports and texts say nothing
unfoldable pub class_of : List ℕ → Tree → List Class
class_of src (Grown rule.Class ps) = class_with src (line_of (Grown rule.Class ps)) (names_among src (tokens ps)) (init_of ps)
class_of src _ = []

-- in their order
unfoldable pub classes_in : List ℕ → Parts → List Class
classes_in src end = []
classes_in src (token x ps) = classes_in src ps
classes_in src (child t ps) = class_of src t ++ classes_in src ps

unfoldable pub classes : List ℕ → Tree → List Class
classes src (Grown rule.File ps) = classes_in src ps
classes src _ = []
