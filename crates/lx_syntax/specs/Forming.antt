-- What stands among the parts of a node: nodes, tokens, couples, links, signs.
use Rattle.std.specs.Prelude.{ℕ, List, [], ◌∷◌, ◌++◌, Option, Some, None}
use Rattle.lx_arena.specs.declared.Id.{Id}
use Rattle.lx_token.specs.declared.tokens.Token.{Token}
use Rattle.lx_pytree.specs.declared.tree.PyNodes.{PyNodes}
use Rattle.lx_pytree.specs.declared.tree.PyPart.{PyPart}
use Rattle.lx_pytree.specs.declared.tree.PyPart.TheVariants as part
use Rattle.lx_syntax.specs.declared.forms.Branching.{Branching}
use Rattle.lx_syntax.specs.declared.forms.Couple.{Couple}
use Rattle.lx_syntax.specs.declared.forms.Link.{Link}
use Rattle.lx_syntax.specs.declared.forms.Operator.{Operator}
use Rattle.lx_syntax.specs.declared.forms.Signed.{Signed}
use Rattle.lx_syntax.specs.declared.forms.Prefix.{Prefix}
use Rattle.lx_syntax.specs.Convert.{sign_of, operator_of, prefix_of}

unfoldable pub nodes_in : List PyPart → List (Id PyNodes)
nodes_in [] = []
nodes_in (part.Token x ∷ ps) = nodes_in ps
nodes_in (part.Node id ∷ ps) = id ∷ nodes_in ps

unfoldable pub tokens_in : List PyPart → List Token
tokens_in [] = []
tokens_in (part.Token x ∷ ps) = x ∷ tokens_in ps
tokens_in (part.Node id ∷ ps) = tokens_in ps

-- conditions and what else is chosen, in a conditional that begins on this line; the others begin at their values
unfoldable pub branchings_of : (ℕ → ℕ) → ℕ → List (Id PyNodes) → List Branching
branchings_of lines line (a ∷ b ∷ ids) = record { line = line; condition = a; value = b } ∷ branchings_of lines (lines b.place) ids
branchings_of lines line _ = []

-- the last part, where it is a node
unfoldable pub last_in : Option (Id PyNodes) → List PyPart → Option (Id PyNodes)
last_in last [] = last
last_in last (part.Token x ∷ ps) = last_in None ps
last_in last (part.Node id ∷ ps) = last_in (Some id) ps

-- in twos
unfoldable pub couples_of : List (Id PyNodes) → List Couple
couples_of (a ∷ b ∷ ids) = record { first = a; second = b } ∷ couples_of ids
couples_of _ = []

-- operators and their right operands, where all signs are operators
abbrev pub with_link : Option Operator → Id PyNodes → Option (List Link) → Option (List Link)
with_link None id rest = None
with_link (Some op) id None = None
with_link (Some op) id (Some rest) = Some (record { operator = op; operand = id } ∷ rest)

unfoldable pub links_in : List ℕ → List Token → List (Id PyNodes) → Option (List Link)
links_in src [] ids = Some []
links_in src (x ∷ xs) [] = None
links_in src (x ∷ xs) (id ∷ ids) = with_link (operator_of (sign_of src x)) id (links_in src xs ids)

-- the signs that tokens are, where all are signs
abbrev pub with_sign : ℕ → Option Prefix → Option (List Signed) → Option (List Signed)
with_sign line None rest = None
with_sign line (Some prefix) None = None
with_sign line (Some prefix) (Some rest) = Some (record { line = line; prefix = prefix } ∷ rest)

unfoldable pub signs_in : List ℕ → List Token → Option (List Signed)
signs_in src [] = Some []
signs_in src (x ∷ xs) = with_sign x.line (prefix_of (sign_of src x)) (signs_in src xs)

-- what comes behind items that are found already
abbrev pub behind : {A : Type 0} → List A → Option (List A) → Option (List A)
behind xs None = None
behind xs (Some ys) = Some (xs ++ ys)
