-- What a node's form says, where f and g say what the nodes at lower places say as expressions and as statements.
use Rattle.std.specs.Prelude.{ℕ, Bool, true, List, [], ◌∷◌, Option, Some, None, map, ◌++◌, ◌&&◌, ◌<◌, nat_lt}
use Rattle.lx_arena.specs.declared.Id.{Id}
use Rattle.lx_arena.specs.Folds.{fold_at}
use Rattle.lx_token.specs.Meanings.{quoted_bytes}
use Rattle.lx_pytree.specs.declared.tree.PyNodes.{PyNodes}
use Rattle.lx_syntax.specs.declared.forms.Argument.{Argument}
use Rattle.lx_syntax.specs.declared.forms.Argument.TheVariants as argument
use Rattle.lx_syntax.specs.declared.forms.Branch.{Branch}
use Rattle.lx_syntax.specs.declared.forms.Branching.{Branching}
use Rattle.lx_syntax.specs.declared.forms.ClassForm.{ClassForm}
use Rattle.lx_syntax.specs.declared.forms.Couple.{Couple}
use Rattle.lx_syntax.specs.declared.forms.ExprForm.{ExprForm}
use Rattle.lx_syntax.specs.declared.forms.ExprForm.TheVariants as form
use Rattle.lx_syntax.specs.declared.forms.Parameter.{Parameter}
use Rattle.lx_syntax.specs.declared.forms.Program.{Program}
use Rattle.lx_syntax.specs.declared.forms.StmtForm.{StmtForm}
use Rattle.lx_syntax.specs.declared.forms.StmtForm.TheVariants as form_of
use Rattle.lx_syntax.specs.declared.forms.Link.{Link}
use Rattle.lx_syntax.specs.declared.forms.Node.{Node}
use Rattle.lx_syntax.specs.declared.forms.Place.{Place}
use Rattle.lx_syntax.specs.declared.forms.Place.TheVariants as place
use Rattle.lx_syntax.specs.declared.forms.Signed.{Signed}
use Rattle.lx_syntax.specs.declared.forms.Trailer.{Trailer}
use Rattle.lx_syntax.specs.declared.forms.Trailer.TheVariants as trailer
use Rattle.lx_syntax.specs.Ast as ast
use Rattle.lx_syntax.specs.Ast.{Expr, Exprs, Pairs, Choices, Links, Trailers, Arguments, Stmt, Stmts, Branches}
use Rattle.lx_syntax.specs.Classes.{base_of}
use Rattle.lx_syntax.specs.Convert.{text_of, token_line}

abbrev pub Exprs_at : Type 0
Exprs_at = ℕ → Expr

unfoldable pub items_at : Exprs_at → List (Id PyNodes) → Exprs
items_at f [] = ast.none
items_at f (id ∷ ids) = ast.more (f id.place) (items_at f ids)

unfoldable pub bound_at : Exprs_at → Option (Id PyNodes) → Exprs
bound_at f None = ast.none
bound_at f (Some id) = ast.more (f id.place) ast.none

unfoldable pub pairs_at : Exprs_at → List Couple → Pairs
pairs_at f [] = ast.no_pair
pairs_at f (c ∷ cs) = ast.pair (f c.first.place) (f c.second.place) (pairs_at f cs)

unfoldable pub choices_at : Exprs_at → List Branching → Choices
choices_at f [] = ast.no_choice
choices_at f (c ∷ cs) = ast.choice c.line (f c.condition.place) (f c.value.place) (choices_at f cs)

unfoldable pub links_at : Exprs_at → List Link → Links
links_at f [] = ast.no_link
links_at f (l ∷ ls) = ast.link l.operator (f l.operand.place) (links_at f ls)

-- an argument before others
abbrev pub argument_before : List ℕ → Exprs_at → Argument → Arguments → Arguments
argument_before src f (argument.Placed id) rest = ast.placed (f id.place) rest
argument_before src f (argument.Starred id) rest = ast.starred (f id.place) rest
argument_before src f (argument.Keyed x id) rest = ast.keyed (text_of src x) (f id.place) rest

unfoldable pub arguments_at : List ℕ → Exprs_at → List Argument → Arguments
arguments_at src f [] = ast.no_argument
arguments_at src f (a ∷ rest) = argument_before src f a (arguments_at src f rest)

abbrev pub trailer_before : List ℕ → Exprs_at → Trailer → Trailers → Trailers
trailer_before src f (trailer.Attribute x) rest = ast.attribute (text_of src x) rest
trailer_before src f (trailer.Call arguments) rest = ast.call (arguments_at src f arguments) rest
trailer_before src f (trailer.Item id) rest = ast.item (f id.place) rest
trailer_before src f (trailer.Slice low high) rest = ast.slice (bound_at f low) (bound_at f high) rest

unfoldable pub trailers_at : List ℕ → Exprs_at → List Trailer → Trailers
trailers_at src f [] = ast.no_trailer
trailers_at src f (x ∷ rest) = trailer_before src f x (trailers_at src f rest)

abbrev pub signed : Signed → ast.Sign
signed s = record { line = s.line; prefix = s.prefix }

-- as an expression
unfoldable pub expr_form : List ℕ → Exprs_at → ℕ → ExprForm → Expr
expr_form src f line (form.Same id) = f id.place
expr_form src f line (form.Name x) = ast.Name line (text_of src x)
expr_form src f line (form.Number value) = ast.Number line value
expr_form src f line (form.Quoted x) = ast.Quoted line (quoted_bytes (text_of src x))
expr_form src f line form.Nothing = ast.Nothing line
expr_form src f line (form.Truth holds) = ast.Truth line holds
expr_form src f line (form.Tuple ids) = ast.Tuple line (items_at f ids)
expr_form src f line (form.Listed ids) = ast.Listed line (items_at f ids)
expr_form src f line (form.Comprehension item names source filter) = ast.Comprehension line (f item.place) (map (text_of src) names) (f source.place) (bound_at f filter)
expr_form src f line (form.Dictionary pairs) = ast.Dictionary line (pairs_at f pairs)
expr_form src f line (form.Choice value rest) = ast.Choice line (f value.place) (choices_at f rest)
expr_form src f line (form.Either ids) = ast.Either line (items_at f ids)
expr_form src f line (form.Both ids) = ast.Both line (items_at f ids)
expr_form src f line (form.Not words of) = ast.Not (map token_line words) (f of.place)
expr_form src f line (form.Compare by_ left right) = ast.Compare line by_ (f left.place) (f right.place)
expr_form src f line (form.IsNothing negated of) = ast.IsNothing line negated (f of.place)
expr_form src f line (form.Chain first rest) = ast.Chain line (f first.place) (links_at f rest)
expr_form src f line (form.Prefixed signs of) = ast.Prefixed (map signed signs) (f of.place)
expr_form src f line (form.Power base exponent) = ast.Power line (f base.place) (f exponent.place)
expr_form src f line (form.Post of trailers) = ast.Post line (f of.place) (trailers_at src f trailers)
expr_form src f line form.Misshapen = ast.Misshapen

abbrev pub place_at : List ℕ → Exprs_at → Place → ast.Place
place_at src f (place.Name x) = ast.Named (text_of src x)
place_at src f (place.Attribute of x) = ast.Attribute (f of.place) (text_of src x)

unfoldable pub block_at : (ℕ → Stmt) → List (Id PyNodes) → Stmts
block_at g [] = ast.done
block_at g (id ∷ ids) = ast.then_ (g id.place) (block_at g ids)

unfoldable pub branches_at : Exprs_at → (ℕ → Stmt) → List Branch → Branches
branches_at f g [] = ast.no_branch
branches_at f g (b ∷ bs) = ast.branch (f b.condition.place) (block_at g b.body) (branches_at f g bs)

-- as a statement
unfoldable pub stmt_form : List ℕ → Exprs_at → (ℕ → Stmt) → ℕ → StmtForm → Stmt
stmt_form src f g line form_of.Pass = ast.Pass line
stmt_form src f g line (form_of.Value id) = ast.Value line (f id.place)
stmt_form src f g line (form_of.Bind place value) = ast.Bind line (place_at src f place) (f value.place)
stmt_form src f g line (form_of.Add place value) = ast.Add line (place_at src f place) (f value.place)
stmt_form src f g line (form_of.If branches rest) = ast.If line (branches_at f g branches) (block_at g rest)
stmt_form src f g line (form_of.For names source body) = ast.For line (map (text_of src) names) (f source.place) (block_at g body)
stmt_form src f g line form_of.NoStmt = ast.NoStmt

-- ---- the ids in a form, in the order of the text

abbrev pub Ids : Type 0
Ids = List (Id PyNodes)

unfoldable pub couple_ids : List Couple → Ids
couple_ids [] = []
couple_ids (c ∷ cs) = c.first ∷ c.second ∷ couple_ids cs

unfoldable pub branching_ids : List Branching → Ids
branching_ids [] = []
branching_ids (c ∷ cs) = c.condition ∷ c.value ∷ branching_ids cs

unfoldable pub link_ids : List Link → Ids
link_ids [] = []
link_ids (l ∷ ls) = l.operand ∷ link_ids ls

abbrev pub argument_id : Argument → Id PyNodes
argument_id (argument.Placed id) = id
argument_id (argument.Starred id) = id
argument_id (argument.Keyed x id) = id

unfoldable pub argument_ids : List Argument → Ids
argument_ids [] = []
argument_ids (a ∷ rest) = argument_id a ∷ argument_ids rest

abbrev pub option_ids : Option (Id PyNodes) → Ids → Ids
option_ids None rest = rest
option_ids (Some id) rest = id ∷ rest

abbrev pub trailer_ids : Trailer → Ids
trailer_ids (trailer.Attribute x) = []
trailer_ids (trailer.Call arguments) = argument_ids arguments
trailer_ids (trailer.Item id) = id ∷ []
trailer_ids (trailer.Slice low high) = option_ids low (option_ids high [])

unfoldable pub trailers_ids : List Trailer → Ids
trailers_ids [] = []
trailers_ids (x ∷ rest) = trailer_ids x ++ trailers_ids rest

abbrev pub place_ids : Place → Ids → Ids
place_ids (place.Name x) rest = rest
place_ids (place.Attribute of x) rest = of ∷ rest

unfoldable pub branches_ids : List Branch → Ids
branches_ids [] = []
branches_ids (b ∷ bs) = (b.condition ∷ b.body) ++ branches_ids bs

unfoldable pub expr_ids : ExprForm → Ids
expr_ids (form.Same id) = id ∷ []
expr_ids (form.Tuple ids) = ids
expr_ids (form.Listed ids) = ids
expr_ids (form.Comprehension item names source filter) = item ∷ source ∷ option_ids filter []
expr_ids (form.Dictionary pairs) = couple_ids pairs
expr_ids (form.Choice value rest) = value ∷ branching_ids rest
expr_ids (form.Either ids) = ids
expr_ids (form.Both ids) = ids
expr_ids (form.Not words of) = of ∷ []
expr_ids (form.Compare by_ left right) = left ∷ right ∷ []
expr_ids (form.IsNothing negated of) = of ∷ []
expr_ids (form.Chain first rest) = first ∷ link_ids rest
expr_ids (form.Prefixed signs of) = of ∷ []
expr_ids (form.Power base exponent) = base ∷ exponent ∷ []
expr_ids (form.Post of trailers) = of ∷ trailers_ids trailers
expr_ids form.Misshapen = []
expr_ids (form.Name x) = []
expr_ids (form.Number value) = []
expr_ids (form.Quoted x) = []
expr_ids form.Nothing = []
expr_ids (form.Truth holds) = []

unfoldable pub stmt_ids : StmtForm → Ids
stmt_ids form_of.NoStmt = []
stmt_ids form_of.Pass = []
stmt_ids (form_of.Value id) = id ∷ []
stmt_ids (form_of.Bind place value) = place_ids place (value ∷ [])
stmt_ids (form_of.Add place value) = place_ids place (value ∷ [])
stmt_ids (form_of.If branches rest) = branches_ids branches ++ rest
stmt_ids (form_of.For names source body) = source ∷ body

unfoldable pub param_ids : List Parameter → Ids
param_ids [] = []
param_ids (p ∷ ps) = option_ids p.default (param_ids ps)

abbrev pub class_ids : ClassForm → Ids
class_ids c = param_ids c.params ++ c.body

-- ids lower than n
unfoldable pub Lower : ℕ → Ids → Type 0
Lower n [] = Unit {0}
Lower n (id ∷ ids) = (id.place < n) × Lower n ids

unfoldable pub ids_below : ℕ → Ids → Bool
ids_below n [] = true
ids_below n (id ∷ ids) = nat_lt id.place n && ids_below n ids

-- the parts of a node, as an expression and as a statement
abbrev pub node_ids : Node → Ids
node_ids node = expr_ids node.expr ++ stmt_ids node.stmt

abbrev pub node_below : Node → ℕ → Bool
node_below node n = ids_below n (node_ids node)

-- ---- what the nodes at places say

abbrev pub expr_level : List ℕ → Exprs_at → Node → Expr
expr_level src f node = expr_form src f node.line node.expr

unfoldable pub expr_at : List ℕ → List Node → Exprs_at
expr_at src nodes k = fold_at ast.Misshapen (expr_level src) nodes k

abbrev pub stmt_level : List ℕ → Exprs_at → (ℕ → Stmt) → Node → Stmt
stmt_level src f g node = stmt_form src f g node.line node.stmt

unfoldable pub stmt_at : List ℕ → List Node → ℕ → Stmt
stmt_at src nodes k = fold_at ast.NoStmt (stmt_level src (expr_at src nodes)) nodes k

-- ---- what classes say

abbrev pub param_at : List ℕ → Exprs_at → Parameter → ast.Param
param_at src f p = record { name = text_of src p.name; default = bound_at f p.default }

abbrev pub class_form : List ℕ → Exprs_at → (ℕ → Stmt) → ClassForm → ast.Class
class_form src f g c = record { line = c.line; name = text_of src c.name; bases = map (base_of src) c.bases; init_line = c.init_line; params = map (param_at src f) c.params; body = block_at g c.body }

abbrev pub expr_of : Program → Exprs_at
expr_of p k = expr_at p.src p.nodes k

abbrev pub stmt_of : Program → ℕ → Stmt
stmt_of p k = stmt_at p.src p.nodes k

abbrev pub class_of : Program → ClassForm → ast.Class
class_of p c = class_form p.src (expr_of p) (stmt_of p) c

-- the classes of a file
abbrev pub classes_of : Program → List ast.Class
classes_of p = map (class_of p) p.classes
