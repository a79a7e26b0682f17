-- The nodes of an arena say what their forms say of lower nodes.
use Rattle.std.proofs.Common.{ℕ, true, ◌≡◌, ◌++◌, nat_lt, ◌<◌, List, [], ◌∷◌, Option, Some, None, refl, ap, ◌∙◌, slice_get, map}
use Rattle.std.proofs.lemmas.Bool.{and_parts, ltb-true}
use Rattle.lx_arena.specs.Lower.{EachLower}
use Rattle.lx_arena.specs.Folds.{IsLocal, Same}
use Rattle.lx_arena.proofs.Folds.{fold_at-is}
use Rattle.lx_arena.specs.declared.Id.{Id}
use Rattle.lx_pytree.specs.declared.tree.PyNodes.{PyNodes}
use Rattle.lx_syntax.specs.declared.forms.Argument.{Argument}
use Rattle.lx_syntax.specs.declared.forms.Argument.TheVariants as argument
use Rattle.lx_syntax.specs.declared.forms.Couple.{Couple}
use Rattle.lx_syntax.specs.declared.forms.ExprForm.{ExprForm}
use Rattle.lx_syntax.specs.declared.forms.ExprForm.TheVariants as form
use Rattle.lx_syntax.specs.declared.forms.Branch.{Branch}
use Rattle.lx_syntax.specs.declared.forms.Branching.{Branching}
use Rattle.lx_syntax.specs.declared.forms.Place.{Place}
use Rattle.lx_syntax.specs.declared.forms.Place.TheVariants as place
use Rattle.lx_syntax.specs.declared.forms.StmtForm.{StmtForm}
use Rattle.lx_syntax.specs.declared.forms.StmtForm.TheVariants as form_of
use Rattle.lx_syntax.specs.declared.forms.Link.{Link}
use Rattle.lx_syntax.specs.declared.forms.Node.{Node}
use Rattle.lx_syntax.specs.declared.forms.Trailer.{Trailer}
use Rattle.lx_syntax.specs.declared.forms.Trailer.TheVariants as trailer
use Rattle.lx_syntax.specs.Ast as ast
use Rattle.lx_syntax.specs.Convert.{text_of}
use Rattle.lx_syntax.specs.Forms.{Exprs_at, Ids, Lower, argument_ids, arguments_at, block_at, bound_at, branches_at, branches_ids, branching_ids, choices_at, couple_ids, expr_at, expr_form, expr_ids, expr_level, ids_below, items_at, link_ids, links_at, node_below, node_ids, option_ids, pairs_at, place_at, place_ids, stmt_at, stmt_form, stmt_ids, stmt_level, trailer_before, trailer_ids, trailers_at, trailers_ids}

pub lower_of : (n : ℕ) (ids : Ids) → ids_below n ids ≡ true → Lower n ids
unfolding ids_below Lower
lower_of n [] h = tt
lower_of n (id ∷ ids) h =
    let both = and_parts (nat_lt id.place n) (ids_below n ids) h in
    (ltb-true _ _ both.0, lower_of n ids both.1)

pub front_lower : (n : ℕ) (ids more : Ids) → Lower n (ids ++ more) → Lower n ids
unfolding Lower
front_lower n [] more h = tt
front_lower n (id ∷ ids) more h = (h.0, front_lower n ids more h.1)

pub back_lower : (n : ℕ) (ids more : Ids) → Lower n (ids ++ more) → Lower n more
unfolding Lower
back_lower n [] more h = h
back_lower n (id ∷ ids) more h = back_lower n ids more h.1

items_same : (f g : Exprs_at) (n : ℕ) (ids : Ids) → Same f g n → Lower n ids → items_at f ids ≡ items_at g ids
unfolding Lower items_at
items_same f g n [] s h = refl
items_same f g n (id ∷ ids) s h = ap (λ e. ast.more e (items_at f ids)) (s id.place h.0) ∙ ap (ast.more (g id.place)) (items_same f g n ids s h.1)

pairs_same : (f g : Exprs_at) (n : ℕ) (cs : List Couple) → Same f g n → Lower n (couple_ids cs) → pairs_at f cs ≡ pairs_at g cs
unfolding Lower pairs_at couple_ids
pairs_same f g n [] s h = refl
pairs_same f g n (c ∷ cs) s h =
    let first : f c.first.place ≡ g c.first.place = s c.first.place h.0 in
    let second : f c.second.place ≡ g c.second.place = s c.second.place h.1.0 in
    let rest : pairs_at f cs ≡ pairs_at g cs = pairs_same f g n cs s h.1.1 in
    cc

choices_same : (f g : Exprs_at) (n : ℕ) (cs : List Branching) → Same f g n → Lower n (branching_ids cs) → choices_at f cs ≡ choices_at g cs
unfolding Lower choices_at branching_ids
choices_same f g n [] s h = refl
choices_same f g n (c ∷ cs) s h =
    let first : f c.condition.place ≡ g c.condition.place = s c.condition.place h.0 in
    let second : f c.value.place ≡ g c.value.place = s c.value.place h.1.0 in
    let rest : choices_at f cs ≡ choices_at g cs = choices_same f g n cs s h.1.1 in
    cc

links_same : (f g : Exprs_at) (n : ℕ) (ls : List Link) → Same f g n → Lower n (link_ids ls) → links_at f ls ≡ links_at g ls
unfolding Lower links_at link_ids
links_same f g n [] s h = refl
links_same f g n (l ∷ ls) s h =
    let first : f l.operand.place ≡ g l.operand.place = s l.operand.place h.0 in
    let rest : links_at f ls ≡ links_at g ls = links_same f g n ls s h.1 in
    cc

arguments_same : (src : List ℕ) (f g : Exprs_at) (n : ℕ) (args : List Argument) → Same f g n → Lower n (argument_ids args) → arguments_at src f args ≡ arguments_at src g args
unfolding Lower arguments_at argument_ids
arguments_same src f g n [] s h = refl
arguments_same src f g n (argument.Placed id ∷ args) s h =
    ap (λ e. ast.placed e (arguments_at src f args)) (s id.place h.0) ∙ ap (ast.placed (g id.place)) (arguments_same src f g n args s h.1)
arguments_same src f g n (argument.Starred id ∷ args) s h =
    ap (λ e. ast.starred e (arguments_at src f args)) (s id.place h.0) ∙ ap (ast.starred (g id.place)) (arguments_same src f g n args s h.1)
arguments_same src f g n (argument.Keyed x id ∷ args) s h =
    ap (λ e. ast.keyed (text_of src x) e (arguments_at src f args)) (s id.place h.0) ∙ ap (ast.keyed (text_of src x) (g id.place)) (arguments_same src f g n args s h.1)

bound_same : (f g : Exprs_at) (n : ℕ) (o : Option (Id PyNodes)) (rest : Ids) → Same f g n → Lower n (option_ids o rest) → bound_at f o ≡ bound_at g o
unfolding Lower bound_at
bound_same f g n None rest s h = refl
bound_same f g n (Some id) rest s h = ap (λ e. ast.more e ast.none) (s id.place h.0)

option_rest : (n : ℕ) (o : Option (Id PyNodes)) (rest : Ids) → Lower n (option_ids o rest) → Lower n rest
unfolding Lower
option_rest n None rest h = h
option_rest n (Some id) rest h = h.1

trailer_same : (src : List ℕ) (f g : Exprs_at) (n : ℕ) (x : Trailer) (rest : ast.Trailers) → Same f g n → Lower n (trailer_ids x) → trailer_before src f x rest ≡ trailer_before src g x rest
unfolding Lower
trailer_same src f g n (trailer.Attribute x) rest s h = refl
trailer_same src f g n (trailer.Call args) rest s h = ap (λ a. ast.call a rest) (arguments_same src f g n args s h)
trailer_same src f g n (trailer.Item id) rest s h = ap (λ e. ast.item e rest) (s id.place h.0)
trailer_same src f g n (trailer.Slice low high) rest s h =
    ap (λ e. ast.slice e (bound_at f high) rest) (bound_same f g n low (option_ids high []) s h)
    ∙ ap (λ e. ast.slice (bound_at g low) e rest) (bound_same f g n high [] s (option_rest n low (option_ids high []) h))

trailers_same : (src : List ℕ) (f g : Exprs_at) (n : ℕ) (xs : List Trailer) → Same f g n → Lower n (trailers_ids xs) → trailers_at src f xs ≡ trailers_at src g xs
unfolding trailers_at trailers_ids
trailers_same src f g n [] s h = refl
trailers_same src f g n (x ∷ xs) s h =
    trailer_same src f g n x (trailers_at src f xs) s (front_lower n (trailer_ids x) (trailers_ids xs) h)
    ∙ ap (trailer_before src g x) (trailers_same src f g n xs s (back_lower n (trailer_ids x) (trailers_ids xs) h))

pub form_same : (src : List ℕ) (f g : Exprs_at) (n line : ℕ) (made : ExprForm) → Same f g n → Lower n (expr_ids made) → expr_form src f line made ≡ expr_form src g line made
unfolding expr_form expr_ids Lower
form_same src f g n line (form.Same id) s h = s id.place h.0
form_same src f g n line (form.Tuple ids) s h = ap (ast.Tuple line) (items_same f g n ids s h)
form_same src f g n line (form.Listed ids) s h = ap (ast.Listed line) (items_same f g n ids s h)
form_same src f g n line (form.Comprehension item names source filter) s h =
    let a : f item.place ≡ g item.place = s item.place h.0 in
    let b : f source.place ≡ g source.place = s source.place h.1.0 in
    let c : bound_at f filter ≡ bound_at g filter = bound_same f g n filter [] s h.1.1 in
    cc
form_same src f g n line (form.Dictionary pairs) s h = ap (ast.Dictionary line) (pairs_same f g n pairs s h)
form_same src f g n line (form.Choice value rest) s h =
    ap (λ e. ast.Choice line e (choices_at f rest)) (s value.place h.0) ∙ ap (ast.Choice line (g value.place)) (choices_same f g n rest s h.1)
form_same src f g n line (form.Either ids) s h = ap (ast.Either line) (items_same f g n ids s h)
form_same src f g n line (form.Both ids) s h = ap (ast.Both line) (items_same f g n ids s h)
form_same src f g n line (form.Not words of) s h =
    let a : f of.place ≡ g of.place = s of.place h.0 in
    cc
form_same src f g n line (form.Compare by_ left right) s h =
    ap (λ e. ast.Compare line by_ e (f right.place)) (s left.place h.0) ∙ ap (ast.Compare line by_ (g left.place)) (s right.place h.1.0)
form_same src f g n line (form.IsNothing negated of) s h = ap (ast.IsNothing line negated) (s of.place h.0)
form_same src f g n line (form.Chain first rest) s h =
    ap (λ e. ast.Chain line e (links_at f rest)) (s first.place h.0) ∙ ap (ast.Chain line (g first.place)) (links_same f g n rest s h.1)
form_same src f g n line (form.Prefixed signs of) s h =
    let a : f of.place ≡ g of.place = s of.place h.0 in
    cc
form_same src f g n line (form.Power base exponent) s h =
    ap (λ e. ast.Power line e (f exponent.place)) (s base.place h.0) ∙ ap (ast.Power line (g base.place)) (s exponent.place h.1.0)
form_same src f g n line (form.Post of trailers) s h =
    ap (λ e. ast.Post line e (trailers_at src f trailers)) (s of.place h.0) ∙ ap (ast.Post line (g of.place)) (trailers_same src f g n trailers s h.1)
form_same src f g n line _ s h = refl

-- ---- statements

pub block_same : (f g : ℕ → ast.Stmt) (n : ℕ) (ids : Ids) → Same f g n → Lower n ids → block_at f ids ≡ block_at g ids
unfolding Lower block_at
block_same f g n [] s h = refl
block_same f g n (id ∷ ids) s h = ap (λ e. ast.then_ e (block_at f ids)) (s id.place h.0) ∙ ap (ast.then_ (g id.place)) (block_same f g n ids s h.1)

branches_same : (e h : Exprs_at) (f g : ℕ → ast.Stmt) (n : ℕ) (bs : List Branch) → Same e h n → Same f g n → Lower n (branches_ids bs) → branches_at e f bs ≡ branches_at h g bs
unfolding Lower branches_at branches_ids
branches_same e h f g n [] r s l = refl
branches_same e h f g n (b ∷ bs) r s l =
    let condition : e b.condition.place ≡ h b.condition.place = r b.condition.place l.0 in
    let body : block_at f b.body ≡ block_at g b.body = block_same f g n b.body s (front_lower n b.body (branches_ids bs) l.1) in
    let rest : branches_at e f bs ≡ branches_at h g bs = branches_same e h f g n bs r s (back_lower n b.body (branches_ids bs) l.1) in
    cc

place_same : (src : List ℕ) (f g : Exprs_at) (n : ℕ) (p : Place) (rest : Ids) → Same f g n → Lower n (place_ids p rest) → place_at src f p ≡ place_at src g p
unfolding Lower
place_same src f g n (place.Name x) rest s h = refl
place_same src f g n (place.Attribute of x) rest s h = ap (λ e. ast.Attribute e (text_of src x)) (s of.place h.0)

place_rest : (n : ℕ) (p : Place) (rest : Ids) → Lower n (place_ids p rest) → Lower n rest
unfolding Lower
place_rest n (place.Name x) rest h = h
place_rest n (place.Attribute of x) rest h = h.1

head_lower : (n : ℕ) (id : Id PyNodes) (ids : Ids) → Lower n (id ∷ ids) → id.place < n
unfolding Lower
head_lower n id ids h = h.0

pub stmt_same : (src : List ℕ) (e h : Exprs_at) (f g : ℕ → ast.Stmt) (n line : ℕ) (made : StmtForm) → Same e h n → Same f g n → Lower n (stmt_ids made) → stmt_form src e f line made ≡ stmt_form src h g line made
unfolding stmt_form stmt_ids
stmt_same src e h f g n line form_of.NoStmt r s l = refl
stmt_same src e h f g n line form_of.Pass r s l = refl
stmt_same src e h f g n line (form_of.Value id) r s l = ap (ast.Value line) (r id.place (head_lower n id [] l))
stmt_same src e h f g n line (form_of.Bind p value) r s l =
    ap (λ q. ast.Bind line q (e value.place)) (place_same src e h n p (value ∷ []) r l) ∙ ap (ast.Bind line (place_at src h p)) (r value.place (head_lower n value [] (place_rest n p (value ∷ []) l)))
stmt_same src e h f g n line (form_of.Add p value) r s l =
    ap (λ q. ast.Add line q (e value.place)) (place_same src e h n p (value ∷ []) r l) ∙ ap (ast.Add line (place_at src h p)) (r value.place (head_lower n value [] (place_rest n p (value ∷ []) l)))
stmt_same src e h f g n line (form_of.If branches rest) r s l =
    ap (λ bs. ast.If line bs (block_at f rest)) (branches_same e h f g n branches r s (front_lower n (branches_ids branches) rest l)) ∙ ap (ast.If line (branches_at h g branches)) (block_same f g n rest s (back_lower n (branches_ids branches) rest l))
stmt_same src e h f g n line (form_of.For names source body) r s l =
    ap (λ q. ast.For line (map (text_of src) names) q (block_at f body)) (r source.place (head_lower n source body l)) ∙ ap (ast.For line (map (text_of src) names) (h source.place)) (block_same f g n body s (back_lower n (source ∷ []) body l))

-- ---- the node at a place

expr_low : (n : ℕ) (node : Node) → node_below node n ≡ true → Lower n (expr_ids node.expr)
expr_low n node low = front_lower n (expr_ids node.expr) (stmt_ids node.stmt) (lower_of n (node_ids node) low)

stmt_low : (n : ℕ) (node : Node) → node_below node n ≡ true → Lower n (stmt_ids node.stmt)
stmt_low n node low = back_lower n (expr_ids node.expr) (stmt_ids node.stmt) (lower_of n (node_ids node) low)

pub expr_local : (src : List ℕ) → IsLocal node_below (expr_level src)
expr_local src = record { same = λ f g n node s low. form_same src f g n node.line node.expr s (expr_low n node low) }

pub stmt_local : (src : List ℕ) (e : Exprs_at) → IsLocal node_below (stmt_level src e)
stmt_local src e = record { same = λ f g n node s low. stmt_same src e e f g n node.line node.stmt (λ k l. refl) s (stmt_low n node low) }

-- what the node at a place says is what its form says of the lower nodes
pub expr_node : (src : List ℕ) (nodes : List Node) (k : ℕ) (node : Node) → EachLower node_below nodes → slice_get nodes k ≡ Some node → expr_at src nodes k ≡ expr_form src (expr_at src nodes) node.line node.expr
unfolding expr_at
expr_node src nodes k node low at = fold_at-is node_below ast.Misshapen (expr_level src) (expr_local src) nodes low k node at

pub stmt_node : (src : List ℕ) (nodes : List Node) (k : ℕ) (node : Node) → EachLower node_below nodes → slice_get nodes k ≡ Some node → stmt_at src nodes k ≡ stmt_form src (expr_at src nodes) (stmt_at src nodes) node.line node.stmt
unfolding stmt_at
stmt_node src nodes k node low at = fold_at-is node_below ast.NoStmt (stmt_level src (expr_at src nodes)) (stmt_local src (expr_at src nodes)) nodes low k node at
