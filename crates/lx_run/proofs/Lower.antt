-- The parts of nodes and of classes stand lower.
use Rattle.std.proofs.Common.{◌≡◌, ◌<◌, ◌++◌, ℕ, List, [], ◌∷◌, Option, Some, None}
use Rattle.std.specs.List.{All}
use Rattle.std.proofs.lemmas.List.Elements.{All-cons, All-nil}
use Rattle.lx_arena.specs.declared.Id.{Id}
use Rattle.lx_pytree.specs.declared.tree.PyNodes.{PyNodes}
use Rattle.lx_syntax.specs.declared.forms.Argument.{Argument}
use Rattle.lx_syntax.specs.declared.forms.Branch.{Branch}
use Rattle.lx_syntax.specs.declared.forms.Branching.{Branching}
use Rattle.lx_syntax.specs.declared.forms.ClassForm.{ClassForm}
use Rattle.lx_syntax.specs.declared.forms.Couple.{Couple}
use Rattle.lx_syntax.specs.declared.forms.ExprForm.{ExprForm}
use Rattle.lx_syntax.specs.declared.forms.ExprForm.TheVariants as form
use Rattle.lx_syntax.specs.declared.forms.Link.{Link}
use Rattle.lx_syntax.specs.declared.forms.Node.{Node}
use Rattle.lx_syntax.specs.declared.forms.Parameter.{Parameter}
use Rattle.lx_syntax.specs.declared.forms.Place.{Place}
use Rattle.lx_syntax.specs.declared.forms.Place.TheVariants as place
use Rattle.lx_syntax.specs.declared.forms.StmtForm.{StmtForm}
use Rattle.lx_syntax.specs.declared.forms.StmtForm.TheVariants as form_of
use Rattle.lx_syntax.specs.declared.forms.Trailer.{Trailer}
use Rattle.lx_syntax.specs.declared.forms.Trailer.TheVariants as trailer
use Rattle.lx_syntax.specs.Forms.{Ids, Lower, argument_ids, branches_ids, branching_ids, class_ids, couple_ids, expr_ids, link_ids, node_ids, option_ids, param_ids, place_ids, stmt_ids, trailer_ids, trailers_ids}
use Rattle.lx_syntax.proofs.Standing.{back_lower, front_lower}
use Rattle.lx_run.specs.Meant.{AreLower, IsLower, IsLowerArgument, IsLowerBranch, IsLowerBranching, IsLowerClass, IsLowerCouple, IsLowerExpr, IsLowerLink, IsLowerOption, IsLowerParam, IsLowerPlace, IsLowerStmt, IsLowerTrailer}

-- ---- lists

ids_lower : (n : ℕ) (ids : Ids) → Lower n ids → AreLower n ids
unfolding Lower
ids_lower n [] h = All-nil _
ids_lower n (id ∷ ids) h = All-cons (IsLower n) id ids h.0 (ids_lower n ids h.1)

couples_lower : (n : ℕ) (cs : List Couple) → Lower n (couple_ids cs) → All (IsLowerCouple n) cs
unfolding Lower couple_ids
couples_lower n [] h = All-nil _
couples_lower n (c ∷ cs) h = All-cons (IsLowerCouple n) c cs (h.0, h.1.0) (couples_lower n cs h.1.1)

branchings_lower : (n : ℕ) (bs : List Branching) → Lower n (branching_ids bs) → All (IsLowerBranching n) bs
unfolding Lower branching_ids
branchings_lower n [] h = All-nil _
branchings_lower n (b ∷ bs) h = All-cons (IsLowerBranching n) b bs (h.0, h.1.0) (branchings_lower n bs h.1.1)

links_lower : (n : ℕ) (ls : List Link) → Lower n (link_ids ls) → All (IsLowerLink n) ls
unfolding Lower link_ids
links_lower n [] h = All-nil _
links_lower n (l ∷ ls) h = All-cons (IsLowerLink n) l ls h.0 (links_lower n ls h.1)

arguments_lower : (n : ℕ) (xs : List Argument) → Lower n (argument_ids xs) → All (IsLowerArgument n) xs
unfolding Lower argument_ids
arguments_lower n [] h = All-nil _
arguments_lower n (x ∷ xs) h = All-cons (IsLowerArgument n) x xs h.0 (arguments_lower n xs h.1)

option_lower : (n : ℕ) (o : Option (Id PyNodes)) (ids : Ids) → Lower n (option_ids o ids) → IsLowerOption n o
unfolding Lower
option_lower n None ids h = tt
option_lower n (Some id) ids h = h.0

behind_lower : (n : ℕ) (o : Option (Id PyNodes)) (ids : Ids) → Lower n (option_ids o ids) → Lower n ids
unfolding Lower
behind_lower n None ids h = h
behind_lower n (Some id) ids h = h.1

trailer_lower : (n : ℕ) (x : Trailer) → Lower n (trailer_ids x) → IsLowerTrailer n x
unfolding Lower
trailer_lower n (trailer.Attribute name) h = tt
trailer_lower n (trailer.Call arguments) h = arguments_lower n arguments h
trailer_lower n (trailer.Item id) h = h.0
trailer_lower n (trailer.Slice low high) h = (option_lower n low _ h, option_lower n high _ (behind_lower n low _ h))

trailers_lower : (n : ℕ) (xs : List Trailer) → Lower n (trailers_ids xs) → All (IsLowerTrailer n) xs
unfolding trailers_ids
trailers_lower n [] h = All-nil _
trailers_lower n (x ∷ xs) h = All-cons (IsLowerTrailer n) x xs (trailer_lower n x (front_lower n _ _ h)) (trailers_lower n xs (back_lower n (trailer_ids x) _ h))

branches_lower : (n : ℕ) (bs : List Branch) → Lower n (branches_ids bs) → All (IsLowerBranch n) bs
unfolding Lower branches_ids
branches_lower n [] h = All-nil _
branches_lower n (b ∷ bs) h =
    let own = front_lower n (b.condition ∷ b.body) (branches_ids bs) h in
    All-cons (IsLowerBranch n) b bs (own.0, ids_lower n b.body own.1) (branches_lower n bs (back_lower n (b.condition ∷ b.body) _ h))

params_lower : (n : ℕ) (ps : List Parameter) → Lower n (param_ids ps) → All (IsLowerParam n) ps
unfolding param_ids
params_lower n [] h = All-nil _
params_lower n (p ∷ ps) h = All-cons (IsLowerParam n) p ps (option_lower n p.default _ h) (params_lower n ps (behind_lower n p.default _ h))

-- ---- forms

form_lower : (n : ℕ) (e : ExprForm) → Lower n (expr_ids e) → IsLowerExpr n e
unfolding Lower expr_ids
form_lower n (form.Same id) h = h.0
form_lower n (form.Tuple ids) h = ids_lower n ids h
form_lower n (form.Listed ids) h = ids_lower n ids h
form_lower n (form.Comprehension item names source filter) h = (h.0, h.1.0, option_lower n filter _ h.1.1)
form_lower n (form.Dictionary pairs) h = couples_lower n pairs h
form_lower n (form.Choice value rest) h = (h.0, branchings_lower n rest h.1)
form_lower n (form.Either ids) h = ids_lower n ids h
form_lower n (form.Both ids) h = ids_lower n ids h
form_lower n (form.Not words of) h = h.0
form_lower n (form.Compare by_ left right) h = (h.0, h.1.0)
form_lower n (form.IsNothing negated of) h = h.0
form_lower n (form.Chain first rest) h = (h.0, links_lower n rest h.1)
form_lower n (form.Prefixed signs of) h = h.0
form_lower n (form.Power base exponent) h = (h.0, h.1.0)
form_lower n (form.Post of trailers) h = (h.0, trailers_lower n trailers h.1)
form_lower n form.Misshapen h = tt
form_lower n (form.Name x) h = tt
form_lower n (form.Number value) h = tt
form_lower n (form.Quoted x) h = tt
form_lower n form.Nothing h = tt
form_lower n (form.Truth holds) h = tt

place_lower : (n : ℕ) (p : Place) (ids : Ids) → Lower n (place_ids p ids) → IsLowerPlace n p × Lower n ids
unfolding Lower
place_lower n (place.Name x) ids h = (tt, h)
place_lower n (place.Attribute of x) ids h = (h.0, h.1)

form_of_lower : (n : ℕ) (s : StmtForm) → Lower n (stmt_ids s) → IsLowerStmt n s
unfolding Lower stmt_ids
form_of_lower n form_of.NoStmt h = tt
form_of_lower n form_of.Pass h = tt
form_of_lower n (form_of.Value id) h = h.0
form_of_lower n (form_of.Bind place value) h = let both = place_lower n place (value ∷ []) h in (both.0, both.1.0)
form_of_lower n (form_of.Add place value) h = let both = place_lower n place (value ∷ []) h in (both.0, both.1.0)
form_of_lower n (form_of.If branches rest) h = (branches_lower n branches (front_lower n _ _ h), ids_lower n rest (back_lower n (branches_ids branches) _ h))
form_of_lower n (form_of.For names source body) h = (h.0, ids_lower n body h.1)

pub expr_lower : (n : ℕ) (node : Node) → Lower n (node_ids node) → IsLowerExpr n node.expr
expr_lower n node h = form_lower n node.expr (front_lower n _ _ h)

pub stmt_lower : (n : ℕ) (node : Node) → Lower n (node_ids node) → IsLowerStmt n node.stmt
stmt_lower n node h = form_of_lower n node.stmt (back_lower n (expr_ids node.expr) _ h)

pub class_lower : (n : ℕ) (c : ClassForm) → Lower n (class_ids c) → IsLowerClass n c
class_lower n c h = (params_lower n c.params (front_lower n _ _ h), ids_lower n c.body (back_lower n (param_ids c.params) _ h))
