-- What the nodes and tokens of a form say together.
use Rattle.std.proofs.Common.{ℕ, true, ◌≡◌, ◌<◌, List, [], ◌∷◌, refl, ap, ◌∙◌, sym, subst, map, Option, Some, None, arith}
use Rattle.lx_token.specs.declared.tokens.Token.{Token}
use Rattle.lx_grammar.specs.declared.grammar.Rule.{Rule}
use Rattle.lx_grammar.specs.declared.grammar.Rule.TheVariants as rule
use Rattle.lx_grammar.specs.Derives.{Tree, Grown, Parts}
use Rattle.lx_arena.specs.declared.Id.{Id}
use Rattle.lx_pytree.specs.declared.tree.PyNode.{PyNode}
use Rattle.lx_pytree.specs.declared.tree.PyNodes.{PyNodes}
use Rattle.lx_pytree.specs.declared.tree.PyPart.{PyPart}
use Rattle.lx_pytree.specs.declared.tree.PyPart.TheVariants as part
use Rattle.lx_pytree.specs.Below.{parts_below}
use Rattle.lx_pytree.specs.Trees.{node_tree, plants}
use Rattle.lx_syntax.specs.declared.forms.ExprForm.{ExprForm}
use Rattle.lx_syntax.specs.declared.forms.ExprForm.TheVariants as form
use Rattle.lx_syntax.specs.declared.forms.Link.{Link}
use Rattle.lx_syntax.specs.declared.forms.Operator.{Operator}
use Rattle.lx_syntax.specs.declared.forms.Prefix.{Prefix}
use Rattle.lx_syntax.specs.declared.forms.Signed.{Signed}
use Rattle.lx_syntax.specs.Ast as ast
use Rattle.lx_syntax.specs.Ast.{Expr, Links}
use Rattle.lx_syntax.specs.Convert.{atom, chain, choice, chosen, choices_of, linked, prefixed, expr, exprs, flat, line_of, line_of_parts, lines, links, operator_of, pairs_of, post, prefix_of, sign_of, signs, tokens}
use Rattle.lx_syntax.specs.Convert as convert
use Rattle.lx_syntax.specs.Forming as forming
use Rattle.lx_syntax.specs.Forming.{branchings_of, couples_of, links_in, nodes_in, signs_in}
use Rattle.lx_syntax.specs.Forms.{Exprs_at, Ids, Lower, branching_ids, choices_at, couple_ids, expr_form, expr_ids, items_at, link_ids, links_at, pairs_at, signed}
use Rattle.lx_syntax.specs.Says.{IsAlone, IsExpr, IsExprAt, IsFlat, IsSplit, exprs_of}
use Rattle.lx_syntax.proofs.Hanging.{parts_lower}

pub choices_is : (f : Exprs_at) (g : ℕ → ℕ) (line : ℕ) (ids : Ids) → choices_at f (branchings_of g line ids) ≡ choices_of line (map (λ id. g id.place) ids) (items_at f ids)
unfolding choices_at branchings_of choices_of items_at
choices_is f g line [] = refl
choices_is f g line (a ∷ []) = refl
choices_is f g line (a ∷ b ∷ ids) = ap (λ cs. ast.choice line (f a.place) (f b.place) cs) (choices_is f g (g b.place) ids)

pub branchings_lower : (n : ℕ) (g : ℕ → ℕ) (line : ℕ) (ids : Ids) → Lower n ids → Lower n (branching_ids (branchings_of g line ids))
unfolding branchings_of branching_ids Lower
branchings_lower n g line [] h = tt
branchings_lower n g line (a ∷ []) h = tt
branchings_lower n g line (a ∷ b ∷ ids) h = (h.0, (h.1.0, branchings_lower n g (g b.place) ids h.1.1))

pub lines_planted : (t : ℕ → Tree) (ps : List PyPart) → map (λ id. line_of (t id.place)) (nodes_in ps) ≡ lines (plants t ps)
unfolding nodes_in lines plants
lines_planted t [] = refl
lines_planted t (part.Token x ∷ ps) = lines_planted t ps
lines_planted t (part.Node id ∷ ps) = ap (λ ls. line_of (t id.place) ∷ ls) (lines_planted t ps)

pub pairs_is : (f : Exprs_at) (ids : Ids) → pairs_at f (couples_of ids) ≡ pairs_of (items_at f ids)
unfolding pairs_at couples_of pairs_of items_at
pairs_is f [] = refl
pairs_is f (a ∷ []) = refl
pairs_is f (a ∷ b ∷ ids) = ap (λ cs. ast.pair (f a.place) (f b.place) cs) (pairs_is f ids)

pub couples_lower : (n : ℕ) (ids : Ids) → Lower n ids → Lower n (couple_ids (couples_of ids))
unfolding couples_of couple_ids Lower
couples_lower n [] h = tt
couples_lower n (a ∷ []) h = tt
couples_lower n (a ∷ b ∷ ids) h = (h.0, (h.1.0, couples_lower n ids h.1.1))

-- ---- links

abbrev links_option : Exprs_at → Option (List Link) → Option Links
links_option f None = None
links_option f (Some ls) = Some (links_at f ls)

link_step : (f : Exprs_at) (op : Option Operator) (id : Id PyNodes) (o : Option (List Link)) → links_option f (forming.with_link op id o) ≡ convert.with_link op (f id.place) (links_option f o)
unfolding links_at convert.with_link
link_step f None id o = refl
link_step f (Some op) id None = refl
link_step f (Some op) id (Some ls) = refl

pub links_is : (src : List ℕ) (f : Exprs_at) (xs : List Token) (ids : Ids) → links_option f (links_in src xs ids) ≡ links src xs (items_at f ids)
unfolding links_in links items_at links_at
links_is src f [] ids = refl
links_is src f (x ∷ xs) [] = refl
links_is src f (x ∷ xs) (id ∷ ids) = link_step f (operator_of (sign_of src x)) id (links_in src xs ids) ∙ ap (convert.with_link (operator_of (sign_of src x)) (f id.place)) (links_is src f xs ids)

abbrev LinksLower : ℕ → Option (List Link) → Type 0
LinksLower n None = Unit {0}
LinksLower n (Some ls) = Lower n (link_ids ls)

link_lower : (n : ℕ) (op : Option Operator) (id : Id PyNodes) (o : Option (List Link)) → id.place < n → LinksLower n o → LinksLower n (forming.with_link op id o)
unfolding link_ids Lower
link_lower n None id o p h = tt
link_lower n (Some op) id None p h = tt
link_lower n (Some op) id (Some ls) p h = (p, h)

pub links_lower : (src : List ℕ) (n : ℕ) (xs : List Token) (ids : Ids) → Lower n ids → LinksLower n (links_in src xs ids)
unfolding links_in Lower link_ids
links_lower src n [] ids h = tt
links_lower src n (x ∷ xs) [] h = tt
links_lower src n (x ∷ xs) (id ∷ ids) h = link_lower n (operator_of (sign_of src x)) id (links_in src xs ids) h.0 (links_lower src n xs ids h.1)

-- ---- signs

abbrev signs_option : Option (List Signed) → Option (List ast.Sign)
signs_option None = None
signs_option (Some xs) = Some (map signed xs)

sign_step : (line : ℕ) (p : Option Prefix) (o : Option (List Signed)) → signs_option (forming.with_sign line p o) ≡ convert.with_sign line p (signs_option o)
unfolding convert.with_sign
sign_step line None o = refl
sign_step line (Some p) None = refl
sign_step line (Some p) (Some xs) = refl

pub signs_is : (src : List ℕ) (xs : List Token) → signs_option (signs_in src xs) ≡ signs src xs
unfolding signs_in signs
signs_is src [] = refl
signs_is src (x ∷ xs) = sign_step x.line (prefix_of (sign_of src x)) (signs_in src xs) ∙ ap (convert.with_sign x.line (prefix_of (sign_of src x))) (signs_is src xs)

-- ---- forms of tokens and nodes

pub chain_form : (src : List ℕ) (xs : List Token) (first : Id PyNodes) (ids : Ids) (ls : List Link) → Some ls ≡ links_in src xs ids → IsFlat src (chain src) xs (first ∷ ids) (form.Chain first ls)
unfolding chain linked expr_form expr_ids items_at Lower
chain_form src xs first ids ls p = record {
  expr = λ f line. ap (linked line (f first.place)) (ap (links_option f) p ∙ links_is src f xs ids);
  lower = λ n h. (h.0, subst (λ o. LinksLower n o) (sym p) (links_lower src n xs ids h.1));
}

pub no_chain : (src : List ℕ) (xs : List Token) (first : Id PyNodes) (ids : Ids) → None ≡ links_in src xs ids → IsFlat src (chain src) xs (first ∷ ids) form.Misshapen
unfolding chain linked expr_form expr_ids items_at Lower
no_chain src xs first ids p = record {
  expr = λ f line. ap (linked line (f first.place)) (ap (links_option f) p ∙ links_is src f xs ids);
  lower = λ n h. tt;
}

pub prefixed_none : (src : List ℕ) (xs : List Token) (ids : Ids) → None ≡ signs_in src xs → IsFlat src (λ ys line es. prefixed (signs src ys) es) xs ids form.Misshapen
unfolding prefixed expr_form expr_ids Lower
prefixed_none src xs ids p = record {
  expr = λ f line. ap (λ o. prefixed o (items_at f ids)) (ap signs_option p ∙ signs_is src xs);
  lower = λ n h. tt;
}

pub prefixed_form : (src : List ℕ) (xs : List Token) (ids : Ids) (ss : List Signed) (made : ExprForm) → Some ss ≡ signs_in src xs → IsAlone src (λ line e. ast.Prefixed (map signed ss) e) ids made → IsFlat src (λ ys line es. prefixed (signs src ys) es) xs ids made
unfolding prefixed
prefixed_form src xs ids ss made p is = record {
  expr = λ f line. is.expr f line ∙ ap (λ o. prefixed o (items_at f ids)) (ap signs_option p ∙ signs_is src xs);
  lower = is.lower;
}

-- ---- in a tree

line_grown : (r : Rule) (ps : Parts) → line_of (Grown r ps) ≡ line_of_parts ps
unfolding line_of
line_grown r ps = refl

-- the line of a tree at a place
pub line_is : (t : ℕ → Tree) (k : ℕ) (node : PyNode) → t k ≡ node_tree t node → line_of_parts (plants t node.parts) ≡ line_of (t k)
line_is t k node e = sym (ap line_of e ∙ line_grown node.rule (plants t node.parts))

as_expr : (src : List ℕ) (t : ℕ → Tree) (k : ℕ) (node : PyNode) (word : Expr) (made : ExprForm) → t k ≡ node_tree t node → word ≡ expr src (Grown node.rule (plants t node.parts))
    → IsExpr src t k (line_of_parts (plants t node.parts)) word made → IsExprAt src t k made
as_expr src t k node word made e w is = record {
  says = ap (λ line. expr_form src (exprs_of src t) line made) (sym (line_is t k node e)) ∙ is.says ∙ w ∙ sym (ap (expr src) e);
  lower = is.lower;
}

expr_post : (src : List ℕ) (r : Rule) (ps : Parts) → r ≡ rule.Post → post src ps ≡ expr src (Grown r ps)
unfolding expr
expr_post src rule.Post ps e = refl
expr_post src _ ps e = absurd (cc)

expr_atom : (src : List ℕ) (r : Rule) (ps : Parts) → r ≡ rule.Atom → atom src ps ≡ expr src (Grown r ps)
unfolding expr
expr_atom src rule.Atom ps e = refl
expr_atom src _ ps e = absurd (cc)

expr_choice : (src : List ℕ) (r : Rule) (ps : Parts) → r ≡ rule.Expr → chosen src ps ≡ expr src (Grown r ps)
unfolding expr chosen
expr_choice src rule.Expr ps e = refl
expr_choice src _ ps e = absurd (cc)

expr_flat : (src : List ℕ) (r : Rule) (ps : Parts) → (r ≡ rule.Post → ⊥) → (r ≡ rule.Atom → ⊥) → (r ≡ rule.Expr → ⊥) → flat src r (tokens ps) (line_of_parts ps) (exprs src ps) ≡ expr src (Grown r ps)
unfolding expr
expr_flat src rule.Post ps h i j = absurd (h refl)
expr_flat src rule.Atom ps h i j = absurd (i refl)
expr_flat src rule.Expr ps h i j = absurd (j refl)
expr_flat src _ ps h i j = refl

pub post_at : (src : List ℕ) (t : ℕ → Tree) (k : ℕ) (node : PyNode) (made : ExprForm) → t k ≡ node_tree t node → node.rule ≡ rule.Post
    → IsExpr src t k (line_of_parts (plants t node.parts)) (post src (plants t node.parts)) made → IsExprAt src t k made
post_at src t k node made e r is = as_expr src t k node (post src (plants t node.parts)) made e (expr_post src node.rule (plants t node.parts) r) is

pub atom_at : (src : List ℕ) (t : ℕ → Tree) (k : ℕ) (node : PyNode) (made : ExprForm) → t k ≡ node_tree t node → node.rule ≡ rule.Atom
    → IsExpr src t k (line_of_parts (plants t node.parts)) (atom src (plants t node.parts)) made → IsExprAt src t k made
atom_at src t k node made e r is = as_expr src t k node (atom src (plants t node.parts)) made e (expr_atom src node.rule (plants t node.parts) r) is

pub choice_at : (src : List ℕ) (t : ℕ → Tree) (k : ℕ) (node : PyNode) (made : ExprForm) → t k ≡ node_tree t node → node.rule ≡ rule.Expr
    → IsExpr src t k (line_of_parts (plants t node.parts)) (chosen src (plants t node.parts)) made → IsExprAt src t k made
choice_at src t k node made e r is = as_expr src t k node (chosen src (plants t node.parts)) made e (expr_choice src node.rule (plants t node.parts) r) is

pub flat_at : (src : List ℕ) (t : ℕ → Tree) (k : ℕ) (node : PyNode) (xs : List Token) (ids : Ids) (made : ExprForm) → t k ≡ node_tree t node → parts_below k node.parts ≡ true
    → (node.rule ≡ rule.Post → ⊥) → (node.rule ≡ rule.Atom → ⊥) → (node.rule ≡ rule.Expr → ⊥) → IsSplit node.parts xs ids → IsFlat src (flat src node.rule) xs ids made → IsExprAt src t k made
flat_at src t k node xs ids made e low h i j split is =
    let ps : Parts = plants t node.parts in
    as_expr src t k node (flat src node.rule (tokens ps) (line_of_parts ps) (exprs src ps)) made e (expr_flat src node.rule ps h i j) (record {
      says = is.expr (exprs_of src t) (line_of_parts ps) ∙ ap (λ ys. flat src node.rule ys (line_of_parts ps) (items_at (exprs_of src t) ids)) (split.tokens t) ∙ ap (flat src node.rule (tokens ps) (line_of_parts ps)) (split.nodes src t);
      lower = is.lower k (split.lower k (parts_lower k k node.parts (omega arith) low));
    })
