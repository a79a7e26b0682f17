-- The tokens and nodes among parts, here and in the tree that hangs there.
use Rattle.std.proofs.Common.{ℕ, zero, suc, ◌≡◌, ◌<◌, ◌++◌, ◌∙◌, List, [], ◌∷◌, length, drop, refl, ap, sym, arith, append_assoc, append-nil, Option, Some, None}
use Rattle.lx_arena.specs.declared.Id.{Id}
use Rattle.lx_pytree.specs.declared.tree.PyNodes.{PyNodes}
use Rattle.lx_syntax.specs.declared.forms.Couple.{Couple}
use Rattle.lx_syntax.specs.declared.forms.Link.{Link}
use Rattle.lx_token.specs.declared.tokens.Token.{Token}
use Rattle.lx_grammar.specs.Derives.{Tree}
use Rattle.lx_pytree.specs.declared.tree.PyPart.{PyPart}
use Rattle.lx_pytree.specs.declared.tree.PyPart.TheVariants as part
use Rattle.lx_pytree.specs.Trees.{plants}
use Rattle.lx_syntax.specs.Ast as ast
use Rattle.lx_syntax.specs.Convert.{expr, exprs, tokens}
use Rattle.lx_syntax.specs.Forming.{behind, couples_of, links_in, nodes_in, tokens_in}
use Rattle.lx_syntax.specs.Forms.{Ids, Lower, items_at}
use Rattle.lx_syntax.specs.Says.{IsSplit, PartsLower, exprs_of}

pub tokens_planted : (t : ℕ → Tree) (ps : List PyPart) → tokens_in ps ≡ tokens (plants t ps)
unfolding tokens_in tokens plants
tokens_planted t [] = refl
tokens_planted t (part.Token x ∷ ps) = ap (λ xs. x ∷ xs) (tokens_planted t ps)
tokens_planted t (part.Node id ∷ ps) = tokens_planted t ps

pub nodes_planted : (src : List ℕ) (t : ℕ → Tree) (ps : List PyPart) → items_at (exprs_of src t) (nodes_in ps) ≡ exprs src (plants t ps)
unfolding nodes_in exprs plants items_at
nodes_planted src t [] = refl
nodes_planted src t (part.Token x ∷ ps) = nodes_planted src t ps
nodes_planted src t (part.Node id ∷ ps) = ap (λ es. ast.more (expr src (t id.place)) es) (nodes_planted src t ps)

pub nodes_lower : (n : ℕ) (ps : List PyPart) → PartsLower n ps → Lower n (nodes_in ps)
unfolding nodes_in PartsLower Lower
nodes_lower n [] h = tt
nodes_lower n (part.Token x ∷ ps) h = nodes_lower n ps h
nodes_lower n (part.Node id ∷ ps) h = (h.0, nodes_lower n ps h.1)

split_in : (ps : List PyPart) → IsSplit ps (tokens_in ps) (nodes_in ps)
split_in ps = record { tokens = λ t. tokens_planted t ps; nodes = λ src t. nodes_planted src t ps; lower = λ n. nodes_lower n ps }

pub split_is : (ps : List PyPart) (xs : List Token) (ids : Ids) → xs ≡ tokens_in ps → ids ≡ nodes_in ps → IsSplit ps xs ids
split_is ps xs ids p q = rw (p, q) (split_in ps)

pub no_operand : (src : List ℕ) (n : ℕ) (xs : List Token) → n < length xs → links_in src (drop n xs) [] ≡ None
unfolding links_in
no_operand src n [] h = absurd (omega (arith, h))
no_operand src zero (x ∷ xs) h = refl
no_operand src (suc n) (x ∷ xs) h = no_operand src n xs (omega (arith, h))

pub links_short : (src : List ℕ) (n : ℕ) (xs : List Token) (rest : Ids) (ls : List Link) (whole : Option (List Link)) → n < length xs → rest ≡ [] → behind ls (links_in src (drop n xs) rest) ≡ whole → None ≡ whole
links_short src n xs rest ls whole h r e = sym (ap (behind ls) (ap (links_in src (drop n xs)) r ∙ no_operand src n xs h)) ∙ e

pub twos_next : (ids rest left : Ids) (a b : Id PyNodes) → (ids ≡ a ∷ rest) × (length rest < length ids) → (rest ≡ b ∷ left) × (length left < length rest) → (ids ≡ a ∷ b ∷ left) × (length left < length ids)
twos_next ids rest left a b h i = (h.0 ∙ ap (λ xs. a ∷ xs) i.0, omega (arith, h.1, i.1))

pub twos_none : (ids : Ids) → ids ≡ [] → length ids < 2
twos_none ids e = rw e (omega arith)

pub twos_one : (ids rest : Ids) (a : Id PyNodes) → (ids ≡ a ∷ rest) × (length rest < length ids) → rest ≡ [] → length ids < 2
twos_one ids rest a h e = rw (h.0, e) (omega arith)

couples_step : (made more : List Couple) (a b : Id PyNodes) (ids : Ids) (whole : List Couple) → made ++ couples_of (a ∷ b ∷ ids) ≡ whole → more ≡ made ++ record { first = a; second = b } ∷ [] → more ++ couples_of ids ≡ whole
unfolding couples_of
couples_step made more a b ids whole e p = ap (λ xs. xs ++ couples_of ids) p ∙ append_assoc made (record { first = a; second = b } ∷ []) (couples_of ids) ∙ e

pub couples_more : (made more : List Couple) (rest : Ids) (a b : Id PyNodes) (ids : Ids) (whole : List Couple) → made ++ couples_of rest ≡ whole → rest ≡ a ∷ b ∷ ids → more ≡ made ++ record { first = a; second = b } ∷ [] → more ++ couples_of ids ≡ whole
couples_more made more rest a b ids whole e r p = couples_step made more a b ids whole (ap (λ xs. made ++ couples_of xs) (sym r) ∙ e) p

none_left : (ids : Ids) → length ids < 2 → couples_of ids ≡ []
unfolding couples_of
none_left [] h = refl
none_left (a ∷ []) h = refl
none_left (a ∷ b ∷ ids) h = absurd (omega (arith, h))

pub couples_all : (made : List Couple) (ids : Ids) (whole : List Couple) → made ++ couples_of ids ≡ whole → length ids < 2 → made ≡ whole
couples_all made ids whole e h = sym (append-nil made) ∙ ap (λ xs. made ++ xs) (sym (none_left ids h)) ∙ e

pub behind_more : {A : Type 0} (xs : List A) (x : A) (o : Option (List A)) → behind (xs ++ x ∷ []) o ≡ behind xs (behind (x ∷ []) o)
behind_more xs x None = refl
behind_more xs x (Some ys) = ap Some (append_assoc xs (x ∷ []) ys)
