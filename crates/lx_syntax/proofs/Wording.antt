-- Atoms by their first parts.
use Rattle.std.proofs.Common.{ℕ, ◌≡◌, ◌<◌, List, [], ◌∷◌, refl, subst}
use Rattle.lx_token.specs.declared.tokens.Token.{Token}
use Rattle.lx_arena.specs.declared.Id.{Id}
use Rattle.lx_grammar.specs.Derives.{Tree}
use Rattle.lx_pytree.specs.declared.tree.PyNodes.{PyNodes}
use Rattle.lx_pytree.specs.declared.tree.PyPart.{PyPart}
use Rattle.lx_pytree.specs.declared.tree.PyPart.TheVariants as part
use Rattle.lx_pytree.specs.Trees.{plants}
use Rattle.lx_syntax.specs.declared.forms.ExprForm.{ExprForm}
use Rattle.lx_syntax.specs.declared.forms.ExprForm.TheVariants as form
use Rattle.lx_syntax.specs.Brackets.{IsBare, bracketed, spelled_out}
use Rattle.lx_syntax.specs.Convert.{atom, empty, leaf, line_of_parts, sign_of}
use Rattle.lx_syntax.specs.Forms.{Lower, expr_form, expr_ids}
use Rattle.lx_syntax.specs.Says.{IsExpr, PartsLower, SaysOf}
use Rattle.lx_syntax.proofs.Bracketing.{bare_made}

none_atom : (src : List ℕ) (t : ℕ → Tree) (n : ℕ) → SaysOf src t n [] atom form.Misshapen
unfolding atom expr_form expr_ids Lower plants
none_atom src t n = record { says = refl; lower = tt }

node_atom : (src : List ℕ) (t : ℕ → Tree) (n : ℕ) (id : Id PyNodes) (ps : List PyPart) → SaysOf src t n (part.Node id ∷ ps) atom form.Misshapen
unfolding atom expr_form expr_ids Lower plants
node_atom src t n id ps = record { says = refl; lower = tt }

tokens_atom : (src : List ℕ) (t : ℕ → Tree) (n : ℕ) (x y z : Token) (ps : List PyPart) → SaysOf src t n (part.Token x ∷ part.Token y ∷ part.Token z ∷ ps) atom form.Misshapen
unfolding atom expr_form expr_ids Lower plants
tokens_atom src t n x y z ps = record { says = refl; lower = tt }

late_atom : (src : List ℕ) (t : ℕ → Tree) (n : ℕ) (x y : Token) (id : Id PyNodes) (ps : List PyPart) → SaysOf src t n (part.Token x ∷ part.Token y ∷ part.Node id ∷ ps) atom form.Misshapen
unfolding atom expr_form expr_ids Lower plants
late_atom src t n x y id ps = record { says = refl; lower = tt }

open_atom : (src : List ℕ) (t : ℕ → Tree) (n : ℕ) (x : Token) (id : Id PyNodes) → SaysOf src t n (part.Token x ∷ part.Node id ∷ []) atom form.Misshapen
unfolding atom expr_form expr_ids Lower plants
open_atom src t n x id = record { says = refl; lower = tt }

nodes_atom : (src : List ℕ) (t : ℕ → Tree) (n : ℕ) (x : Token) (id j : Id PyNodes) (ps : List PyPart) → SaysOf src t n (part.Token x ∷ part.Node id ∷ part.Node j ∷ ps) atom form.Misshapen
unfolding atom expr_form expr_ids Lower plants
nodes_atom src t n x id j ps = record { says = refl; lower = tt }

closed_atom : (src : List ℕ) (t : ℕ → Tree) (n : ℕ) (x y z : Token) (id : Id PyNodes) (ps : List PyPart) → SaysOf src t n (part.Token x ∷ part.Node id ∷ part.Token y ∷ part.Token z ∷ ps) atom form.Misshapen
unfolding atom expr_form expr_ids Lower plants
closed_atom src t n x y z id ps = record { says = refl; lower = tt }

pub atom_done : (src : List ℕ) (t : ℕ → Tree) (n : ℕ) (ps : List PyPart) → ps ≡ [] → SaysOf src t n ps atom form.Misshapen
atom_done src t n ps e = rw e (none_atom src t n)

pub atom_node : (src : List ℕ) (t : ℕ → Tree) (n : ℕ) (ps qs : List PyPart) (id : Id PyNodes) → ps ≡ part.Node id ∷ qs → SaysOf src t n ps atom form.Misshapen
atom_node src t n ps qs id e = rw e (node_atom src t n id qs)

pub atom_same : (src : List ℕ) (t : ℕ → Tree) (n : ℕ) (ps qs : List PyPart) (made : ExprForm) → ps ≡ qs → SaysOf src t n qs atom made → SaysOf src t n ps atom made
atom_same src t n ps qs made e is = rw e is

token_low : (n : ℕ) (x : Token) (qs : List PyPart) → PartsLower n (part.Token x ∷ qs) → PartsLower n qs
unfolding PartsLower
token_low n x qs h = h

node_low : (n : ℕ) (id : Id PyNodes) (qs : List PyPart) → PartsLower n (part.Node id ∷ qs) → (id.place < n) × PartsLower n qs
unfolding PartsLower
node_low n id qs h = h

pub atom_low : (n : ℕ) (ps qs : List PyPart) (x : Token) → ps ≡ part.Token x ∷ qs → PartsLower n ps → PartsLower n qs
atom_low n ps qs x e h = token_low n x qs (subst (PartsLower n) e h)

-- ---- behind a token

leaf_is : (src : List ℕ) (t : ℕ → Tree) (n : ℕ) (x : Token) (made : ExprForm) → IsBare src x.line (leaf src x (sign_of src x)) made → SaysOf src t n (part.Token x ∷ []) atom made
unfolding atom plants line_of_parts
leaf_is src t n x made is = bare_made src t n x.line (leaf src x (sign_of src x)) made is

empty_is : (src : List ℕ) (t : ℕ → Tree) (n : ℕ) (x y : Token) (made : ExprForm) → IsBare src x.line (empty (sign_of src x) x.line) made → SaysOf src t n (part.Token x ∷ part.Token y ∷ []) atom made
unfolding atom plants line_of_parts
empty_is src t n x y made is = bare_made src t n x.line (empty (sign_of src x) x.line) made is

pub leaf_made : (src : List ℕ) (t : ℕ → Tree) (n : ℕ) (x : Token) (ps : List PyPart) (made : ExprForm) → ps ≡ [] → IsBare src x.line (leaf src x (sign_of src x)) made → SaysOf src t n (part.Token x ∷ ps) atom made
leaf_made src t n x ps made e is = rw e (leaf_is src t n x made is)

pub empty_made : (src : List ℕ) (t : ℕ → Tree) (n : ℕ) (x y : Token) (ps qs : List PyPart) (made : ExprForm) → ps ≡ part.Token y ∷ qs → qs ≡ [] → IsBare src x.line (empty (sign_of src x) x.line) made → SaysOf src t n (part.Token x ∷ ps) atom made
empty_made src t n x y ps qs made e f is = rw (e, f) (empty_is src t n x y made is)

pub empty_token : (src : List ℕ) (t : ℕ → Tree) (n : ℕ) (x y z : Token) (ps qs rs : List PyPart) → ps ≡ part.Token y ∷ qs → qs ≡ part.Token z ∷ rs → SaysOf src t n (part.Token x ∷ ps) atom form.Misshapen
empty_token src t n x y z ps qs rs e f = rw (e, f) (tokens_atom src t n x y z rs)

pub empty_node : (src : List ℕ) (t : ℕ → Tree) (n : ℕ) (x y : Token) (id : Id PyNodes) (ps qs rs : List PyPart) → ps ≡ part.Token y ∷ qs → qs ≡ part.Node id ∷ rs → SaysOf src t n (part.Token x ∷ ps) atom form.Misshapen
empty_node src t n x y id ps qs rs e f = rw (e, f) (late_atom src t n x y id rs)

pub inner_same : (src : List ℕ) (t : ℕ → Tree) (n : ℕ) (x : Token) (ps qs : List PyPart) (made : ExprForm) → ps ≡ qs → SaysOf src t n (part.Token x ∷ qs) atom made → SaysOf src t n (part.Token x ∷ ps) atom made
inner_same src t n x ps qs made e is = rw e is

pub inner_low : (n : ℕ) (ps qs : List PyPart) (id : Id PyNodes) → ps ≡ part.Node id ∷ qs → PartsLower n ps → id.place < n
inner_low n ps qs id e h = (node_low n id qs (subst (PartsLower n) e h)).0

pub inner_rest : (n : ℕ) (ps qs : List PyPart) (id : Id PyNodes) → ps ≡ part.Node id ∷ qs → PartsLower n ps → PartsLower n qs
inner_rest n ps qs id e h = (node_low n id qs (subst (PartsLower n) e h)).1

-- ---- behind a bracket and a node

pub open_done : (src : List ℕ) (t : ℕ → Tree) (n : ℕ) (x : Token) (id : Id PyNodes) (ps : List PyPart) → ps ≡ [] → SaysOf src t n (part.Token x ∷ part.Node id ∷ ps) atom form.Misshapen
open_done src t n x id ps e = rw e (open_atom src t n x id)

pub open_node : (src : List ℕ) (t : ℕ → Tree) (n : ℕ) (x : Token) (id j : Id PyNodes) (ps qs : List PyPart) → ps ≡ part.Node j ∷ qs → SaysOf src t n (part.Token x ∷ part.Node id ∷ ps) atom form.Misshapen
open_node src t n x id j ps qs e = rw e (nodes_atom src t n x id j qs)

group_is : (src : List ℕ) (t : ℕ → Tree) (n : ℕ) (x y : Token) (id : Id PyNodes) (made : ExprForm) → IsExpr src t n x.line (bracketed src t x id.place) made → SaysOf src t n (part.Token x ∷ part.Node id ∷ part.Token y ∷ []) atom made
unfolding atom plants line_of_parts
group_is src t n x y id made is = is

spell_is : (src : List ℕ) (t : ℕ → Tree) (n : ℕ) (x y : Token) (id j : Id PyNodes) (ps : List PyPart) (made : ExprForm) → IsExpr src t n x.line (spelled_out src t x id.place j.place ps) made → SaysOf src t n (part.Token x ∷ part.Node id ∷ part.Token y ∷ part.Node j ∷ ps) atom made
unfolding atom plants line_of_parts
spell_is src t n x y id j ps made is = is

pub group_made : (src : List ℕ) (t : ℕ → Tree) (n : ℕ) (x y : Token) (id : Id PyNodes) (ps qs : List PyPart) (made : ExprForm) → ps ≡ part.Token y ∷ qs → qs ≡ [] → IsExpr src t n x.line (bracketed src t x id.place) made → SaysOf src t n (part.Token x ∷ part.Node id ∷ ps) atom made
group_made src t n x y id ps qs made e f is = rw (e, f) (group_is src t n x y id made is)

pub group_token : (src : List ℕ) (t : ℕ → Tree) (n : ℕ) (x y z : Token) (id : Id PyNodes) (ps qs rs : List PyPart) → ps ≡ part.Token y ∷ qs → qs ≡ part.Token z ∷ rs → SaysOf src t n (part.Token x ∷ part.Node id ∷ ps) atom form.Misshapen
group_token src t n x y z id ps qs rs e f = rw (e, f) (closed_atom src t n x y z id rs)

pub spell_made : (src : List ℕ) (t : ℕ → Tree) (n : ℕ) (x y : Token) (id j : Id PyNodes) (ps qs rs : List PyPart) (made : ExprForm) → ps ≡ part.Token y ∷ qs → qs ≡ part.Node j ∷ rs → IsExpr src t n x.line (spelled_out src t x id.place j.place rs) made
    → SaysOf src t n (part.Token x ∷ part.Node id ∷ ps) atom made
spell_made src t n x y id j ps qs rs made e f is = rw (e, f) (spell_is src t n x y id j rs made is)

pub second_low : (n : ℕ) (ps qs rs : List PyPart) (y : Token) (j : Id PyNodes) → ps ≡ part.Token y ∷ qs → qs ≡ part.Node j ∷ rs → PartsLower n ps → j.place < n
second_low n ps qs rs y j e f h = inner_low n qs rs j f (atom_low n ps qs y e h)

pub second_rest : (n : ℕ) (ps qs rs : List PyPart) (y : Token) (j : Id PyNodes) → ps ≡ part.Token y ∷ qs → qs ≡ part.Node j ∷ rs → PartsLower n ps → PartsLower n rs
second_rest n ps qs rs y j e f h = inner_rest n qs rs j f (atom_low n ps qs y e h)
