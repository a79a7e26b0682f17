-- Simple statements and places by their first parts.
use Rattle.std.proofs.Common.{ℕ, ◌≡◌, ◌<◌, List, [], ◌∷◌, refl, sym, subst, arith, Option, Some, None}
use Rattle.lx_token.specs.declared.tokens.Token.{Token}
use Rattle.lx_arena.specs.declared.Id.{Id}
use Rattle.lx_grammar.specs.declared.sign.Sign.{Sign}
use Rattle.lx_grammar.specs.Derives.{Tree}
use Rattle.lx_pytree.specs.declared.tree.PyNodes.{PyNodes}
use Rattle.lx_pytree.specs.declared.tree.PyPart.{PyPart}
use Rattle.lx_pytree.specs.declared.tree.PyPart.TheVariants as part
use Rattle.lx_pytree.specs.Trees.{plants}
use Rattle.lx_syntax.specs.declared.forms.Place.{Place}
use Rattle.lx_syntax.specs.declared.forms.Place.TheVariants as place
use Rattle.lx_syntax.specs.declared.forms.StmtForm.{StmtForm}
use Rattle.lx_syntax.specs.declared.forms.StmtForm.TheVariants as form
use Rattle.lx_syntax.specs.Blocks.{IsBound, IsPlaceAt, IsPlaceIn}
use Rattle.lx_syntax.specs.Convert.{line_of_parts, place_of, sign_of, simple}
use Rattle.lx_syntax.specs.Forms.{Lower, stmt_form, stmt_ids}
use Rattle.lx_syntax.specs.Says.{PartsLower, StmtSaysOf}
use Rattle.lx_syntax.proofs.Blocking.{bound_made}

-- ---- places

nowhere : IsPlaceIn [] None
unfolding place_of plants Lower
nowhere = record { says = λ src t. refl; lower = λ n l. tt }

two_names : (x y : Token) (ps : List PyPart) → IsPlaceIn (part.Token x ∷ part.Token y ∷ ps) None
unfolding place_of plants Lower
two_names x y ps = record { says = λ src t. refl; lower = λ n l. tt }

name_node : (x : Token) (id : Id PyNodes) (ps : List PyPart) → IsPlaceIn (part.Token x ∷ part.Node id ∷ ps) None
unfolding place_of plants Lower
name_node x id ps = record { says = λ src t. refl; lower = λ n l. tt }

of_nothing : (of : Id PyNodes) → IsPlaceIn (part.Node of ∷ []) None
unfolding place_of plants Lower
of_nothing of = record { says = λ src t. refl; lower = λ n l. tt }

of_another : (of id : Id PyNodes) (ps : List PyPart) → IsPlaceIn (part.Node of ∷ part.Node id ∷ ps) None
unfolding place_of plants Lower
of_another of id ps = record { says = λ src t. refl; lower = λ n l. tt }

of_open : (of : Id PyNodes) (x : Token) → IsPlaceIn (part.Node of ∷ part.Token x ∷ []) None
unfolding place_of plants Lower
of_open of x = record { says = λ src t. refl; lower = λ n l. tt }

of_inner : (of id : Id PyNodes) (x : Token) (ps : List PyPart) → IsPlaceIn (part.Node of ∷ part.Token x ∷ part.Node id ∷ ps) None
unfolding place_of plants Lower
of_inner of id x ps = record { says = λ src t. refl; lower = λ n l. tt }

of_token : (of : Id PyNodes) (x y z : Token) (ps : List PyPart) → IsPlaceIn (part.Node of ∷ part.Token x ∷ part.Token y ∷ part.Token z ∷ ps) None
unfolding place_of plants Lower
of_token of x y z ps = record { says = λ src t. refl; lower = λ n l. tt }

of_late : (of id : Id PyNodes) (x y : Token) (ps : List PyPart) → IsPlaceIn (part.Node of ∷ part.Token x ∷ part.Token y ∷ part.Node id ∷ ps) None
unfolding place_of plants Lower
of_late of id x y ps = record { says = λ src t. refl; lower = λ n l. tt }

a_name : (x : Token) → IsPlaceIn (part.Token x ∷ []) (Some (place.Name x))
unfolding place_of plants Lower
a_name x = record { says = λ src t. refl; lower = λ n l. tt }

an_attribute : (of : Id PyNodes) (x y : Token) → IsPlaceIn (part.Node of ∷ part.Token x ∷ part.Token y ∷ []) (Some (place.Attribute of y))
unfolding place_of plants PartsLower Lower
an_attribute of x y = record { says = λ src t. refl; lower = λ n l. (l.0, tt) }

pub place_done : (ps : List PyPart) → ps ≡ [] → IsPlaceIn ps None
place_done ps e = rw e nowhere

pub place_same : (ps qs : List PyPart) (o : Option Place) → ps ≡ qs → IsPlaceIn qs o → IsPlaceIn ps o
place_same ps qs o e is = rw e is

pub place_name : (ps qs : List PyPart) (x : Token) → ps ≡ part.Token x ∷ qs → qs ≡ [] → IsPlaceIn ps (Some (place.Name x))
place_name ps qs x e f = rw (e, f) (a_name x)

pub place_more : (ps qs rs : List PyPart) (x : Token) (p : PyPart) → ps ≡ part.Token x ∷ qs → qs ≡ p ∷ rs → IsPlaceIn ps None
place_more ps qs rs x (part.Token y) e f = rw (e, f) (two_names x y rs)
place_more ps qs rs x (part.Node id) e f = rw (e, f) (name_node x id rs)

pub of_done : (of : Id PyNodes) (ps : List PyPart) → ps ≡ [] → IsPlaceIn (part.Node of ∷ ps) None
of_done of ps e = rw e (of_nothing of)

pub of_node : (of id : Id PyNodes) (ps qs : List PyPart) → ps ≡ part.Node id ∷ qs → IsPlaceIn (part.Node of ∷ ps) None
of_node of id ps qs e = rw e (of_another of id qs)

pub of_dot : (of : Id PyNodes) (x : Token) (ps qs : List PyPart) → ps ≡ part.Token x ∷ qs → qs ≡ [] → IsPlaceIn (part.Node of ∷ ps) None
of_dot of x ps qs e f = rw (e, f) (of_open of x)

pub of_dot_node : (of id : Id PyNodes) (x : Token) (ps qs rs : List PyPart) → ps ≡ part.Token x ∷ qs → qs ≡ part.Node id ∷ rs → IsPlaceIn (part.Node of ∷ ps) None
of_dot_node of id x ps qs rs e f = rw (e, f) (of_inner of id x rs)

pub of_name : (of : Id PyNodes) (x y : Token) (ps qs rs : List PyPart) (o : Option Place) → ps ≡ part.Token x ∷ qs → qs ≡ part.Token y ∷ rs → IsPlaceIn (part.Node of ∷ part.Token x ∷ part.Token y ∷ rs) o → IsPlaceIn (part.Node of ∷ ps) o
of_name of x y ps qs rs o e f is = rw (e, f) is

pub name_done : (of : Id PyNodes) (x y : Token) (ps : List PyPart) → ps ≡ [] → IsPlaceIn (part.Node of ∷ part.Token x ∷ part.Token y ∷ ps) (Some (place.Attribute of y))
name_done of x y ps e = rw e (an_attribute of x y)

pub name_more : (of : Id PyNodes) (x y : Token) (ps qs : List PyPart) (p : PyPart) → ps ≡ p ∷ qs → IsPlaceIn (part.Node of ∷ part.Token x ∷ part.Token y ∷ ps) None
name_more of x y ps qs (part.Token z) e = rw e (of_token of x y z qs)
name_more of x y ps qs (part.Node id) e = rw e (of_late of id x y qs)

-- ---- statements

no_stmt : (src : List ℕ) (t : ℕ → Tree) (n : ℕ) → StmtSaysOf src t n [] simple form.NoStmt
unfolding simple stmt_form stmt_ids Lower plants
no_stmt src t n = record { says = refl; lower = tt }

only_node : (src : List ℕ) (t : ℕ → Tree) (n : ℕ) (at : Id PyNodes) → StmtSaysOf src t n (part.Node at ∷ []) simple form.NoStmt
unfolding simple stmt_form stmt_ids Lower plants
only_node src t n at = record { says = refl; lower = tt }

two_nodes : (src : List ℕ) (t : ℕ → Tree) (n : ℕ) (at id : Id PyNodes) (ps : List PyPart) → StmtSaysOf src t n (part.Node at ∷ part.Node id ∷ ps) simple form.NoStmt
unfolding simple stmt_form stmt_ids Lower plants
two_nodes src t n at id ps = record { says = refl; lower = tt }

two_tokens : (src : List ℕ) (t : ℕ → Tree) (n : ℕ) (at : Id PyNodes) (x y : Token) (ps : List PyPart) → StmtSaysOf src t n (part.Node at ∷ part.Token x ∷ part.Token y ∷ ps) simple form.NoStmt
unfolding simple stmt_form stmt_ids Lower plants
two_tokens src t n at x y ps = record { says = refl; lower = tt }

a_pass : (src : List ℕ) (t : ℕ → Tree) (n : ℕ) (x : Token) (ps : List PyPart) → StmtSaysOf src t n (part.Token x ∷ ps) simple form.Pass
unfolding simple stmt_form stmt_ids Lower plants line_of_parts
a_pass src t n x ps = record { says = refl; lower = tt }

a_value : (src : List ℕ) (t : ℕ → Tree) (n : ℕ) (at : Id PyNodes) (x : Token) → at.place < n → StmtSaysOf src t n (part.Node at ∷ part.Token x ∷ []) simple (form.Value at)
unfolding simple stmt_form stmt_ids Lower plants line_of_parts
a_value src t n at x l = record { says = refl; lower = (l, tt) }

pub simple_done : (src : List ℕ) (t : ℕ → Tree) (n : ℕ) (ps : List PyPart) → ps ≡ [] → StmtSaysOf src t n ps simple form.NoStmt
simple_done src t n ps e = rw e (no_stmt src t n)

pub simple_pass : (src : List ℕ) (t : ℕ → Tree) (n : ℕ) (ps qs : List PyPart) (x : Token) → ps ≡ part.Token x ∷ qs → StmtSaysOf src t n ps simple form.Pass
simple_pass src t n ps qs x e = rw e (a_pass src t n x qs)

pub simple_same : (src : List ℕ) (t : ℕ → Tree) (n : ℕ) (ps qs : List PyPart) (made : StmtForm) → ps ≡ qs → StmtSaysOf src t n qs simple made → StmtSaysOf src t n ps simple made
simple_same src t n ps qs made e is = rw e is

pub simple_low : (n : ℕ) (ps qs : List PyPart) → ps ≡ qs → PartsLower n ps → PartsLower n qs
simple_low n ps qs e h = subst (PartsLower n) e h

pub node_done : (src : List ℕ) (t : ℕ → Tree) (n : ℕ) (at : Id PyNodes) (ps : List PyPart) → ps ≡ [] → StmtSaysOf src t n (part.Node at ∷ ps) simple form.NoStmt
node_done src t n at ps e = rw e (only_node src t n at)

pub node_node : (src : List ℕ) (t : ℕ → Tree) (n : ℕ) (at id : Id PyNodes) (ps qs : List PyPart) → ps ≡ part.Node id ∷ qs → StmtSaysOf src t n (part.Node at ∷ ps) simple form.NoStmt
node_node src t n at id ps qs e = rw e (two_nodes src t n at id qs)

at_low : (n : ℕ) (at : Id PyNodes) (ps : List PyPart) → PartsLower n (part.Node at ∷ ps) → at.place < n
unfolding PartsLower
at_low n at ps h = h.0

pub at_inside : (k n : ℕ) (at : Id PyNodes) (ps : List PyPart) → PartsLower k (part.Node at ∷ ps) → k < n → at.place < n
at_inside k n at ps h l = omega (arith, at_low k at ps h, l)

pub value_made : (src : List ℕ) (t : ℕ → Tree) (n : ℕ) (at : Id PyNodes) (x : Token) (ps qs : List PyPart) → PartsLower n (part.Node at ∷ ps) → ps ≡ part.Token x ∷ qs → qs ≡ [] → StmtSaysOf src t n (part.Node at ∷ ps) simple (form.Value at)
value_made src t n at x ps qs h e f = rw (e, f) (a_value src t n at x (at_low n at ps h))

pub node_token : (src : List ℕ) (t : ℕ → Tree) (n : ℕ) (at : Id PyNodes) (x y : Token) (ps qs rs : List PyPart) → ps ≡ part.Token x ∷ qs → qs ≡ part.Token y ∷ rs → StmtSaysOf src t n (part.Node at ∷ ps) simple form.NoStmt
node_token src t n at x y ps qs rs e f = rw (e, f) (two_tokens src t n at x y rs)

pub bound_there : (src : List ℕ) (t : ℕ → Tree) (n : ℕ) (at value : Id PyNodes) (x : Token) (ps qs rs : List PyPart) (s : Sign) (o : Option Place) (made : StmtForm) → PartsLower n (part.Node at ∷ ps) → ps ≡ part.Token x ∷ qs → qs ≡ part.Node value ∷ rs
    → s ≡ sign_of src x → IsPlaceAt t at.place o → IsBound s o value.place made → StmtSaysOf src t n (part.Node at ∷ ps) simple made
bound_there src t n at value x ps qs rs s o made h e f is there bound =
    let whole : part.Node at ∷ ps ≡ part.Node at ∷ part.Token x ∷ part.Node value ∷ rs = rw (e, f) refl in
    subst (λ zs. StmtSaysOf src t n zs simple made) (sym whole) (bound_made src t n at value x rs s o made (subst (PartsLower n) whole h) is there bound)
