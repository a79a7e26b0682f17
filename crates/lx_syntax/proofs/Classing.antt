-- Classes by their parts.
use Rattle.std.proofs.Common.{ℕ, Bool, true, false, ◌≡◌, ◌<◌, ◌≤◌, ◌++◌, List, [], ◌∷◌, refl, ap, ◌∙◌, sym, subst, arith, map, append-nil, Option, Some, None, if◌then◌else◌, Bor}
use Rattle.lx_token.specs.declared.tokens.Token.{Token}
use Rattle.lx_arena.specs.declared.Id.{Id}
use Rattle.lx_arena.proofs.Places.{each_more}
use Rattle.lx_grammar.specs.declared.grammar.Rule.{Rule}
use Rattle.lx_grammar.specs.declared.grammar.Rule.TheVariants as rule
use Rattle.lx_grammar.specs.Derives.{Tree, Grown, Parts}
use Rattle.lx_grammar.specs.Derives as grown
use Rattle.lx_pytree.specs.declared.tree.PyNode.{PyNode}
use Rattle.lx_pytree.specs.declared.tree.PyNodes.{PyNodes}
use Rattle.lx_pytree.specs.declared.tree.PyPart.{PyPart}
use Rattle.lx_pytree.specs.declared.tree.PyPart.TheVariants as part
use Rattle.lx_pytree.specs.Below.{parts_below}
use Rattle.lx_pytree.specs.Trees.{node_tree, plants}
use Rattle.lx_syntax.specs.declared.classes.Init.{Init}
use Rattle.lx_syntax.specs.declared.classes.Next.{Next}
use Rattle.lx_syntax.specs.declared.classes.Next.TheVariants as next
use Rattle.lx_syntax.specs.declared.forms.ClassForm.{ClassForm}
use Rattle.lx_syntax.specs.declared.forms.Parameter.{Parameter}
use Rattle.lx_syntax.specs.Ast as ast
use Rattle.lx_syntax.specs.Ast.{Class, Param}
use Rattle.lx_syntax.specs.Classes.{base_of, block_of, body_of, class_of, class_with, classes, classes_in, init_of, is_assign, params_in, params_of}
use Rattle.lx_syntax.specs.Classing.{AllLower, AreAmong, AreBody, AreClasses, AreInitParams, AreParams, AreSoFar, IsClassAt, IsFirstInit, IsInit, IsNamed, IsNext, IsParam, IsPut, IsTail, IsWith, MadeLower, NoToken, ParamsRead, SaysInit, classes_among, classes_say, first_tree, made_list, made_says, params_from}
use Rattle.lx_syntax.specs.Convert.{is_name, line_of, names_among, sign_of, stmt, suite, text_of, tokens, expr}
use Rattle.lx_syntax.specs.Forming.{last_in, nodes_in, tokens_in}
use Rattle.lx_syntax.specs.Forms.{Ids, Lower, block_at, bound_at, class_form, class_ids, option_ids, param_at, param_ids}
use Rattle.lx_syntax.specs.Says.{AreLines, PartsLower, exprs_of, stmts_of}
use Rattle.lx_syntax.proofs.Hanging.{parts_lower}
use Rattle.lx_syntax.proofs.Splitting.{nodes_lower, tokens_planted}
use Rattle.lx_syntax.proofs.Trailing.{lower_both}

ids_lower : (k n : ℕ) (ids : Ids) → k ≤ n → Lower k ids → Lower n ids
unfolding Lower
ids_lower k n [] l h = tt
ids_lower k n (id ∷ ids) l h = (omega (arith, h.0), ids_lower k n ids l h.1)

-- ---- parameters

if_true : {A : Type 0} (b : Bool) (x y : A) → b ≡ true → (if b then x else y) ≡ x
if_true true x y h = refl
if_true false x y h = absurd (cc)

if_false : {A : Type 0} (b : Bool) (x y : A) → b ≡ false → (if b then x else y) ≡ y
if_false false x y h = refl
if_false true x y h = absurd (cc)

-- what stands behind a name
name_then : (src : List ℕ) (c x : Token) (ps : Parts) → List Param
name_then src c x (grown.token a (grown.child t ps)) = if is_assign (sign_of src a) then record { name = text_of src x; default = ast.more (expr src t) ast.none } ∷ params_in src ps else record { name = text_of src x; default = ast.none } ∷ params_in src (grown.token a (grown.child t ps))
name_then src c x ps = record { name = text_of src x; default = ast.none } ∷ params_in src ps

name_is : (src : List ℕ) (c x : Token) (ps : Parts) → params_in src (grown.token c (grown.token x ps)) ≡ (if is_name (sign_of src x) then name_then src c x ps else [])
unfolding params_in name_then
name_is src c x grown.end = refl
name_is src c x (grown.child t ps) = refl
name_is src c x (grown.token a grown.end) = refl
name_is src c x (grown.token a (grown.token b ps)) = refl
name_is src c x (grown.token a (grown.child t ps)) = refl

yes_name : (src : List ℕ) (c x : Token) (ps : Parts) → is_name (sign_of src x) ≡ true → params_in src (grown.token c (grown.token x ps)) ≡ name_then src c x ps
yes_name src c x ps h = name_is src c x ps ∙ ap (λ b. if b then name_then src c x ps else []) h

pub no_param : (src : List ℕ) (x : Token) (ps : List PyPart) → is_name (sign_of src x) ≡ false → IsNamed src x ps next.End
no_param src x ps h = λ c t. name_is src c x (plants t ps) ∙ ap (λ b. if b then name_then src c x (plants t ps) else []) h

-- no default stands at the front of parts
abbrev pub IsPlain : List ℕ → List PyPart → Type 0
IsPlain src (part.Token a ∷ part.Node d ∷ ps) = is_assign (sign_of src a) ≡ false
IsPlain src _ = Unit {0}

plain_is : (src : List ℕ) (t : ℕ → Tree) (c x : Token) (ps : List PyPart) → IsPlain src ps → name_then src c x (plants t ps) ≡ param_at src (exprs_of src t) (record { name = x; default = None }) ∷ params_in src (plants t ps)
unfolding plants bound_at name_then
plain_is src t c x [] h = refl
plain_is src t c x (part.Node d ∷ ps) h = refl
plain_is src t c x (part.Token a ∷ []) h = refl
plain_is src t c x (part.Token a ∷ part.Token b ∷ ps) h = refl
plain_is src t c x (part.Token a ∷ part.Node d ∷ ps) h = if_false (is_assign (sign_of src a)) _ _ h

no_ids : (n : ℕ) → Lower n []
unfolding Lower
no_ids n = tt

one_id : (n : ℕ) (id : Id PyNodes) → id.place < n → Lower n (id ∷ [])
unfolding Lower
one_id n id h = (h, tt)

plain_param : (src : List ℕ) (x : Token) (ps : List PyPart) → is_name (sign_of src x) ≡ true → IsPlain src ps → (c : Token) → IsParam src (λ t. params_from src t x ps c) ps (record { name = x; default = None }) ps
plain_param src x ps h p c = record {
  says = λ t. yes_name src c x (plants t ps) h ∙ plain_is src t c x ps p;
  lower = λ n l. no_ids n;
  left = λ n l. l;
}

default_is : (src : List ℕ) (t : ℕ → Tree) (c x a : Token) (d : Id PyNodes) (ps : List PyPart) → is_assign (sign_of src a) ≡ true → name_then src c x (plants t (part.Token a ∷ part.Node d ∷ ps)) ≡ param_at src (exprs_of src t) (record { name = x; default = Some d }) ∷ params_in src (plants t ps)
unfolding plants bound_at name_then
default_is src t c x a d ps h = if_true (is_assign (sign_of src a)) _ _ h

default_low : (n : ℕ) (a : Token) (d : Id PyNodes) (ps : List PyPart) → PartsLower n (part.Token a ∷ part.Node d ∷ ps) → (d.place < n) × PartsLower n ps
unfolding PartsLower
default_low n a d ps h = h

pub default_param : (src : List ℕ) (x a : Token) (d : Id PyNodes) (ps : List PyPart) → is_name (sign_of src x) ≡ true → is_assign (sign_of src a) ≡ true
    → (c : Token) → IsParam src (λ t. params_from src t x (part.Token a ∷ part.Node d ∷ ps) c) (part.Token a ∷ part.Node d ∷ ps) (record { name = x; default = Some d }) ps
default_param src x a d ps h i c = record {
  says = λ t. yes_name src c x (plants t (part.Token a ∷ part.Node d ∷ ps)) h ∙ default_is src t c x a d ps i;
  lower = λ n l. one_id n d (default_low n a d ps l).0;
  left = λ n l. (default_low n a d ps l).1;
}

default_named : (src : List ℕ) (x a : Token) (d : Id PyNodes) (rest : Bor (List PyPart)) → is_name (sign_of src x) ≡ true → is_assign (sign_of src a) ≡ true → IsNamed src x (part.Token a ∷ part.Node d ∷ rest.now) (next.On (record { name = x; default = Some d }) rest)
default_named src x a d rest h i = (λ c. default_param src x a d rest.now h i c, omega arith)

plain_named : (src : List ℕ) (x : Token) (rest : Bor (List PyPart)) → is_name (sign_of src x) ≡ true → IsPlain src rest.now → IsNamed src x rest.now (next.On (record { name = x; default = None }) rest)
plain_named src x rest h p = (λ c. plain_param src x rest.now h p c, omega arith)

pub plain_done : (src : List ℕ) (x : Token) (rest : Bor (List PyPart)) → is_name (sign_of src x) ≡ true → rest.now ≡ [] → IsNamed src x rest.now (next.On (record { name = x; default = None }) rest)
plain_done src x rest h e = plain_named src x rest h (subst (IsPlain src) (sym e) tt)

pub plain_node : (src : List ℕ) (x : Token) (rest : Bor (List PyPart)) (id : Id PyNodes) (qs : List PyPart) → is_name (sign_of src x) ≡ true → rest.now ≡ part.Node id ∷ qs → IsNamed src x rest.now (next.On (record { name = x; default = None }) rest)
plain_node src x rest id qs h e = plain_named src x rest h (subst (IsPlain src) (sym e) tt)

pub plain_one : (src : List ℕ) (x a : Token) (rest : Bor (List PyPart)) (qs : List PyPart) → is_name (sign_of src x) ≡ true → rest.now ≡ part.Token a ∷ qs → qs ≡ [] → IsNamed src x rest.now (next.On (record { name = x; default = None }) rest)
plain_one src x a rest qs h e f = let whole : rest.now ≡ part.Token a ∷ [] = rw (e, f) refl in plain_named src x rest h (subst (IsPlain src) (sym whole) tt)

pub plain_two : (src : List ℕ) (x a b : Token) (rest : Bor (List PyPart)) (qs rs : List PyPart) → is_name (sign_of src x) ≡ true → rest.now ≡ part.Token a ∷ qs → qs ≡ part.Token b ∷ rs → IsNamed src x rest.now (next.On (record { name = x; default = None }) rest)
plain_two src x a b rest qs rs h e f = let whole : rest.now ≡ part.Token a ∷ part.Token b ∷ rs = rw (e, f) refl in plain_named src x rest h (subst (IsPlain src) (sym whole) tt)

pub plain_default : (src : List ℕ) (x a : Token) (d : Id PyNodes) (rest : Bor (List PyPart)) (qs rs : List PyPart) → is_name (sign_of src x) ≡ true → rest.now ≡ part.Token a ∷ qs → qs ≡ part.Node d ∷ rs → is_assign (sign_of src a) ≡ false
    → IsNamed src x rest.now (next.On (record { name = x; default = None }) rest)
plain_default src x a d rest qs rs h e f i = let whole : rest.now ≡ part.Token a ∷ part.Node d ∷ rs = rw (e, f) refl in plain_named src x rest h (subst (IsPlain src) (sym whole) i)

pub default_there : (src : List ℕ) (x a : Token) (d : Id PyNodes) (ps qs : List PyPart) (rest : Bor (List PyPart)) → is_name (sign_of src x) ≡ true → ps ≡ part.Token a ∷ qs → qs ≡ part.Node d ∷ rest.now → is_assign (sign_of src a) ≡ true
    → IsNamed src x ps (next.On (record { name = x; default = Some d }) rest)
default_there src x a d ps qs rest h e f i = rw (e, f) (default_named src x a d rest h i)

behind_low : (n : ℕ) (c x : Token) (ps : List PyPart) → PartsLower n (part.Token c ∷ part.Token x ∷ ps) → PartsLower n ps
unfolding PartsLower
behind_low n c x ps h = h

whole_is : (src : List ℕ) (t : ℕ → Tree) (c x : Token) (ps : List PyPart) → params_in src (plants t (part.Token c ∷ part.Token x ∷ ps)) ≡ params_from src t x ps c
unfolding plants
whole_is src t c x ps = refl

pub next_named : (src : List ℕ) (c x : Token) (ps : List PyPart) (found : Next) → IsNamed src x ps found → IsNext src (part.Token c ∷ part.Token x ∷ ps) found
next_named src c x ps next.End is = λ t. whole_is src t c x ps ∙ is c t
next_named src c x ps (next.On p rest) is = (
  record {
    says = λ t. whole_is src t c x ps ∙ (is.0 c).says t;
    lower = λ n l. (is.0 c).lower n (behind_low n c x ps l);
    left = λ n l. (is.0 c).left n (behind_low n c x ps l);
  },
  omega (arith, is.1),
)

both_option : (n : ℕ) (o : Option (Id PyNodes)) (rest more : Ids) → Lower n (option_ids o rest) → Lower n more → Lower n (option_ids o more)
unfolding Lower
both_option n None rest more h l = l
both_option n (Some id) rest more h l = (h.0, l)

rest_of : (n : ℕ) (o : Option (Id PyNodes)) (rest : Ids) → Lower n (option_ids o rest) → Lower n rest
unfolding Lower
rest_of n None rest h = h
rest_of n (Some id) rest h = h.1

none_first : (src : List ℕ) (t : ℕ → Tree) → params_in src (plants t []) ≡ []
unfolding params_in plants
none_first src t = refl

none_node : (src : List ℕ) (t : ℕ → Tree) (id : Id PyNodes) (ps : List PyPart) → params_in src (plants t (part.Node id ∷ ps)) ≡ []
unfolding params_in plants
none_node src t id ps = refl

none_one : (src : List ℕ) (t : ℕ → Tree) (x : Token) → params_in src (plants t (part.Token x ∷ [])) ≡ []
unfolding params_in plants
none_one src t x = refl

none_open : (src : List ℕ) (t : ℕ → Tree) (x : Token) (id : Id PyNodes) (ps : List PyPart) → params_in src (plants t (part.Token x ∷ part.Node id ∷ ps)) ≡ []
unfolding params_in plants
none_open src t x id ps = refl

pub next_done : (src : List ℕ) (ps : List PyPart) → ps ≡ [] → IsNext src ps next.End
next_done src ps e t = rw e (none_first src t)

pub next_node : (src : List ℕ) (ps qs : List PyPart) (id : Id PyNodes) → ps ≡ part.Node id ∷ qs → IsNext src ps next.End
next_node src ps qs id e t = rw e (none_node src t id qs)

pub next_one : (src : List ℕ) (ps qs : List PyPart) (x : Token) → ps ≡ part.Token x ∷ qs → qs ≡ [] → IsNext src ps next.End
next_one src ps qs x e f t = rw (e, f) (none_one src t x)

pub next_open : (src : List ℕ) (ps qs rs : List PyPart) (x : Token) (id : Id PyNodes) → ps ≡ part.Token x ∷ qs → qs ≡ part.Node id ∷ rs → IsNext src ps next.End
next_open src ps qs rs x id e f t = rw (e, f) (none_open src t x id rs)

pub next_from : (src : List ℕ) (ps qs rs : List PyPart) (c x : Token) (found : Next) → ps ≡ part.Token c ∷ qs → qs ≡ part.Token x ∷ rs → IsNamed src x rs found → IsNext src ps found
next_from src ps qs rs c x found e f is = rw (e, f) (next_named src c x rs found is)

params_ids : (n : ℕ) (ps : List Parameter) (p : Parameter) → Lower n (param_ids ps) → Lower n (option_ids p.default []) → Lower n (param_ids (ps ++ p ∷ []))
unfolding param_ids
params_ids n [] p h l = l
params_ids n (q ∷ ps) p h l = both_option n q.default (param_ids ps) (param_ids (ps ++ p ∷ [])) h (params_ids n ps p (rest_of n q.default (param_ids ps) h) l)

no_params : (n : ℕ) → Lower n (param_ids [])
unfolding param_ids Lower
no_params n = tt

pub params_none : (src : List ℕ) (ps : List PyPart) (params : List Parameter) → params ≡ [] → ParamsRead src ps ps params
params_none src ps params e = record {
  says = λ t. ap (λ qs. map (param_at src (exprs_of src t)) qs ++ params_in src (plants t ps)) e;
  lower = λ n l. subst (λ qs. Lower n (param_ids qs)) (sym e) (no_params n);
  left = λ n l. l;
}

map_more : {A B : Type 0} (f : A → B) (xs : List A) (x : A) (rest : List B) → map f (xs ++ x ∷ []) ++ rest ≡ map f xs ++ (f x ∷ rest)
map_more f [] x rest = refl
map_more f (y ∷ xs) x rest = ap (λ ys. f y ∷ ys) (map_more f xs x rest)

pub params_more : (src : List ℕ) (ps rest left : List PyPart) (params more : List Parameter) (p : Parameter) → ParamsRead src ps rest params → IsParam src (λ t. params_in src (plants t rest)) rest p left → more ≡ params ++ p ∷ [] → ParamsRead src ps left more
params_more src ps rest left params more p read is e = record {
  says = λ t. ap (λ qs. map (param_at src (exprs_of src t)) qs ++ params_in src (plants t left)) e ∙ map_more (param_at src (exprs_of src t)) params p (params_in src (plants t left))
      ∙ ap (λ qs. map (param_at src (exprs_of src t)) params ++ qs) (sym (is.says t)) ∙ read.says t;
  lower = λ n l. subst (λ qs. Lower n (param_ids qs)) (sym e) (params_ids n params p (read.lower n l) (is.lower n (read.left n l)));
  left = λ n l. is.left n (read.left n l);
}

pub params_all : (src : List ℕ) (ps rest : List PyPart) (params : List Parameter) → ParamsRead src ps rest params → ((t : ℕ → Tree) → params_in src (plants t rest) ≡ []) → AreParams src ps params
params_all src ps rest params read none = record {
  says = λ t. sym (append-nil _) ∙ ap (λ qs. map (param_at src (exprs_of src t)) params ++ qs) (sym (none t)) ∙ read.says t;
  lower = read.lower;
}

heads_low : (n : ℕ) (a b c d : Token) (ps : List PyPart) → PartsLower n (part.Token a ∷ part.Token b ∷ part.Token c ∷ part.Token d ∷ ps) → PartsLower n ps
unfolding PartsLower
heads_low n a b c d ps h = h

pub heads_params : (src : List ℕ) (a b c d : Token) (ps : List PyPart) (params : List Parameter) → AreParams src ps params → AreInitParams src (part.Token a ∷ part.Token b ∷ part.Token c ∷ part.Token d ∷ ps) params
unfolding params_of plants
heads_params src a b c d ps params are = record { says = are.says; lower = λ n l. are.lower n (heads_low n a b c d ps l) }

pub tail_done : (ps : List PyPart) → ps ≡ [] → NoToken ps
tail_done ps e = subst NoToken (sym e) tt

pub tail_node : (ps qs : List PyPart) (id : Id PyNodes) → ps ≡ part.Node id ∷ qs → NoToken ps
tail_node ps qs id e = subst NoToken (sym e) tt

pub tail_token : (ps qs : List PyPart) (x : Token) → ps ≡ part.Token x ∷ qs → IsTail ps qs
tail_token ps qs x e = record { first = x; is = e }

no_heads : (src : List ℕ) (ps : List PyPart) (params : List Parameter) → params ≡ [] → ((t : ℕ → Tree) → [] ≡ params_of src (Grown rule.Init (plants t ps))) → AreInitParams src ps params
no_heads src ps params e none = record {
  says = λ t. ap (map (param_at src (exprs_of src t))) e ∙ none t;
  lower = λ n l. subst (λ qs. Lower n (param_ids qs)) (sym e) (no_params n);
}

pub heads_none : (src : List ℕ) (ps : List PyPart) (params : List Parameter) → NoToken ps → params ≡ [] → AreInitParams src ps params
unfolding params_of plants
heads_none src [] params h e = no_heads src [] params e (λ t. refl)
heads_none src (part.Token x ∷ ps) params h e = absurd h
heads_none src (part.Node id ∷ ps) params h e = no_heads src (part.Node id ∷ ps) params e (λ t. refl)

one_head : (src : List ℕ) (x : Token) (ps : List PyPart) (params : List Parameter) → NoToken ps → params ≡ [] → AreInitParams src (part.Token x ∷ ps) params
unfolding params_of plants
one_head src x [] params h e = no_heads src (part.Token x ∷ []) params e (λ t. refl)
one_head src x (part.Token y ∷ ps) params h e = absurd h
one_head src x (part.Node id ∷ ps) params h e = no_heads src (part.Token x ∷ part.Node id ∷ ps) params e (λ t. refl)

two_heads : (src : List ℕ) (x y : Token) (ps : List PyPart) (params : List Parameter) → NoToken ps → params ≡ [] → AreInitParams src (part.Token x ∷ part.Token y ∷ ps) params
unfolding params_of plants
two_heads src x y [] params h e = no_heads src (part.Token x ∷ part.Token y ∷ []) params e (λ t. refl)
two_heads src x y (part.Token z ∷ ps) params h e = absurd h
two_heads src x y (part.Node id ∷ ps) params h e = no_heads src (part.Token x ∷ part.Token y ∷ part.Node id ∷ ps) params e (λ t. refl)

three_heads : (src : List ℕ) (x y z : Token) (ps : List PyPart) (params : List Parameter) → NoToken ps → params ≡ [] → AreInitParams src (part.Token x ∷ part.Token y ∷ part.Token z ∷ ps) params
unfolding params_of plants
three_heads src x y z [] params h e = no_heads src (part.Token x ∷ part.Token y ∷ part.Token z ∷ []) params e (λ t. refl)
three_heads src x y z (part.Token w ∷ ps) params h e = absurd h
three_heads src x y z (part.Node id ∷ ps) params h e = no_heads src (part.Token x ∷ part.Token y ∷ part.Token z ∷ part.Node id ∷ ps) params e (λ t. refl)

pub heads_one : (src : List ℕ) (ps qs : List PyPart) (params : List Parameter) → IsTail ps qs → NoToken qs → params ≡ [] → AreInitParams src ps params
heads_one src ps qs params a h e = rw a.is (one_head src a.first qs params h e)

pub heads_two : (src : List ℕ) (ps qs rs : List PyPart) (params : List Parameter) → IsTail ps qs → IsTail qs rs → NoToken rs → params ≡ [] → AreInitParams src ps params
heads_two src ps qs rs params a b h e = rw (a.is, b.is) (two_heads src a.first b.first rs params h e)

pub heads_three : (src : List ℕ) (ps qs rs us : List PyPart) (params : List Parameter) → IsTail ps qs → IsTail qs rs → IsTail rs us → NoToken us → params ≡ [] → AreInitParams src ps params
heads_three src ps qs rs us params a b c h e = rw (a.is, b.is, c.is) (three_heads src a.first b.first c.first us params h e)

pub heads_all : (src : List ℕ) (ps qs rs us vs : List PyPart) (params : List Parameter) → IsTail ps qs → IsTail qs rs → IsTail rs us → IsTail us vs → AreParams src vs params → AreInitParams src ps params
heads_all src ps qs rs us vs params a b c d are = rw (a.is, b.is, c.is, d.is) (heads_params src a.first b.first c.first d.first vs params are)

-- ---- the block

last_block : (src : List ℕ) (t : ℕ → Tree) → Option (Id PyNodes) → ast.Stmts
last_block src t None = ast.done
last_block src t (Some id) = suite src (t id.place) (stmt src (t id.place))

mutual
  unfolding body_of plants last_in last_block

  -- the block where parts follow a node
  last_is : (src : List ℕ) (t : ℕ → Tree) (id : Id PyNodes) (ps : List PyPart) → body_of src (plants t (part.Node id ∷ ps)) ≡ last_block src t (last_in (Some id) ps)
  last_is src t id [] = refl
  last_is src t id (part.Node j ∷ ps) = last_is src t j ps
  last_is src t id (part.Token x ∷ ps) = block_is src t ps

  block_is : (src : List ℕ) (t : ℕ → Tree) (ps : List PyPart) → body_of src (plants t ps) ≡ last_block src t (last_in None ps)
  block_is src t [] = refl
  block_is src t (part.Token x ∷ ps) = block_is src t ps
  block_is src t (part.Node j ∷ ps) = last_is src t j ps

abbrev OptionLow : ℕ → Option (Id PyNodes) → Type 0
OptionLow n None = Unit {0}
OptionLow n (Some id) = id.place < n

last_low : (n : ℕ) (o : Option (Id PyNodes)) (ps : List PyPart) → OptionLow n o → PartsLower n ps → OptionLow n (last_in o ps)
unfolding last_in PartsLower
last_low n o [] l h = l
last_low n o (part.Token x ∷ ps) l h = last_low n None ps tt h
last_low n o (part.Node id ∷ ps) l h = last_low n (Some id) ps h.0 h.1

pub body_last : (t : ℕ → Tree) (n : ℕ) (ps : List PyPart) (id : Id PyNodes) (ids : Ids) → Some id ≡ last_in None ps → PartsLower n ps → AreLines t id.place ids → AreBody t n ps ids
unfolding suite last_block body_of
body_last t n ps id ids e low are =
    let l : OptionLow n (Some id) = subst (OptionLow n) (sym e) (last_low n None ps tt low) in
    record {
      says = λ src. are.says src ∙ ap (last_block src t) e ∙ sym (block_is src t ps);
      lower = are.lower n l;
    }

nothing_done : (g : ℕ → ast.Stmt) → block_at g [] ≡ ast.done
unfolding block_at
nothing_done g = refl

pub no_body : (t : ℕ → Tree) (n : ℕ) (ps : List PyPart) (ids : Ids) → None ≡ last_in None ps → ids ≡ [] → AreBody t n ps ids
unfolding last_block body_of
no_body t n ps ids e none = record {
  says = λ src. ap (block_at (stmts_of src t)) none ∙ nothing_done (stmts_of src t) ∙ ap (last_block src t) e ∙ sym (block_is src t ps);
  lower = subst (λ xs. Lower n xs) (sym none) (no_ids n);
}

pub last_within : (k n : ℕ) (ps : List PyPart) (id : Id PyNodes) → Some id ≡ last_in None ps → PartsLower k ps → k < n → id.place < n
last_within k n ps id e low l =
    let p : OptionLow k (Some id) = subst (OptionLow k) (sym e) (last_low k None ps tt low) in
    omega (arith, p)

-- ---- `__init__`

block_init : (src : List ℕ) (r : Rule) (ps : Parts) → r ≡ rule.Init → body_of src ps ≡ block_of src (Grown r ps)
unfolding block_of
block_init src rule.Init ps e = refl
block_init src _ ps e = absurd (cc)

block_other : (src : List ℕ) (r : Rule) (ps : Parts) → (r ≡ rule.Init → ⊥) → ast.done ≡ block_of src (Grown r ps)
unfolding block_of
block_other src rule.Init ps h = absurd (h refl)
block_other src _ ps h = refl

params_other : (src : List ℕ) (r : Rule) (ps : Parts) → (r ≡ rule.Init → ⊥) → [] ≡ params_of src (Grown r ps)
unfolding params_of
params_other src rule.Init ps h = absurd (h refl)
params_other src _ ps h = refl

pub init_made : (src : List ℕ) (t : ℕ → Tree) (k line : ℕ) (node : PyNode) (params : List Parameter) (body : Ids) → t k ≡ node_tree t node → parts_below k node.parts ≡ true → line ≡ line_of (t k) → node.rule ≡ rule.Init
    → AreInitParams src node.parts params → AreBody t k node.parts body → IsInit src t k (record { line = line; params = params; body = body })
init_made src t k line node params body e low l r are is =
    let whole : t k ≡ Grown rule.Init (plants t node.parts) = e ∙ ap (λ s. Grown s (plants t node.parts)) r in
    record {
      says = record {
        line = l;
        params = are.says t ∙ sym (ap (params_of src) whole);
        body = is.says src ∙ block_init src node.rule (plants t node.parts) r ∙ sym (ap (block_of src) e);
      };
      params = λ n m. are.lower n (parts_lower k n node.parts (omega arith) low);
      body = λ n m. ids_lower k n body (omega arith) is.lower;
    }

pub init_other : (src : List ℕ) (t : ℕ → Tree) (k line : ℕ) (node : PyNode) (params : List Parameter) (body : Ids) → t k ≡ node_tree t node → line ≡ line_of (t k) → (node.rule ≡ rule.Init → ⊥) → params ≡ [] → body ≡ []
    → IsInit src t k (record { line = line; params = params; body = body })
init_other src t k line node params body e l r p b = record {
  says = record {
    line = l;
    params = ap (map (param_at src (exprs_of src t))) p ∙ params_other src node.rule (plants t node.parts) r ∙ sym (ap (params_of src) e);
    body = ap (block_at (stmts_of src t)) b ∙ nothing_done (stmts_of src t) ∙ block_other src node.rule (plants t node.parts) r ∙ sym (ap (block_of src) e);
  };
  params = λ n m. subst (λ qs. Lower n (param_ids qs)) (sym p) (no_params n);
  body = λ n m. subst (λ xs. Lower n xs) (sym b) (no_ids n);
}

head_low : (n : ℕ) (id : Id PyNodes) (ids : Ids) → Lower n (id ∷ ids) → id.place < n
unfolding Lower
head_low n id ids h = h.0

pub first_inside : (n : ℕ) (id : Id PyNodes) (ids rest : Ids) → Lower n ids → ids ≡ id ∷ rest → id.place < n
first_inside n id ids rest h e = head_low n id rest (subst (λ xs. Lower n xs) e h)

first_is_init : (src : List ℕ) (t : ℕ → Tree) (id : Id PyNodes) (ids : Ids) (init : Init) → IsInit src t id.place init → IsFirstInit src t (id ∷ ids) init
first_is_init src t id ids init is = record { says = is.says; params = λ n h. is.params n (head_low n id ids h); body = λ n h. is.body n (head_low n id ids h) }

pub first_init : (src : List ℕ) (t : ℕ → Tree) (whole : Ids) (id : Id PyNodes) (ids : Ids) (init : Init) → whole ≡ id ∷ ids → IsInit src t id.place init → IsFirstInit src t whole init
first_init src t whole id ids init e is = rw e (first_is_init src t id ids init is)

nothing_says : (src : List ℕ) → ([] ≡ params_of src grown.NoTree) × ((ast.done ≡ block_of src grown.NoTree) × (0 ≡ line_of grown.NoTree))
unfolding params_of block_of line_of
nothing_says src = (refl, (refl, refl))

no_init_is : (src : List ℕ) (t : ℕ → Tree) (line : ℕ) (params : List Parameter) (body : Ids) → line ≡ 0 → params ≡ [] → body ≡ [] → IsFirstInit src t [] (record { line = line; params = params; body = body })
no_init_is src t line params body l p b = record {
  says = record {
    line = l ∙ (nothing_says src).1.1;
    params = ap (map (param_at src (exprs_of src t))) p ∙ (nothing_says src).0;
    body = ap (block_at (stmts_of src t)) b ∙ nothing_done (stmts_of src t) ∙ (nothing_says src).1.0;
  };
  params = λ n h. subst (λ qs. Lower n (param_ids qs)) (sym p) (no_params n);
  body = λ n h. subst (λ xs. Lower n xs) (sym b) (no_ids n);
}

pub no_init : (src : List ℕ) (t : ℕ → Tree) (whole : Ids) (line : ℕ) (params : List Parameter) (body : Ids) → whole ≡ [] → line ≡ 0 → params ≡ [] → body ≡ [] → IsFirstInit src t whole (record { line = line; params = params; body = body })
no_init src t whole line params body e l p b = rw e (no_init_is src t line params body l p b)

-- ---- classes

class_form_is : (line : ℕ) (name : Token) (bases copied : List Token) (init : Init) → copied ≡ bases → (src : List ℕ) (t : ℕ → Tree) (u : Tree) → SaysInit src t u init
    → class_form src (exprs_of src t) (stmts_of src t) (record { line = line; name = name; bases = copied; init_line = init.line; params = init.params; body = init.body })
    ≡ record { line = line; name = text_of src name; bases = map (base_of src) bases; init_line = line_of u; params = params_of src u; body = block_of src u }
class_form_is line name bases copied init e src t u is = rw (e, is.line, is.params, is.body) refl

class_named_is : (line : ℕ) (name : Token) (bases copied : List Token) (init : Init) → copied ≡ bases
    → IsWith line (name ∷ bases) init (Some (record { line = line; name = name; bases = copied; init_line = init.line; params = init.params; body = init.body }))
class_named_is line name bases copied init e = record {
  says = λ src t u is. ap (λ r. r ∷ []) (class_form_is line name bases copied init e src t u is);
  lower = λ n p b. lower_both n (param_ids init.params) init.body p b;
}

nameless_is : (line : ℕ) (init : Init) → IsWith line [] init None
nameless_is line init = record { says = λ src t u is. refl; lower = λ n p b. tt }

pub class_named : (line : ℕ) (names : List Token) (name : Token) (rest copied : List Token) (init : Init) → names ≡ name ∷ rest → copied ≡ rest
    → IsWith line names init (Some (record { line = line; name = name; bases = copied; init_line = init.line; params = init.params; body = init.body }))
class_named line names name rest copied init e c = rw e (class_named_is line name rest copied init c)

pub class_nameless : (line : ℕ) (names : List Token) (init : Init) → names ≡ [] → IsWith line names init None
class_nameless line names init e = rw e (nameless_is line init)

class_is : (src : List ℕ) (r : Rule) (ps : Parts) → r ≡ rule.Class → class_with src (line_of (Grown r ps)) (names_among src (tokens ps)) (init_of ps) ≡ class_of src (Grown r ps)
unfolding class_of
class_is src rule.Class ps e = refl
class_is src _ ps e = absurd (cc)

class_none : (src : List ℕ) (r : Rule) (ps : Parts) → (r ≡ rule.Class → ⊥) → [] ≡ class_of src (Grown r ps)
unfolding class_of
class_none src rule.Class ps h = absurd (h refl)
class_none src _ ps h = refl

first_is : (t : ℕ → Tree) (ps : List PyPart) → first_tree t (nodes_in ps) ≡ init_of (plants t ps)
unfolding nodes_in init_of plants
first_is t [] = refl
first_is t (part.Token x ∷ ps) = first_is t ps
first_is t (part.Node id ∷ ps) = refl

pub class_made : (src : List ℕ) (t : ℕ → Tree) (k line : ℕ) (node : PyNode) (xs names : List Token) (ids : Ids) (init : Init) (made : Option ClassForm) → t k ≡ node_tree t node → parts_below k node.parts ≡ true → node.rule ≡ rule.Class
    → xs ≡ tokens_in node.parts → names ≡ names_among src xs → ids ≡ nodes_in node.parts → line ≡ line_of (t k) → IsFirstInit src t ids init → IsWith line names init made → IsClassAt src t k made
class_made src t k line node xs names ids init made e low r are n is l first with =
    let ps : Parts = plants t node.parts in
    let u : Tree = first_tree t ids in
    record {
      says = with.says src t u first.says
          ∙ ap (λ z. class_with src z names u) (l ∙ ap line_of e)
          ∙ ap (λ z. class_with src (line_of (Grown node.rule ps)) z u) (n ∙ ap (names_among src) (are ∙ tokens_planted t node.parts))
          ∙ ap (class_with src (line_of (Grown node.rule ps)) (names_among src (tokens ps))) (ap (first_tree t) is ∙ first_is t node.parts)
          ∙ class_is src node.rule ps r ∙ sym (ap (class_of src) e);
      lower = λ m h.
          let low_ids : Lower m ids = subst (λ zs. Lower m zs) (sym is) (nodes_lower m node.parts (parts_lower k m node.parts (omega arith) low)) in
          with.lower m (first.params m low_ids) (first.body m low_ids);
    }

pub class_other : (src : List ℕ) (t : ℕ → Tree) (k : ℕ) (node : PyNode) → t k ≡ node_tree t node → (node.rule ≡ rule.Class → ⊥) → IsClassAt src t k None
class_other src t k node e r = record { says = class_none src node.rule (plants t node.parts) r ∙ sym (ap (class_of src) e); lower = λ n h. tt }

pub class_nodes : (k n : ℕ) (ps : List PyPart) (ids : Ids) → ids ≡ nodes_in ps → parts_below k ps ≡ true → k < n → Lower n ids
class_nodes k n ps ids e low l = subst (λ zs. Lower n zs) (sym e) (nodes_lower n ps (parts_lower k n ps (omega arith) low))

pub class_put : (src : List ℕ) (t : ℕ → Tree) (k : ℕ) (c : ClassForm) (old new : List ClassForm) → IsClassAt src t k (Some c) → new ≡ old ++ c ∷ [] → IsPut src t k old new
class_put src t k c old new is e = record { made = Some c; is = is; put = e }

pub class_not_put : (src : List ℕ) (t : ℕ → Tree) (k : ℕ) (old new : List ClassForm) → IsClassAt src t k None → new ≡ old → IsPut src t k old new
class_not_put src t k old new is e = record { made = None; is = is; put = e ∙ sym (append-nil old) }

-- ---- several classes

all_more : (n : ℕ) (cs : List ClassForm) (made : Option ClassForm) → AllLower n cs → MadeLower n made → AllLower n (cs ++ made_list made)
all_more n cs None h l = subst (λ ds. AllLower n ds) (sym (append-nil cs)) h
all_more n cs (Some c) h l = each_more (λ d. Lower n (class_ids d)) cs c h l

say_more : (src : List ℕ) (t : ℕ → Tree) (cs : List ClassForm) (made : Option ClassForm) (rest : List Class) → classes_say src t (cs ++ made_list made) ++ rest ≡ classes_say src t cs ++ (made_says src t made ++ rest)
say_more src t cs None rest = ap (λ ds. classes_say src t ds ++ rest) (append-nil cs)
say_more src t cs (Some c) rest = map_more (class_form src (exprs_of src t) (stmts_of src t)) cs c rest

among_cons : (src : List ℕ) (t : ℕ → Tree) (id : Id PyNodes) (ids : Ids) → classes_among src t (id ∷ ids) ≡ class_of src (t id.place) ++ classes_among src t ids
unfolding classes_among
among_cons src t id ids = refl

none_lower : (n : ℕ) → AllLower n []
none_lower n k c e = absurd (cc)

pub classes_none : (src : List ℕ) (t : ℕ → Tree) (n : ℕ) (ids : Ids) (cs : List ClassForm) → Lower n ids → cs ≡ [] → AreSoFar src t n ids ids cs
classes_none src t n ids cs low e = record {
  says = ap (λ ds. classes_say src t ds ++ classes_among src t ids) e;
  lower = subst (λ ds. AllLower n ds) (sym e) (none_lower n);
  left = low;
}

tail_low : (n : ℕ) (id : Id PyNodes) (ids : Ids) → Lower n (id ∷ ids) → Lower n ids
unfolding Lower
tail_low n id ids h = h.1

pub next_inside : (src : List ℕ) (t : ℕ → Tree) (n : ℕ) (ids whole : Ids) (id : Id PyNodes) (rest : Ids) (cs : List ClassForm) → AreSoFar src t n ids whole cs → whole ≡ id ∷ rest → id.place < n
next_inside src t n ids whole id rest cs far e = head_low n id rest (subst (λ xs. Lower n xs) e far.left)

classes_step : (src : List ℕ) (t : ℕ → Tree) (n : ℕ) (ids : Ids) (id : Id PyNodes) (rest : Ids) (cs ds : List ClassForm) → AreSoFar src t n ids (id ∷ rest) cs → IsPut src t id.place cs ds → AreSoFar src t n ids rest ds
classes_step src t n ids id rest cs ds far put = record {
  says = ap (λ es. classes_say src t es ++ classes_among src t rest) put.put ∙ say_more src t cs put.made (classes_among src t rest)
      ∙ ap (λ es. classes_say src t cs ++ (es ++ classes_among src t rest)) put.is.says ∙ ap (λ es. classes_say src t cs ++ es) (sym (among_cons src t id rest)) ∙ far.says;
  lower = subst (λ es. AllLower n es) (sym put.put) (all_more n cs put.made far.lower (put.is.lower n (head_low n id rest far.left)));
  left = tail_low n id rest far.left;
}

pub classes_more : (src : List ℕ) (t : ℕ → Tree) (n : ℕ) (ids whole : Ids) (id : Id PyNodes) (rest : Ids) (cs ds : List ClassForm) → AreSoFar src t n ids whole cs → whole ≡ id ∷ rest → IsPut src t id.place cs ds → AreSoFar src t n ids rest ds
classes_more src t n ids whole id rest cs ds far e put = classes_step src t n ids id rest cs ds (subst (λ xs. AreSoFar src t n ids xs cs) e far) put

among_none : (src : List ℕ) (t : ℕ → Tree) → classes_among src t [] ≡ []
unfolding classes_among
among_none src t = refl

classes_are_all : (src : List ℕ) (t : ℕ → Tree) (n : ℕ) (ids : Ids) (cs : List ClassForm) → AreSoFar src t n ids [] cs → AreAmong src t n ids cs
classes_are_all src t n ids cs far = record { says = sym (append-nil _) ∙ ap (λ es. classes_say src t cs ++ es) (sym (among_none src t)) ∙ far.says; lower = far.lower }

pub classes_all : (src : List ℕ) (t : ℕ → Tree) (n : ℕ) (ids rest : Ids) (cs : List ClassForm) → AreSoFar src t n ids rest cs → rest ≡ [] → AreAmong src t n ids cs
classes_all src t n ids rest cs far e = classes_are_all src t n ids cs (subst (λ xs. AreSoFar src t n ids xs cs) e far)

among_planted : (src : List ℕ) (t : ℕ → Tree) (ps : List PyPart) → classes_among src t (nodes_in ps) ≡ classes_in src (plants t ps)
unfolding classes_among nodes_in classes_in plants
among_planted src t [] = refl
among_planted src t (part.Token x ∷ ps) = among_planted src t ps
among_planted src t (part.Node id ∷ ps) = ap (λ es. class_of src (t id.place) ++ es) (among_planted src t ps)

file_is : (src : List ℕ) (r : Rule) (ps : Parts) → r ≡ rule.File → classes_in src ps ≡ classes src (Grown r ps)
unfolding classes
file_is src rule.File ps e = refl
file_is src _ ps e = absurd (cc)

file_none : (src : List ℕ) (r : Rule) (ps : Parts) → (r ≡ rule.File → ⊥) → [] ≡ classes src (Grown r ps)
unfolding classes
file_none src rule.File ps h = absurd (h refl)
file_none src _ ps h = refl

pub file_made : (src : List ℕ) (t : ℕ → Tree) (n k : ℕ) (node : PyNode) (ids : Ids) (cs : List ClassForm) → t k ≡ node_tree t node → node.rule ≡ rule.File → ids ≡ nodes_in node.parts → AreAmong src t n ids cs → AreClasses src t n k cs
file_made src t n k node ids cs e r is among = record {
  says = among.says ∙ ap (classes_among src t) is ∙ among_planted src t node.parts ∙ file_is src node.rule (plants t node.parts) r ∙ sym (ap (classes src) e);
  lower = among.lower;
}

pub file_other : (src : List ℕ) (t : ℕ → Tree) (n k : ℕ) (node : PyNode) (cs : List ClassForm) → t k ≡ node_tree t node → (node.rule ≡ rule.File → ⊥) → cs ≡ [] → AreClasses src t n k cs
file_other src t n k node cs e r none = record {
  says = ap (classes_say src t) none ∙ file_none src node.rule (plants t node.parts) r ∙ sym (ap (classes src) e);
  lower = subst (λ ds. AllLower n ds) (sym none) (none_lower n);
}
