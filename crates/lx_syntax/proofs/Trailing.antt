-- Trailers that are read one after the other.
use Rattle.std.proofs.Common.{ℕ, ◌≡◌, ◌<◌, ◌≤◌, ◌++◌, List, [], ◌∷◌, refl, ap, ◌∙◌, sym, subst, arith, Bor}
use Rattle.lx_token.specs.declared.tokens.Token.{Token}
use Rattle.lx_arena.specs.declared.Id.{Id}
use Rattle.lx_grammar.specs.declared.sign.Sign.{Sign}
use Rattle.lx_grammar.specs.declared.sign.Sign.TheVariants as sign
use Rattle.lx_grammar.specs.Derives.{Tree}
use Rattle.lx_pytree.specs.declared.tree.PyNodes.{PyNodes}
use Rattle.lx_pytree.specs.declared.tree.PyPart.{PyPart}
use Rattle.lx_pytree.specs.declared.tree.PyPart.TheVariants as part
use Rattle.lx_pytree.specs.Trees.{plants}
use Rattle.lx_syntax.specs.declared.forms.Argument.{Argument}
use Rattle.lx_syntax.specs.declared.forms.ExprForm.TheVariants as form
use Rattle.lx_syntax.specs.declared.forms.Trailer.{Trailer}
use Rattle.lx_syntax.specs.declared.forms.Trailer.TheVariants as trailer
use Rattle.lx_syntax.specs.declared.trailers.Front.{Front}
use Rattle.lx_syntax.specs.declared.trailers.Front.TheVariants as front
use Rattle.lx_syntax.specs.declared.trailers.Mark.{Mark}
use Rattle.lx_syntax.specs.declared.trailers.Mark.TheVariants as mark
use Rattle.lx_syntax.specs.Ast as ast
use Rattle.lx_syntax.specs.Ast.{Arguments, Trailers}
use Rattle.lx_syntax.specs.Convert.{called_or_indexed, called_or_named, expr, line_of, line_of_parts, post, sign_of, text_of, trailers}
use Rattle.lx_syntax.specs.Forms.{Exprs_at, Ids, Lower, argument_ids, arguments_at, expr_form, expr_ids, trailer_before, trailer_ids, trailers_at, trailers_ids}
use Rattle.lx_syntax.specs.Says.{AreArguments, IsIndex, PartsLower, SaysOf, exprs_of}
use Rattle.lx_syntax.proofs.Standing.{back_lower, front_lower}
use Rattle.lx_syntax.specs.Trails.{AreRead, AreTrailers, IsFront, IsMade, IsOn, IsPut, MarkLower, trailers_onto}

-- ---- signs

named_is : (s : Sign) (name : List ℕ) (rest : Trailers) → (s ≡ sign.OpenRound → ⊥) → ast.attribute name rest ≡ called_or_named s name rest
unfolding called_or_named
named_is sign.OpenRound name rest h = absurd (h refl)
named_is _ name rest h = refl

empty_is : (s : Sign) (name : List ℕ) (rest : Trailers) → s ≡ sign.OpenRound → ast.call ast.no_argument rest ≡ called_or_named s name rest
unfolding called_or_named
empty_is sign.OpenRound name rest h = refl
empty_is _ name rest h = absurd (cc)

called_is : (s : Sign) (args : Arguments) (index : Trailers → Trailers) (rest : Trailers) → s ≡ sign.OpenRound → ast.call args rest ≡ called_or_indexed s args index rest
unfolding called_or_indexed
called_is sign.OpenRound args index rest h = refl
called_is _ args index rest h = absurd (cc)

indexed_is : (s : Sign) (args : Arguments) (index : Trailers → Trailers) (rest : Trailers) → (s ≡ sign.OpenRound → ⊥) → index rest ≡ called_or_indexed s args index rest
unfolding called_or_indexed
indexed_is sign.OpenRound args index rest h = absurd (h refl)
indexed_is _ args index rest h = refl

pub empty_call : (src : List ℕ) (x y : Token) (s : Sign) (t : ℕ → Tree) (args : List Argument) → s ≡ sign_of src x → s ≡ sign.OpenRound → args ≡ [] → IsMade src t (mark.Pair x y) (trailer.Call args)
unfolding arguments_at argument_ids Lower
empty_call src x y s t args e is none = record {
  says = λ rest. rw none (empty_is (sign_of src x) (text_of src y) rest (sym e ∙ is));
  lower = λ n h. rw none tt;
}

pub named : (src : List ℕ) (x y : Token) (s : Sign) (t : ℕ → Tree) → s ≡ sign_of src x → (s ≡ sign.OpenRound → ⊥) → IsMade src t (mark.Pair x y) (trailer.Attribute y)
unfolding Lower
named src x y s t e other = record {
  says = λ rest. named_is (sign_of src x) (text_of src y) rest (λ is. other (e ∙ is));
  lower = λ n h. tt;
}

pub called : (src : List ℕ) (x : Token) (s : Sign) (t : ℕ → Tree) (id : Id PyNodes) (args : List Argument) → s ≡ sign_of src x → s ≡ sign.OpenRound → AreArguments t id.place args → IsMade src t (mark.Bracket x id) (trailer.Call args)
called src x s t id args e is are = record {
  says = λ rest. ap (λ a. ast.call a rest) (are.says src) ∙ called_is (sign_of src x) _ _ rest (sym e ∙ is);
  lower = λ n h. are.lower n h;
}

pub indexed : (src : List ℕ) (x : Token) (s : Sign) (t : ℕ → Tree) (id : Id PyNodes) (made : Trailer) → s ≡ sign_of src x → (s ≡ sign.OpenRound → ⊥) → IsIndex t id.place made → IsMade src t (mark.Bracket x id) made
indexed src x s t id made e other is = record {
  says = λ rest. is.says src rest ∙ indexed_is (sign_of src x) _ _ rest (λ i. other (e ∙ i));
  lower = λ n h. is.lower n h;
}

-- ---- at the front of parts

pub front_same : (ps qs : List PyPart) (f : Front) → ps ≡ qs → IsFront qs f → IsFront ps f
front_same ps qs f e is = rw e is

end_nothing : (src : List ℕ) (t : ℕ → Tree) → trailers src (plants t []) ≡ ast.no_trailer
unfolding trailers plants
end_nothing src t = refl

end_node : (src : List ℕ) (t : ℕ → Tree) (id : Id PyNodes) (ps : List PyPart) → trailers src (plants t (part.Node id ∷ ps)) ≡ ast.no_trailer
unfolding trailers plants
end_node src t id ps = refl

end_token : (src : List ℕ) (t : ℕ → Tree) (x : Token) → trailers src (plants t (part.Token x ∷ [])) ≡ ast.no_trailer
unfolding trailers plants
end_token src t x = refl

end_open : (src : List ℕ) (t : ℕ → Tree) (x : Token) (id : Id PyNodes) → trailers src (plants t (part.Token x ∷ part.Node id ∷ [])) ≡ ast.no_trailer
unfolding trailers plants
end_open src t x id = refl

end_two : (src : List ℕ) (t : ℕ → Tree) (x : Token) (id j : Id PyNodes) (ps : List PyPart) → trailers src (plants t (part.Token x ∷ part.Node id ∷ part.Node j ∷ ps)) ≡ ast.no_trailer
unfolding trailers plants
end_two src t x id j ps = refl

on_pair : (x y : Token) (rest : List PyPart) → IsOn (part.Token x ∷ part.Token y ∷ rest) (mark.Pair x y) rest
unfolding trailers plants PartsLower
on_pair x y rest = record { says = λ src t. refl; lower = λ n h. tt; left = λ n h. h; shorter = omega arith }

on_bracket : (x y : Token) (id : Id PyNodes) (rest : List PyPart) → IsOn (part.Token x ∷ part.Node id ∷ part.Token y ∷ rest) (mark.Bracket x id) rest
unfolding trailers plants PartsLower
on_bracket x y id rest = record { says = λ src t. refl; lower = λ n h. h.0; left = λ n h. h.1; shorter = omega arith }

pub front_done : (ps : List PyPart) → ps ≡ [] → IsFront ps front.End
front_done ps e src t = rw e (end_nothing src t)

pub front_node : (ps : List PyPart) (id : Id PyNodes) (qs : List PyPart) → ps ≡ part.Node id ∷ qs → IsFront ps front.End
front_node ps id qs e src t = rw e (end_node src t id qs)

pub behind_done : (x : Token) (ps : List PyPart) → ps ≡ [] → IsFront (part.Token x ∷ ps) front.End
behind_done x ps e src t = rw e (end_token src t x)

pub behind_token : (x y : Token) (ps : List PyPart) (rest : Bor (List PyPart)) → ps ≡ part.Token y ∷ rest.now → IsFront (part.Token x ∷ ps) (front.On (mark.Pair x y) rest)
behind_token x y ps rest e = rw e (on_pair x y rest.now)

pub behind_node : (x : Token) (id : Id PyNodes) (ps qs : List PyPart) (f : Front) → ps ≡ part.Node id ∷ qs → IsFront (part.Token x ∷ part.Node id ∷ qs) f → IsFront (part.Token x ∷ ps) f
behind_node x id ps qs f e is = rw e is

pub in_done : (x : Token) (id : Id PyNodes) (ps : List PyPart) → ps ≡ [] → IsFront (part.Token x ∷ part.Node id ∷ ps) front.End
in_done x id ps e src t = rw e (end_open src t x id)

pub in_node : (x : Token) (id j : Id PyNodes) (ps qs : List PyPart) → ps ≡ part.Node j ∷ qs → IsFront (part.Token x ∷ part.Node id ∷ ps) front.End
in_node x id j ps qs e src t = rw e (end_two src t x id j qs)

pub in_token : (x y : Token) (id : Id PyNodes) (ps : List PyPart) (rest : Bor (List PyPart)) → ps ≡ part.Token y ∷ rest.now → IsFront (part.Token x ∷ part.Node id ∷ ps) (front.On (mark.Bracket x id) rest)
in_token x y id ps rest e = rw e (on_bracket x y id rest.now)

-- ---- one after the other

pub lower_both : (n : ℕ) (ids more : Ids) → Lower n ids → Lower n more → Lower n (ids ++ more)
unfolding Lower
lower_both n [] more h m = m
lower_both n (id ∷ ids) more h m = (h.0, lower_both n ids more h.1 m)

onto_more : (src : List ℕ) (f : Exprs_at) (xs : List Trailer) (x : Trailer) (rest : Trailers) → trailers_onto src f (xs ++ x ∷ []) rest ≡ trailers_onto src f xs (trailer_before src f x rest)
unfolding trailers_onto
onto_more src f [] x rest = refl
onto_more src f (y ∷ xs) x rest = ap (trailer_before src f y) (onto_more src f xs x rest)

onto_none : (src : List ℕ) (f : Exprs_at) (xs : List Trailer) → trailers_onto src f xs ast.no_trailer ≡ trailers_at src f xs
unfolding trailers_onto trailers_at
onto_none src f [] = refl
onto_none src f (x ∷ xs) = ap (trailer_before src f x) (onto_none src f xs)

ids_more : (n : ℕ) (xs : List Trailer) (x : Trailer) → Lower n (trailers_ids xs) → Lower n (trailer_ids x) → Lower n (trailers_ids (xs ++ x ∷ []))
unfolding trailers_ids Lower
ids_more n [] x h l = lower_both n (trailer_ids x) [] l tt
ids_more n (y ∷ xs) x h l = lower_both n (trailer_ids y) (trailers_ids (xs ++ x ∷ [])) (front_lower n (trailer_ids y) (trailers_ids xs) h) (ids_more n xs x (back_lower n (trailer_ids y) (trailers_ids xs) h) l)

pub read_none : (src : List ℕ) (t : ℕ → Tree) (n : ℕ) (ps : List PyPart) (xs : List Trailer) → PartsLower n ps → xs ≡ [] → AreRead src t n ps ps xs
unfolding trailers_onto trailers_ids Lower
read_none src t n ps xs h e = record { says = rw e refl; lower = rw e tt; left = h }

pub read_more : (src : List ℕ) (t : ℕ → Tree) (n : ℕ) (ps rest left : List PyPart) (xs ys : List Trailer) (by_ : Mark) → AreRead src t n ps rest xs → IsOn rest by_ left → IsPut src t by_ xs ys → AreRead src t n ps left ys
read_more src t n ps rest left xs ys by_ read on put =
    let x : Trailer = put.trailer in
    let here : trailers_onto src (exprs_of src t) (xs ++ x ∷ []) (trailers src (plants t left)) ≡ trailers src (plants t ps) =
    onto_more src (exprs_of src t) xs x (trailers src (plants t left)) ∙ ap (trailers_onto src (exprs_of src t) xs) (put.made.says (trailers src (plants t left)) ∙ sym (on.says src t)) ∙ read.says in
    record {
      says = ap (λ zs. trailers_onto src (exprs_of src t) zs (trailers src (plants t left))) put.put ∙ here;
      lower = subst (λ zs. Lower n (trailers_ids zs)) (sym put.put) (ids_more n xs x read.lower (put.made.lower n (on.lower n read.left)));
      left = on.left n read.left;
    }

pub read_all : (src : List ℕ) (t : ℕ → Tree) (n : ℕ) (ps rest : List PyPart) (xs : List Trailer) → AreRead src t n ps rest xs → ((s : List ℕ) (u : ℕ → Tree) → trailers s (plants u rest) ≡ ast.no_trailer) → AreTrailers src t n ps xs
read_all src t n ps rest xs read done = record {
  says = sym (onto_none src (exprs_of src t) xs) ∙ ap (trailers_onto src (exprs_of src t) xs) (sym (done src t)) ∙ read.says;
  lower = read.lower;
}

mark_lower : (k n : ℕ) (by_ : Mark) → k ≤ n → MarkLower k by_ → MarkLower n by_
mark_lower k n (mark.Pair x y) l h = tt
mark_lower k n (mark.Bracket x id) l h = omega (arith, h)

pub marks_within : (src : List ℕ) (t : ℕ → Tree) (k n : ℕ) (ps rest left : List PyPart) (xs : List Trailer) (by_ : Mark) → AreRead src t k ps rest xs → IsOn rest by_ left → k < n → MarkLower n by_
marks_within src t k n ps rest left xs by_ read on l = mark_lower k n by_ (omega (arith, l)) (on.lower k read.left)

post_is : (src : List ℕ) (t : ℕ → Tree) (n : ℕ) (of : Id PyNodes) (rest : List PyPart) (xs : List Trailer) → PartsLower n (part.Node of ∷ rest) → AreTrailers src t n rest xs → SaysOf src t n (part.Node of ∷ rest) post (form.Post of xs)
unfolding post expr_form expr_ids Lower plants PartsLower line_of_parts
post_is src t n of rest xs low are = record {
  says = ap (ast.Post (line_of (t of.place)) (expr src (t of.place))) are.says;
  lower = (low.0, are.lower);
}

pub post_made : (src : List ℕ) (t : ℕ → Tree) (n : ℕ) (ps : List PyPart) (of : Id PyNodes) (rest : List PyPart) (xs : List Trailer) → ps ≡ part.Node of ∷ rest → PartsLower n ps → AreTrailers src t n rest xs → SaysOf src t n ps post (form.Post of xs)
post_made src t n ps of rest xs e low are = subst (λ qs. SaysOf src t n qs post (form.Post of xs)) (sym e) (post_is src t n of rest xs (subst (PartsLower n) e low) are)

none_post : (src : List ℕ) (t : ℕ → Tree) (n : ℕ) → SaysOf src t n [] post form.Misshapen
unfolding post expr_form expr_ids Lower plants
none_post src t n = record { says = refl; lower = tt }

token_post : (src : List ℕ) (t : ℕ → Tree) (n : ℕ) (x : Token) (ps : List PyPart) → SaysOf src t n (part.Token x ∷ ps) post form.Misshapen
unfolding post expr_form expr_ids Lower plants
token_post src t n x ps = record { says = refl; lower = tt }

pub post_done : (src : List ℕ) (t : ℕ → Tree) (n : ℕ) (ps : List PyPart) → ps ≡ [] → SaysOf src t n ps post form.Misshapen
post_done src t n ps e = rw e (none_post src t n)

pub post_token : (src : List ℕ) (t : ℕ → Tree) (n : ℕ) (ps qs : List PyPart) (x : Token) → ps ≡ part.Token x ∷ qs → SaysOf src t n ps post form.Misshapen
post_token src t n ps qs x e = rw e (token_post src t n x qs)

behind_node_low : (n : ℕ) (of : Id PyNodes) (rest : List PyPart) → PartsLower n (part.Node of ∷ rest) → PartsLower n rest
unfolding PartsLower
behind_node_low n of rest h = h.1

pub post_low : (n : ℕ) (ps : List PyPart) (of : Id PyNodes) (rest : List PyPart) → ps ≡ part.Node of ∷ rest → PartsLower n ps → PartsLower n rest
post_low n ps of rest e low = behind_node_low n of rest (subst (PartsLower n) e low)
