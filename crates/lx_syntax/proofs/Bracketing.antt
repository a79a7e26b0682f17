-- Conditionals, and what stands between brackets.
use Rattle.std.proofs.Common.{ℕ, ◌≡◌, ◌<◌, ◌≤◌, ◌++◌, List, [], ◌∷◌, refl, ap, ◌∙◌, sym, subst, arith, map, length, append_assoc, append-nil, Some, None}
use Rattle.lx_token.specs.declared.tokens.Token.{Token}
use Rattle.lx_arena.specs.declared.Id.{Id}
use Rattle.lx_grammar.specs.declared.sign.Sign.{Sign}
use Rattle.lx_grammar.specs.declared.sign.Sign.TheVariants as sign
use Rattle.lx_grammar.specs.Derives.{Tree}
use Rattle.lx_pytree.specs.declared.tree.PyNodes.{PyNodes}
use Rattle.lx_pytree.specs.declared.tree.PyPart.{PyPart}
use Rattle.lx_pytree.specs.Trees.{plants}
use Rattle.lx_syntax.specs.declared.forms.Branching.{Branching}
use Rattle.lx_syntax.specs.declared.forms.Couple.{Couple}
use Rattle.lx_syntax.specs.declared.forms.ExprForm.{ExprForm}
use Rattle.lx_syntax.specs.declared.forms.ExprForm.TheVariants as form
use Rattle.lx_syntax.specs.Ast as ast
use Rattle.lx_syntax.specs.Ast.{Expr, Exprs}
use Rattle.lx_syntax.specs.Brackets.{IsBare, IsSourced, bracketed, comprehended, paired, spelled_out}
use Rattle.lx_syntax.specs.Convert.{choice, chosen, comprehension, expr, exprs, grouped, line_of, line_of_parts, lines, names_of, pairs_of, sign_of, spelled, text_of}
use Rattle.lx_syntax.specs.Forming.{branchings_of, couples_of, nodes_in}
use Rattle.lx_syntax.specs.Brackets.{AreBranchings}
use Rattle.lx_syntax.specs.Forms.{Exprs_at, Ids, Lower, bound_at, branching_ids, couple_ids, expr_form, expr_ids, items_at, pairs_at}
use Rattle.lx_syntax.specs.Says.{AreItems, IsExpr, PartsLower, SaysOf, exprs_of}
use Rattle.lx_syntax.proofs.Flats.{branchings_lower, choices_is, couples_lower, lines_planted, pairs_is}
use Rattle.lx_syntax.proofs.Splitting.{nodes_lower, nodes_planted}

-- ---- conditionals

pub branchings_begin : (g : ℕ → ℕ) (n line : ℕ) (ids : Ids) (made : List Branching) → Lower n ids → made ≡ [] → AreBranchings g n line ids line ids made
branchings_begin g n line ids made low e = record { says = ap (λ xs. xs ++ branchings_of g line ids) e; left = low }

branchings_step : (g : ℕ → ℕ) (made : List Branching) (line : ℕ) (a b : Id PyNodes) (ids : Ids) → (made ++ record { line = line; condition = a; value = b } ∷ []) ++ branchings_of g (g b.place) ids ≡ made ++ branchings_of g line (a ∷ b ∷ ids)
unfolding branchings_of
branchings_step g made line a b ids = append_assoc made (record { line = line; condition = a; value = b } ∷ []) (branchings_of g (g b.place) ids)

two_lower : (n : ℕ) (a b : Id PyNodes) (ids : Ids) → Lower n (a ∷ b ∷ ids) → (b.place < n) × Lower n ids
unfolding Lower
two_lower n a b ids h = h.1

pub value_inside : (g : ℕ → ℕ) (n begin : ℕ) (whole : Ids) (line : ℕ) (rest : Ids) (a b : Id PyNodes) (ids : Ids) (made : List Branching) → AreBranchings g n begin whole line rest made → rest ≡ a ∷ b ∷ ids → b.place < n
value_inside g n begin whole line rest a b ids made are e = (two_lower n a b ids (subst (λ xs. Lower n xs) e are.left)).0

pub branchings_more : (g : ℕ → ℕ) (n begin : ℕ) (whole : Ids) (line next : ℕ) (rest : Ids) (a b : Id PyNodes) (ids : Ids) (made more : List Branching) → AreBranchings g n begin whole line rest made → rest ≡ a ∷ b ∷ ids
    → more ≡ made ++ record { line = line; condition = a; value = b } ∷ [] → next ≡ g b.place → AreBranchings g n begin whole next ids more
branchings_more g n begin whole line next rest a b ids made more are r e l = record {
  says = ap (λ xs. xs ++ branchings_of g next ids) e ∙ ap (λ k. (made ++ record { line = line; condition = a; value = b } ∷ []) ++ branchings_of g k ids) l ∙ branchings_step g made line a b ids ∙ ap (λ xs. made ++ branchings_of g line xs) (sym r) ∙ are.says;
  left = (two_lower n a b ids (subst (λ xs. Lower n xs) r are.left)).1;
}

none_left : (g : ℕ → ℕ) (line : ℕ) (rest : Ids) → length rest < 2 → branchings_of g line rest ≡ []
unfolding branchings_of
none_left g line [] h = refl
none_left g line (a ∷ []) h = refl
none_left g line (a ∷ b ∷ rest) h = absurd (omega (arith, h))

pub branchings_all : (g : ℕ → ℕ) (n begin : ℕ) (whole : Ids) (line : ℕ) (rest : Ids) (made : List Branching) → AreBranchings g n begin whole line rest made → length rest < 2 → made ≡ branchings_of g begin whole
branchings_all g n begin whole line rest made are short = sym (append-nil made) ∙ ap (λ xs. made ++ xs) (sym (none_left g line rest short)) ∙ are.says

chosen_is : (src : List ℕ) (t : ℕ → Tree) (line : ℕ) (ps : List PyPart) → line ≡ line_of_parts (plants t ps) → choice line (map (λ id. line_of (t id.place)) (nodes_in ps)) (items_at (exprs_of src t) (nodes_in ps)) ≡ chosen src (plants t ps)
unfolding chosen
chosen_is src t line ps e = ap (λ ls. choice line ls (items_at (exprs_of src t) (nodes_in ps))) (lines_planted t ps) ∙ ap (choice line (lines (plants t ps))) (nodes_planted src t ps) ∙ ap (λ l. choice l (lines (plants t ps)) (exprs src (plants t ps))) e

choice_some : (f : Exprs_at) (g : ℕ → ℕ) (src : List ℕ) (line : ℕ) (value : Id PyNodes) (ids : Ids) → expr_form src f line (form.Choice value (branchings_of g line ids)) ≡ choice line (map (λ id. g id.place) (value ∷ ids)) (items_at f (value ∷ ids))
unfolding choice expr_form items_at
choice_some f g src line value ids = ap (ast.Choice line (f value.place)) (choices_is f g line ids)

choice_empty : (f : Exprs_at) (g : ℕ → ℕ) (src : List ℕ) (line : ℕ) → expr_form src f line form.Misshapen ≡ choice line (map (λ (id : Id PyNodes). g id.place) []) (items_at f [])
unfolding choice expr_form items_at
choice_empty f g src line = refl

choice_lower : (n : ℕ) (value : Id PyNodes) (cs : List Branching) → value.place < n → Lower n (branching_ids cs) → Lower n (expr_ids (form.Choice value cs))
unfolding expr_ids Lower
choice_lower n value cs h l = (h, l)

first_lower : (n : ℕ) (id : Id PyNodes) (ids : Ids) → Lower n (id ∷ ids) → (id.place < n) × Lower n ids
unfolding Lower
first_lower n id ids h = h

bare_lower : (n : ℕ) → Lower n (expr_ids form.Misshapen)
unfolding expr_ids Lower
bare_lower n = tt

more_lower : (k n : ℕ) (ids : Ids) → k ≤ n → Lower k ids → Lower n ids
unfolding Lower
more_lower k n [] l h = tt
more_lower k n (id ∷ ids) l h = (omega (arith, h.0), more_lower k n ids l h.1)

pub nodes_inside : (k n : ℕ) (ps : List PyPart) (ids : Ids) → ids ≡ nodes_in ps → PartsLower k ps → k ≤ n → Lower n ids
nodes_inside k n ps ids e low l = subst (λ xs. Lower n xs) (sym e) (more_lower k n (nodes_in ps) l (nodes_lower k ps low))

rest_low : (n : ℕ) (value : Id PyNodes) (rest : Ids) → Lower n (value ∷ rest) → Lower n rest
unfolding Lower
rest_low n value rest h = h.1

pub value_rest : (k n : ℕ) (ps : List PyPart) (value : Id PyNodes) (ids rest : Ids) → ids ≡ nodes_in ps → ids ≡ value ∷ rest → PartsLower k ps → k ≤ n → Lower n rest
value_rest k n ps value ids rest is e low l = rest_low n value rest (subst (λ xs. Lower n xs) e (nodes_inside k n ps ids is low l))

choice_made_of : (t : ℕ → Tree) (n line : ℕ) (ps : List PyPart) (value : Id PyNodes) (ids : Ids) (cs : List Branching) → value ∷ ids ≡ nodes_in ps → PartsLower n ps → line ≡ line_of_parts (plants t ps)
    → cs ≡ branchings_of (λ k. line_of (t k)) line ids → (src : List ℕ) → SaysOf src t n ps chosen (form.Choice value cs)
choice_made_of t n line ps value ids cs is low e made src =
    let low_ids = first_lower n value ids (subst (λ xs. Lower n xs) (sym is) (nodes_lower n ps low)) in
    let g : ℕ → ℕ = λ k. line_of (t k) in
    record {
      says = ap (λ l. expr_form src (exprs_of src t) l (form.Choice value cs)) (sym e) ∙ ap (λ xs. expr_form src (exprs_of src t) line (form.Choice value xs)) made ∙ choice_some (exprs_of src t) g src line value ids
          ∙ ap (λ xs. choice line (map (λ id. g id.place) xs) (items_at (exprs_of src t) xs)) is ∙ chosen_is src t line ps e;
      lower = choice_lower n value cs low_ids.0 (subst (λ xs. Lower n (branching_ids xs)) (sym made) (branchings_lower n g line ids low_ids.1));
    }

pub choice_made : (t : ℕ → Tree) (n line : ℕ) (ps : List PyPart) (value : Id PyNodes) (ids rest : Ids) (cs : List Branching) → ids ≡ nodes_in ps → ids ≡ value ∷ rest → PartsLower n ps → line ≡ line_of_parts (plants t ps)
    → cs ≡ branchings_of (λ k. line_of (t k)) line rest → (src : List ℕ) → SaysOf src t n ps chosen (form.Choice value cs)
choice_made t n line ps value ids rest cs is e low l made src = choice_made_of t n line ps value rest cs (sym e ∙ is) low l made src

no_choice_of : (t : ℕ → Tree) (n : ℕ) (ps : List PyPart) → [] ≡ nodes_in ps → (src : List ℕ) → SaysOf src t n ps chosen form.Misshapen
no_choice_of t n ps is src =
    let g : ℕ → ℕ = λ k. line_of (t k) in
    let line : ℕ = line_of_parts (plants t ps) in
    record {
      says = choice_empty (exprs_of src t) g src line ∙ ap (λ xs. choice line (map (λ id. g id.place) xs) (items_at (exprs_of src t) xs)) is ∙ chosen_is src t line ps refl;
      lower = bare_lower n;
    }

pub no_choice : (t : ℕ → Tree) (n : ℕ) (ps : List PyPart) (ids : Ids) → ids ≡ nodes_in ps → ids ≡ [] → (src : List ℕ) → SaysOf src t n ps chosen form.Misshapen
no_choice t n ps ids is e src = no_choice_of t n ps (sym e ∙ is) src

-- ---- brackets

grouped_same : (s : Sign) (line : ℕ) (e : Expr) (es : Exprs) → s ≡ sign.OpenRound → e ≡ grouped s line e es
unfolding grouped
grouped_same sign.OpenRound line e es h = refl
grouped_same _ line e es h = absurd (cc)

grouped_items : (s : Sign) (line : ℕ) (e : Expr) (es : Exprs) → s ≡ sign.OpenSquare → ast.Listed line es ≡ grouped s line e es
unfolding grouped
grouped_items sign.OpenSquare line e es h = refl
grouped_items _ line e es h = absurd (cc)

grouped_none : (s : Sign) (line : ℕ) (e : Expr) (es : Exprs) → (s ≡ sign.OpenRound → ⊥) → (s ≡ sign.OpenSquare → ⊥) → ast.Misshapen ≡ grouped s line e es
unfolding grouped
grouped_none sign.OpenRound line e es h i = absurd (h refl)
grouped_none sign.OpenSquare line e es h i = absurd (i refl)
grouped_none _ line e es h i = refl

pub group_same : (src : List ℕ) (t : ℕ → Tree) (n : ℕ) (x : Token) (s : Sign) (id : Id PyNodes) → s ≡ sign_of src x → s ≡ sign.OpenRound → id.place < n → IsExpr src t n x.line (bracketed src t x id.place) (form.Same id)
unfolding expr_form expr_ids Lower
group_same src t n x s id e is l = record {
  says = grouped_same (sign_of src x) x.line (expr src (t id.place)) _ (sym e ∙ is);
  lower = (l, tt);
}

pub group_list : (src : List ℕ) (t : ℕ → Tree) (n : ℕ) (x : Token) (s : Sign) (id : Id PyNodes) (ids : Ids) → s ≡ sign_of src x → s ≡ sign.OpenSquare → id.place < n → AreItems t id.place ids → IsExpr src t n x.line (bracketed src t x id.place) (form.Listed ids)
unfolding expr_form expr_ids
group_list src t n x s id ids e is l are = record {
  says = ap (ast.Listed x.line) (are.says src) ∙ grouped_items (sign_of src x) x.line (expr src (t id.place)) _ (sym e ∙ is);
  lower = are.lower n l;
}

pub group_other : (src : List ℕ) (t : ℕ → Tree) (n : ℕ) (x : Token) (s : Sign) (id : Id PyNodes) → s ≡ sign_of src x → (s ≡ sign.OpenRound → ⊥) → (s ≡ sign.OpenSquare → ⊥) → IsExpr src t n x.line (bracketed src t x id.place) form.Misshapen
unfolding expr_form expr_ids Lower
group_other src t n x s id e h i = record {
  says = grouped_none (sign_of src x) x.line (expr src (t id.place)) _ (λ is. h (e ∙ is)) (λ is. i (e ∙ is));
  lower = tt;
}

-- ---- comprehensions and pairs

spelled_list : (s : Sign) (a b : Expr) → s ≡ sign.OpenSquare → a ≡ spelled s a b
unfolding spelled
spelled_list sign.OpenSquare a b h = refl
spelled_list _ a b h = absurd (cc)

spelled_pairs : (s : Sign) (a b : Expr) → s ≡ sign.OpenCurly → b ≡ spelled s a b
unfolding spelled
spelled_pairs sign.OpenCurly a b h = refl
spelled_pairs _ a b h = absurd (cc)

spelled_none : (s : Sign) (a b : Expr) → (s ≡ sign.OpenSquare → ⊥) → (s ≡ sign.OpenCurly → ⊥) → ast.Misshapen ≡ spelled s a b
unfolding spelled
spelled_none sign.OpenSquare a b h i = absurd (h refl)
spelled_none sign.OpenCurly a b h i = absurd (i refl)
spelled_none _ a b h i = refl

pub many_sources : (item : ℕ) (names : List Token) (a b c : Id PyNodes) (ids : Ids) → IsSourced item names (a ∷ b ∷ c ∷ ids) form.Misshapen
unfolding comprehension expr_form expr_ids items_at Lower
many_sources item names a b c ids = record { says = λ src f line. refl; lower = λ n l h. tt }

pub no_source : (item : ℕ) (names : List Token) (ids : Ids) → ids ≡ [] → IsSourced item names ids form.Misshapen
unfolding comprehension expr_form expr_ids items_at Lower
no_source item names ids e = rw e (record { says = λ src f line. refl; lower = λ n l h. tt })

pub one_source : (item : Id PyNodes) (names : List Token) (ids : Ids) (a : Id PyNodes) → ids ≡ a ∷ [] → IsSourced item.place names ids (form.Comprehension item names a None)
unfolding comprehension expr_form expr_ids items_at bound_at Lower
one_source item names ids a e = rw e (record { says = λ src f line. refl; lower = λ n l h. (l, (h.0, tt)) })

pub two_sources : (item : Id PyNodes) (names : List Token) (ids : Ids) (a b : Id PyNodes) → ids ≡ a ∷ b ∷ [] → IsSourced item.place names ids (form.Comprehension item names a (Some b))
unfolding comprehension expr_form expr_ids items_at bound_at Lower
two_sources item names ids a b e = rw e (record { says = λ src f line. refl; lower = λ n l h. (l, (h.0, (h.1.0, tt))) })

pub too_many_sources : (item : ℕ) (names : List Token) (ids : Ids) → 3 ≤ length ids → IsSourced item names ids form.Misshapen
too_many_sources item names [] h = absurd (omega (arith, h))
too_many_sources item names (a ∷ []) h = absurd (omega (arith, h))
too_many_sources item names (a ∷ b ∷ []) h = absurd (omega (arith, h))
too_many_sources item names (a ∷ b ∷ c ∷ ids) h = many_sources item names a b c ids

pub comprehension_made : (src : List ℕ) (t : ℕ → Tree) (n line item names : ℕ) (ps : List PyPart) (xs : List Token) (ids : Ids) (made : ExprForm) → xs ≡ names_of src (t names) → ids ≡ nodes_in ps → item < n → PartsLower n ps
    → IsSourced item xs ids made → IsExpr src t n line (comprehended src t item names ps line) made
comprehension_made src t n line item names ps xs ids made e is l low sourced = record {
  says = sourced.says src (exprs_of src t) line ∙ ap (λ ys. comprehension line (expr src (t item)) (map (text_of src) ys) (items_at (exprs_of src t) ids)) e
      ∙ ap (comprehension line (expr src (t item)) (map (text_of src) (names_of src (t names)))) (ap (items_at (exprs_of src t)) is ∙ nodes_planted src t ps);
  lower = sourced.lower n l (subst (λ ys. Lower n ys) (sym is) (nodes_lower n ps low));
}

pairs_more : (src : List ℕ) (t : ℕ → Tree) (key value : Id PyNodes) (ps : List PyPart) → pairs_at (exprs_of src t) (record { first = key; second = value } ∷ couples_of (nodes_in ps)) ≡ ast.pair (expr src (t key.place)) (expr src (t value.place)) (pairs_of (exprs src (plants t ps)))
unfolding pairs_at
pairs_more src t key value ps = ap (ast.pair (expr src (t key.place)) (expr src (t value.place))) (pairs_is (exprs_of src t) (nodes_in ps) ∙ ap pairs_of (nodes_planted src t ps))

pairs_lower : (n : ℕ) (key value : Id PyNodes) (cs : List Couple) → key.place < n → value.place < n → Lower n (couple_ids cs) → Lower n (couple_ids (record { first = key; second = value } ∷ cs))
unfolding couple_ids Lower
pairs_lower n key value cs k v l = (k, (v, l))

pub pairs_made : (src : List ℕ) (t : ℕ → Tree) (n line : ℕ) (key value : Id PyNodes) (ps : List PyPart) (ids : Ids) (cs : List Couple) → ids ≡ nodes_in ps → cs ≡ record { first = key; second = value } ∷ couples_of ids
    → key.place < n → value.place < n → PartsLower n ps → IsExpr src t n line (paired src t key.place value.place ps line) (form.Dictionary cs)
unfolding expr_form expr_ids
pairs_made src t n line key value ps ids cs is e k v low = record {
  says = ap (λ ds. ast.Dictionary line (pairs_at (exprs_of src t) ds)) (e ∙ ap (λ xs. record { first = key; second = value } ∷ couples_of xs) is) ∙ ap (ast.Dictionary line) (pairs_more src t key value ps);
  lower = subst (λ ds. Lower n (couple_ids ds)) (sym (e ∙ ap (λ xs. record { first = key; second = value } ∷ couples_of xs) is)) (pairs_lower n key value (couples_of (nodes_in ps)) k v (couples_lower n (nodes_in ps) (nodes_lower n ps low)));
}

pub spell_list : (src : List ℕ) (t : ℕ → Tree) (n : ℕ) (x : Token) (s : Sign) (j k : ℕ) (ps : List PyPart) (made : ExprForm) → s ≡ sign_of src x → s ≡ sign.OpenSquare
    → IsExpr src t n x.line (comprehended src t j k ps x.line) made → IsExpr src t n x.line (spelled_out src t x j k ps) made
spell_list src t n x s j k ps made e is says = record { says = says.says ∙ spelled_list (sign_of src x) _ _ (sym e ∙ is); lower = says.lower }

pub spell_pairs : (src : List ℕ) (t : ℕ → Tree) (n : ℕ) (x : Token) (s : Sign) (j k : ℕ) (ps : List PyPart) (made : ExprForm) → s ≡ sign_of src x → s ≡ sign.OpenCurly
    → IsExpr src t n x.line (paired src t j k ps x.line) made → IsExpr src t n x.line (spelled_out src t x j k ps) made
spell_pairs src t n x s j k ps made e is says = record { says = says.says ∙ spelled_pairs (sign_of src x) _ _ (sym e ∙ is); lower = says.lower }

pub spell_none : (src : List ℕ) (t : ℕ → Tree) (n : ℕ) (x : Token) (s : Sign) (j k : ℕ) (ps : List PyPart) → s ≡ sign_of src x → (s ≡ sign.OpenSquare → ⊥) → (s ≡ sign.OpenCurly → ⊥) → IsExpr src t n x.line (spelled_out src t x j k ps) form.Misshapen
unfolding expr_form expr_ids Lower
spell_none src t n x s j k ps e h i = record {
  says = spelled_none (sign_of src x) _ _ (λ is. h (e ∙ is)) (λ is. i (e ∙ is));
  lower = tt;
}

pub bare_made : (src : List ℕ) (t : ℕ → Tree) (n line : ℕ) (e : Expr) (made : ExprForm) → IsBare src line e made → IsExpr src t n line e made
unfolding Lower
bare_made src t n line e made is = record { says = is.says (exprs_of src t); lower = rw is.none tt }
