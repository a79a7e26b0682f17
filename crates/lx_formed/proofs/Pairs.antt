-- Powers, comparisons, slices and arguments whose parts go their rule's way have a form.
use Rattle.std.proofs.Common.{Bool, true, false, ◌≡◌, List, ℕ, Option, Some, None, refl, sym, subst, ◌∙◌}
use Rattle.std.proofs.lemmas.Bool.{false≢true as no}
use Rattle.lx_token.specs.declared.tokens.Token.{Token}
use Rattle.lx_grammar.specs.declared.grammar.Rule.TheVariants as rule
use Rattle.lx_grammar.specs.declared.sign.Sign.{Sign}
use Rattle.lx_grammar.specs.declared.sign.Sign.TheVariants as sign
use Rattle.lx_grammar.specs.Derives.{Tree, Grown, NoTree, Parts, end, token, child, wrap}
use Rattle.lx_syntax.specs.declared.forms.Comparison.{Comparison}
use Rattle.lx_syntax.specs.Ast as ast
use Rattle.lx_syntax.specs.Ast.{Arguments, Expr, Exprs, Trailers}
use Rattle.lx_syntax.specs.Convert as convert
use Rattle.lx_syntax.specs.Convert.{Keyed, Placed, Starred, Way, alone, arguments, arguments_in, bounds, comparison_of, expr, exprs, flat, line_of_parts, of_two, related, sign_of, spread, tokens, way_of, with_argument}
use Rattle.lx_formed.specs.Formed.{AreArguments, AreFormed, AreTrailers, IsFormed}
use Rattle.lx_formed.proofs.Steps.{After, Ended, Good, Leads, State, compared, comparison_on, ends, given, index, loose, negation_on, plain, powered, q0, q1, q2, q3, q4, q5, q6, sliced, value}
use Rattle.lx_formed.proofs.Inverting.{NotSole, kid, over, sole, wrapped}

-- ---- powers

two_exprs : (src : List ℕ) (t u : Tree) (x : Token) (ps : Parts) → ps ≡ end → exprs src (child t (token x (child u ps))) ≡ ast.more (expr src t) (ast.more (expr src u) ast.none)
unfolding exprs
two_exprs src t u x end e = refl
two_exprs src t u x (token y ps) e = absurd (cc)
two_exprs src t u x (child v ps) e = absurd (cc)

two_formed : (line : ℕ) (a b : Expr) → IsFormed a → IsFormed b → IsFormed (of_two (ast.Power line) (ast.more a (ast.more b ast.none)))
unfolding of_two IsFormed
two_formed line a b f g = (f, g)

abbrev PowerEnds : State → Type 0
PowerEnds = Ended (ends rule.Power)

power_formed : (src : List ℕ) (line : ℕ) (qs : Parts) → NotSole qs → Leads src powered q0 qs PowerEnds → IsFormed (of_two (ast.Power line) (exprs src qs))
unfolding Leads
power_formed src line end n h = absurd (no h)
power_formed src line (token x ps) n h = absurd h
power_formed src line (child t end) n h = absurd n
power_formed src line (child t (token x end)) n h = absurd (no (kid src value h.0 t q1 (λ p. Leads src powered p (token x end) PowerEnds) h.1.0 h.1.1).1)
power_formed src line (child t (token x (token y ps))) n h = absurd (kid src value h.0 t q1 (λ p. Leads src powered p (token x (token y ps)) PowerEnds) h.1.0 h.1.1).1
power_formed src line (child t (token x (child u ps))) n h =
    let a = kid src value h.0 t q1 (λ p. Leads src powered p (token x (child u ps)) PowerEnds) h.1.0 h.1.1 in
    let b = kid src value a.1.0 u q3 (λ p. Leads src powered p ps PowerEnds) a.1.1.0 a.1.1.1 in
    let last : ps ≡ end = over src powered q3 ps PowerEnds (λ s. refl) (λ j. refl) b.1 in
    subst (λ es. IsFormed (of_two (ast.Power line) es)) (sym (two_exprs src t u x ps last)) (two_formed line (expr src t) (expr src u) a.0 b.0)
power_formed src line (child t (child u ps)) n h = absurd (kid src value h.0 t q1 (λ p. Leads src powered p (child u ps) PowerEnds) h.1.0 h.1.1).1.1.1

pub power_good : (src : List ℕ) (qs : Parts) → Leads src powered q0 qs PowerEnds → IsFormed (expr src (wrap rule.Power qs))
unfolding expr flat
power_good src qs h = wrapped (λ t. IsFormed (expr src t)) rule.Power qs (λ n. power_formed src (line_of_parts qs) qs n h) (λ t s. (sole src value powered q0 q1 qs PowerEnds t (λ j. refl) h s).0)

-- ---- comparisons

plain_comparison : (s : Sign) → comparison_of (plain s) ≡ comparison_of s
unfolding comparison_of
plain_comparison sign.Init = refl
plain_comparison sign.SelfName = refl
plain_comparison _ = refl

data ComparisonThere (o : Option Comparison) (k : State → Type 0) : Type 0 where
  by_one : (c : Comparison) → o ≡ Some c → k q2 → ComparisonThere o k
  by_none : k q4 → ComparisonThere o k

comparison_there : (o : Option Comparison) (k : State → Type 0) → After (comparison_on o) k → ComparisonThere o k
comparison_there None k h = by_none h
comparison_there (Some c) k h = by_one c refl h

data NegationThere (k : State → Type 0) : Type 0 where
  behind_not : k q5 → NegationThere k
  behind_is : k q6 → NegationThere k

negation_there : (s : Sign) (k : State → Type 0) → k (negation_on s) → NegationThere k
negation_there sign.Not k h = behind_not h
negation_there _ k h = behind_is h

abbrev CompEnds : State → Type 0
CompEnds = Ended (ends rule.Comp)

compare_formed : (line : ℕ) (o : Option Comparison) (c : Comparison) (a b : Expr) → o ≡ Some c → IsFormed a → IsFormed b → IsFormed (of_two (convert.compared line o) (ast.more a (ast.more b ast.none)))
unfolding of_two convert.compared IsFormed
compare_formed line o c a b e f g = subst (λ p. IsFormed (of_two (convert.compared line p) (ast.more a (ast.more b ast.none)))) (sym e) (f, g)

nothing_formed : (line : ℕ) (negated : Bool) (e : Expr) → IsFormed e → IsFormed (alone (ast.IsNothing line negated) (ast.more e ast.none))
unfolding alone IsFormed
nothing_formed line negated e h = h

-- two operands and a comparison
related_pair : (src : List ℕ) (line : ℕ) (t u : Tree) (x : Token) (ps : Parts) (c : Comparison) → ps ≡ end → comparison_of (plain (sign_of src x)) ≡ Some c → IsFormed (expr src t) → IsFormed (expr src u)
    → IsFormed (related src (tokens (child t (token x (child u ps)))) line (exprs src (child t (token x (child u ps)))))
unfolding related tokens exprs
related_pair src line t u x end c e is f g = compare_formed line (comparison_of (sign_of src x)) c (expr src t) (expr src u) (sym (plain_comparison (sign_of src x)) ∙ is) f g
related_pair src line t u x (token y ps) c e is f g = absurd (cc)
related_pair src line t u x (child v ps) c e is f g = absurd (cc)

related_nothing : (src : List ℕ) (line : ℕ) (t : Tree) (x y : Token) (ps : Parts) → ps ≡ end → IsFormed (expr src t) → IsFormed (related src (tokens (child t (token x (token y ps)))) line (exprs src (child t (token x (token y ps)))))
unfolding related tokens exprs
related_nothing src line t x y end e f = nothing_formed line false (expr src t) f
related_nothing src line t x y (token z ps) e f = absurd (cc)
related_nothing src line t x y (child u ps) e f = absurd (cc)

related_something : (src : List ℕ) (line : ℕ) (t : Tree) (x y z : Token) (ps : Parts) → ps ≡ end → IsFormed (expr src t) → IsFormed (related src (tokens (child t (token x (token y (token z ps))))) line (exprs src (child t (token x (token y (token z ps))))))
unfolding related tokens exprs
related_something src line t x y z end e f = nothing_formed line true (expr src t) f
related_something src line t x y z (token w ps) e f = absurd (cc)
related_something src line t x y z (child u ps) e f = absurd (cc)

behind_two : (src : List ℕ) (line : ℕ) (t : Tree) (x y : Token) (ps : Parts) → IsFormed (expr src t) → NegationThere (λ p. Leads src compared p ps CompEnds)
    → IsFormed (related src (tokens (child t (token x (token y ps)))) line (exprs src (child t (token x (token y ps)))))
unfolding Leads
behind_two src line t x y ps f (behind_is h) = related_nothing src line t x y ps (over src compared q6 ps CompEnds (λ s. refl) (λ j. refl) h) f
behind_two src line t x y end f (behind_not h) = absurd (no h)
behind_two src line t x y (child u ps) f (behind_not h) = absurd h.1.1
behind_two src line t x y (token z ps) f (behind_not h) = related_something src line t x y z ps (over src compared q6 ps CompEnds (λ s. refl) (λ j. refl) h) f

behind_word : (src : List ℕ) (line : ℕ) (t : Tree) (x : Token) (ps : Parts) → IsFormed (expr src t) → ComparisonThere (comparison_of (plain (sign_of src x))) (λ p. Leads src compared p ps CompEnds)
    → IsFormed (related src (tokens (child t (token x ps))) line (exprs src (child t (token x ps))))
unfolding Leads
behind_word src line t x end f (by_one c e h) = absurd (no h)
behind_word src line t x (token y ps) f (by_one c e h) = absurd h
behind_word src line t x (child u ps) f (by_one c e h) =
    let b = kid src value h.0 u q3 (λ p. Leads src compared p ps CompEnds) h.1.0 h.1.1 in
    related_pair src line t u x ps c (over src compared q3 ps CompEnds (λ s. refl) (λ j. refl) b.1) e f b.0
behind_word src line t x end f (by_none h) = absurd (no h)
behind_word src line t x (child u ps) f (by_none h) = absurd h.1.1
behind_word src line t x (token y ps) f (by_none h) = behind_two src line t x y ps f (negation_there (plain (sign_of src y)) (λ p. Leads src compared p ps CompEnds) h)

comp_formed : (src : List ℕ) (line : ℕ) (qs : Parts) → NotSole qs → Leads src compared q0 qs CompEnds → IsFormed (related src (tokens qs) line (exprs src qs))
unfolding Leads
comp_formed src line end n h = absurd (no h)
comp_formed src line (token x ps) n h = absurd h
comp_formed src line (child t end) n h = absurd n
comp_formed src line (child t (child u ps)) n h = absurd (kid src value h.0 t q1 (λ p. Leads src compared p (child u ps) CompEnds) h.1.0 h.1.1).1.1.1
comp_formed src line (child t (token x ps)) n h =
    let a = kid src value h.0 t q1 (λ p. Leads src compared p (token x ps) CompEnds) h.1.0 h.1.1 in
    behind_word src line t x ps a.0 (comparison_there (comparison_of (plain (sign_of src x))) (λ p. Leads src compared p ps CompEnds) a.1)

pub comp_good : (src : List ℕ) (qs : Parts) → Leads src compared q0 qs CompEnds → IsFormed (expr src (wrap rule.Comp qs))
unfolding expr flat
comp_good src qs h = wrapped (λ t. IsFormed (expr src t)) rule.Comp qs (λ n. comp_formed src (line_of_parts qs) qs n h) (λ t s. (sole src value compared q0 q1 qs CompEnds t (λ j. refl) h s).0)

-- ---- an expression as an index

item_formed : (src : List ℕ) (t : Tree) → IsFormed (expr src t) → (rest : Trailers) → AreTrailers rest → AreTrailers (bounds src t (expr src t) rest)
unfolding expr flat bounds IsFormed AreTrailers
item_formed src NoTree h rest f = absurd h
item_formed src (Grown rule.Sub ps) h rest f = absurd h
item_formed src (Grown _ ps) h rest f = (h, f)

abbrev SubEnds : State → Type 0
SubEnds = Ended (ends rule.Sub)

slice_formed : (src : List ℕ) (qs : Parts) → NotSole qs → Leads src sliced q0 qs SubEnds → (e : Expr) (rest : Trailers) → AreTrailers rest → AreTrailers (bounds src (Grown rule.Sub qs) e rest)
unfolding Leads bounds AreTrailers AreFormed
slice_formed src end n h e rest f = absurd (no h)
slice_formed src (token x end) n h e rest f = (tt, (tt, f))
slice_formed src (token x (token y ps)) n h e rest f = absurd h
slice_formed src (token x (child u end)) n h e rest f =
    let b = kid src value h.0 u q3 (λ p. Leads src sliced p end SubEnds) h.1.0 h.1.1 in
    (tt, ((b.0, tt), f))
slice_formed src (token x (child u (token y ps))) n h e rest f = absurd (kid src value h.0 u q3 (λ p. Leads src sliced p (token y ps) SubEnds) h.1.0 h.1.1).1
slice_formed src (token x (child u (child v ps))) n h e rest f = absurd (kid src value h.0 u q3 (λ p. Leads src sliced p (child v ps) SubEnds) h.1.0 h.1.1).1.1.1
slice_formed src (child t end) n h e rest f = absurd n
slice_formed src (child t (child u ps)) n h e rest f = absurd (kid src value h.0 t q1 (λ p. Leads src sliced p (child u ps) SubEnds) h.1.0 h.1.1).1.1.1
slice_formed src (child t (token x end)) n h e rest f =
    let a = kid src value h.0 t q1 (λ p. Leads src sliced p (token x end) SubEnds) h.1.0 h.1.1 in
    ((a.0, tt), (tt, f))
slice_formed src (child t (token x (token y ps))) n h e rest f = absurd (kid src value h.0 t q1 (λ p. Leads src sliced p (token x (token y ps)) SubEnds) h.1.0 h.1.1).1
slice_formed src (child t (token x (child u end))) n h e rest f =
    let a = kid src value h.0 t q1 (λ p. Leads src sliced p (token x (child u end)) SubEnds) h.1.0 h.1.1 in
    let b = kid src value a.1.0 u q3 (λ p. Leads src sliced p end SubEnds) a.1.1.0 a.1.1.1 in
    ((a.0, tt), ((b.0, tt), f))
slice_formed src (child t (token x (child u (token y ps)))) n h e rest f =
    let a = kid src value h.0 t q1 (λ p. Leads src sliced p (token x (child u (token y ps))) SubEnds) h.1.0 h.1.1 in
    absurd (kid src value a.1.0 u q3 (λ p. Leads src sliced p (token y ps) SubEnds) a.1.1.0 a.1.1.1).1
slice_formed src (child t (token x (child u (child v ps)))) n h e rest f =
    let a = kid src value h.0 t q1 (λ p. Leads src sliced p (token x (child u (child v ps))) SubEnds) h.1.0 h.1.1 in
    absurd (kid src value a.1.0 u q3 (λ p. Leads src sliced p (child v ps) SubEnds) a.1.1.0 a.1.1.1).1.1.1

pub sub_good : (src : List ℕ) (qs : Parts) → Leads src sliced q0 qs SubEnds → Good src index (wrap rule.Sub qs)
sub_good src qs h = wrapped (λ t. Good src index t) rule.Sub qs (λ n rest f. slice_formed src qs n h (expr src (Grown rule.Sub qs)) rest f) (λ t s. item_formed src t (sole src value sliced q0 q1 qs SubEnds t (λ j. refl) h s).0)

-- ---- arguments

given_formed : (src : List ℕ) (way : Way) (e : Expr) (rest : Arguments) → IsFormed e → AreArguments rest → AreArguments (with_argument src way e rest)
unfolding with_argument AreArguments
given_formed src Placed e rest f g = (f, g)
given_formed src Starred e rest f g = (f, g)
given_formed src (Keyed name) e rest f g = (f, g)

no_arguments : AreArguments ast.no_argument
unfolding AreArguments
no_arguments = tt

alone_given : (src : List ℕ) (t : Tree) → IsFormed (expr src t) → AreArguments (arguments src t (expr src t))
unfolding expr flat arguments IsFormed
alone_given src NoTree h = absurd h
alone_given src (Grown rule.Args ps) h = absurd h
alone_given src (Grown _ ps) h = given_formed src _ _ ast.no_argument h no_arguments

all_given : (src : List ℕ) (ps : Parts) (k : State → Type 0) → Leads src (loose value) q0 ps k → AreArguments (arguments_in src ps)
unfolding Leads arguments_in
all_given src end k h = no_arguments
all_given src (token x ps) k h = all_given src ps k h
all_given src (child t ps) k h =
    let both = kid src value h.0 t q0 (λ p. Leads src (loose value) p ps k) h.1.0 h.1.1 in
    given_formed src (way_of t) (expr src t) (arguments_in src ps) both.0 (all_given src ps k both.1)

pub args_good : (src : List ℕ) (qs : Parts) (k : State → Type 0) → Leads src (loose value) q0 qs k → Good src given (wrap rule.Args qs)
unfolding arguments
args_good src qs k h = wrapped (λ t. Good src given t) rule.Args qs (λ n. all_given src qs k h) (λ t s. alone_given src t (sole src value (loose value) q0 q0 qs k t (λ j. refl) h s).0)
