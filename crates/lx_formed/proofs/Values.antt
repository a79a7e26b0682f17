-- Expressions whose parts go their rule's way have a form.
use Rattle.std.proofs.Common.{◌≡◌, List, [], ◌∷◌, ℕ, Option, Some, None, refl, sym, ap, subst, ◌∙◌, map}
use Rattle.lx_token.specs.declared.tokens.Token.{Token}
use Rattle.lx_grammar.specs.declared.grammar.Rule.{Rule}
use Rattle.lx_grammar.specs.declared.grammar.Rule.TheVariants as rule
use Rattle.lx_grammar.specs.declared.sign.Sign.{Sign}
use Rattle.lx_grammar.specs.declared.sign.Sign.TheVariants as sign
use Rattle.lx_grammar.specs.Derives.{Tree, Grown, Parts, end, token, child, wrap}
use Rattle.lx_syntax.specs.declared.forms.Operator.{Operator}
use Rattle.lx_syntax.specs.declared.forms.Prefix.{Prefix}
use Rattle.lx_syntax.specs.Ast as ast
use Rattle.lx_syntax.specs.Ast.{Expr, Exprs, Links}
use Rattle.lx_syntax.specs.Convert.{alone, chain, choice, choices_of, expr, exprs, flat, line_of_parts, lines, linked, links, operator_of, prefix_of, prefixed, sign_of, signs, token_line, tokens, with_link, with_sign}
use Rattle.lx_formed.specs.Formed.{AreChoices, AreFormed, AreLinks, IsFormed}
use Rattle.lx_formed.proofs.Steps.{After, Leads, State, chained, led, loose, operator_on, plain, prefix_on, q0, q1, signed_step, single, value}
use Rattle.lx_formed.proofs.Inverting.{kid, no_exprs, one_expr, over, sole, token_exprs, wrapped}

-- ---- any number of them

pub loose_values : (src : List ℕ) (q : State) (ps : Parts) (k : State → Type 0) → Leads src (loose value) q ps k → AreFormed (exprs src ps)
unfolding Leads exprs AreFormed
loose_values src q end k h = tt
loose_values src q (token x ps) k h = loose_values src q ps k h
loose_values src q (child t ps) k h =
    let both = kid src value h.0 t q (λ p. Leads src (loose value) p ps k) h.1.0 h.1.1 in
    (both.0, loose_values src q ps k both.1)

pub values_good : (src : List ℕ) (qs : Parts) (k : State → Type 0) → Leads src (loose value) q0 qs k → IsFormed (expr src (wrap rule.Values qs))
unfolding expr flat IsFormed
values_good src qs k h = wrapped (λ t. IsFormed (expr src t)) rule.Values qs (λ n. loose_values src q0 qs k h) (λ t s. (sole src value (loose value) q0 q0 qs k t (λ j. refl) h s).0)

pub or_good : (src : List ℕ) (qs : Parts) (k : State → Type 0) → Leads src (loose value) q0 qs k → IsFormed (expr src (wrap rule.Or qs))
unfolding expr flat IsFormed
or_good src qs k h = wrapped (λ t. IsFormed (expr src t)) rule.Or qs (λ n. loose_values src q0 qs k h) (λ t s. (sole src value (loose value) q0 q0 qs k t (λ j. refl) h s).0)

pub and_good : (src : List ℕ) (qs : Parts) (k : State → Type 0) → Leads src (loose value) q0 qs k → IsFormed (expr src (wrap rule.And qs))
unfolding expr flat IsFormed
and_good src qs k h = wrapped (λ t. IsFormed (expr src t)) rule.And qs (λ n. loose_values src q0 qs k h) (λ t s. (sole src value (loose value) q0 q0 qs k t (λ j. refl) h s).0)

-- ---- conditionals

led_values : (src : List ℕ) (ps : Parts) (k : State → Type 0) → Leads src led q1 ps k → AreFormed (exprs src ps)
unfolding Leads exprs AreFormed
led_values src end k h = tt
led_values src (token x ps) k h = led_values src ps k h
led_values src (child t ps) k h =
    let both = kid src value h.0 t q1 (λ p. Leads src led p ps k) h.1.0 h.1.1 in
    (both.0, led_values src ps k both.1)

choices_formed : (line : ℕ) (ls : List ℕ) (es : Exprs) → AreFormed es → AreChoices (choices_of line ls es)
unfolding choices_of AreFormed AreChoices
choices_formed line [] es h = tt
choices_formed line (l ∷ []) es h = tt
choices_formed line (l ∷ m ∷ ls) ast.none h = tt
choices_formed line (l ∷ m ∷ ls) (ast.more c ast.none) h = tt
choices_formed line (l ∷ m ∷ ls) (ast.more c (ast.more v es)) h = (h.0, (h.1.0, choices_formed m ls es h.1.1))

choice_formed : (src : List ℕ) (line : ℕ) (qs : Parts) (k : State → Type 0) → (k q0 → ⊥) → Leads src led q0 qs k → IsFormed (choice line (lines qs) (exprs src qs))
unfolding Leads exprs lines choice IsFormed
choice_formed src line end k z h = absurd (z h)
choice_formed src line (token x ps) k z h = absurd h
choice_formed src line (child t ps) k z h =
    let both = kid src value h.0 t q1 (λ p. Leads src led p ps k) h.1.0 h.1.1 in
    (both.0, choices_formed line (lines ps) (exprs src ps) (led_values src ps k both.1))

pub expr_good : (src : List ℕ) (qs : Parts) (k : State → Type 0) → (k q0 → ⊥) → Leads src led q0 qs k → IsFormed (expr src (wrap rule.Expr qs))
unfolding expr
expr_good src qs k z h = wrapped (λ t. IsFormed (expr src t)) rule.Expr qs (λ n. choice_formed src (line_of_parts qs) qs k z h) (λ t s. (sole src value led q0 q1 qs k t (λ j. refl) h s).0)

-- ---- one of them

record One (src : List ℕ) (ps : Parts) : Type 0 where
  of : Expr
  is : exprs src ps ≡ ast.more of ast.none
  good : IsFormed of

single_one : (src : List ℕ) (ps : Parts) (k : State → Type 0) → (k q0 → ⊥) → Leads src single q0 ps k → One src ps
unfolding Leads
single_one src end k z h = absurd (z h)
single_one src (token x ps) k z h =
    let one = single_one src ps k z h in
    record { of = one.of; is = token_exprs src x ps ∙ one.is; good = one.good }
single_one src (child t ps) k z h =
    let both = kid src value h.0 t q1 (λ p. Leads src single p ps k) h.1.0 h.1.1 in
    record { of = expr src t; is = one_expr src t ps (no_exprs src ps (over src single q1 ps k (λ s. refl) (λ j. refl) both.1)); good = both.0 }

alone_formed : (say : Expr → Expr) (e : Expr) → IsFormed (say e) → IsFormed (alone say (ast.more e ast.none))
unfolding alone
alone_formed say e h = h

alone_one : (src : List ℕ) (ps : Parts) (say : Expr → Expr) → ((e : Expr) → IsFormed e → IsFormed (say e)) → One src ps → IsFormed (alone say (exprs src ps))
alone_one src ps say f one = subst (λ es. IsFormed (alone say es)) (sym one.is) (alone_formed say one.of (f one.of one.good))

not_formed : (lines : List ℕ) (e : Expr) → IsFormed e → IsFormed (ast.Not lines e)
unfolding IsFormed
not_formed lines e h = h

pub not_good : (src : List ℕ) (qs : Parts) (k : State → Type 0) → (k q0 → ⊥) → Leads src single q0 qs k → IsFormed (expr src (wrap rule.Not qs))
unfolding expr flat
not_good src qs k z h = wrapped (λ t. IsFormed (expr src t)) rule.Not qs (λ n. alone_one src qs (ast.Not (map token_line (tokens qs))) (not_formed (map token_line (tokens qs))) (single_one src qs k z h))
    (λ t s. (sole src value single q0 q1 qs k t (λ j. refl) h s).0)

pub arg_good : (src : List ℕ) (qs : Parts) (k : State → Type 0) → (k q0 → ⊥) → Leads src single q0 qs k → IsFormed (expr src (wrap rule.Arg qs))
unfolding expr flat
arg_good src qs k z h = wrapped (λ t. IsFormed (expr src t)) rule.Arg qs (λ n. alone_one src qs (λ e. e) (λ e f. f) (single_one src qs k z h))
    (λ t s. (sole src value single q0 q1 qs k t (λ j. refl) h s).0)

-- ---- signs before one

plain_prefix : (s : Sign) → prefix_of (plain s) ≡ prefix_of s
unfolding prefix_of
plain_prefix sign.Init = refl
plain_prefix sign.SelfName = refl
plain_prefix _ = refl

record PrefixThere (o : Option Prefix) (k : State → Type 0) : Type 0 where
  by_ : Prefix
  is : o ≡ Some by_
  on : k q0

prefix_there : (o : Option Prefix) (k : State → Type 0) → After (prefix_on o) k → PrefixThere o k
prefix_there None k h = absurd h
prefix_there (Some p) k h = record { by_ = p; is = refl; on = h }

record SignsThere (src : List ℕ) (ps : Parts) : Type 0 where
  all : List ast.Sign
  are : signs src (tokens ps) ≡ Some all
  one : One src ps

no_signs : (src : List ℕ) (t : Tree) (ps : Parts) → ps ≡ end → signs src (tokens (child t ps)) ≡ Some []
unfolding signs tokens
no_signs src t end e = refl
no_signs src t (token x ps) e = absurd (cc)
no_signs src t (child u ps) e = absurd (cc)

more_signs : (src : List ℕ) (x : Token) (ps : Parts) (p : Prefix) (all : List ast.Sign) → prefix_of (sign_of src x) ≡ Some p → signs src (tokens ps) ≡ Some all → signs src (tokens (token x ps)) ≡ Some (record { line = x.line; prefix = p } ∷ all)
unfolding signs tokens with_sign
more_signs src x ps p all e f = ap (λ o. with_sign x.line o (signs src (tokens ps))) e ∙ ap (with_sign x.line (Some p)) f

signs_there : (src : List ℕ) (ps : Parts) (k : State → Type 0) → (k q0 → ⊥) → Leads src signed_step q0 ps k → SignsThere src ps
unfolding Leads
signs_there src end k z h = absurd (z h)
signs_there src (token x ps) k z h =
    let there = prefix_there (prefix_of (plain (sign_of src x))) (λ p. Leads src signed_step p ps k) h in
    let rest = signs_there src ps k z there.on in
    record {
      all = record { line = x.line; prefix = there.by_ } ∷ rest.all;
      are = more_signs src x ps there.by_ rest.all (sym (plain_prefix (sign_of src x)) ∙ there.is) rest.are;
      one = record { of = rest.one.of; is = token_exprs src x ps ∙ rest.one.is; good = rest.one.good };
    }
signs_there src (child t ps) k z h =
    let both = kid src value h.0 t q1 (λ p. Leads src signed_step p ps k) h.1.0 h.1.1 in
    let last : ps ≡ end = over src signed_step q1 ps k (λ s. refl) (λ j. refl) both.1 in
    record { all = []; are = no_signs src t ps last; one = record { of = expr src t; is = one_expr src t ps (no_exprs src ps last); good = both.0 } }

prefixed_formed : (all : List ast.Sign) (e : Expr) → IsFormed e → IsFormed (prefixed (Some all) (ast.more e ast.none))
unfolding prefixed alone IsFormed
prefixed_formed all e h = h

signs_formed : (src : List ℕ) (qs : Parts) → SignsThere src qs → IsFormed (prefixed (signs src (tokens qs)) (exprs src qs))
signs_formed src qs there = subst (λ o. IsFormed (prefixed o (exprs src qs))) (sym there.are) (subst (λ es. IsFormed (prefixed (Some there.all) es)) (sym there.one.is) (prefixed_formed there.all there.one.of there.one.good))

pub unary_good : (src : List ℕ) (qs : Parts) (k : State → Type 0) → (k q0 → ⊥) → Leads src signed_step q0 qs k → IsFormed (expr src (wrap rule.Unary qs))
unfolding expr flat
unary_good src qs k z h = wrapped (λ t. IsFormed (expr src t)) rule.Unary qs (λ n. signs_formed src qs (signs_there src qs k z h)) (λ t s. (sole src value signed_step q0 q1 qs k t (λ j. refl) h s).0)

-- ---- chains

plain_operator : (s : Sign) → operator_of (plain s) ≡ operator_of s
unfolding operator_of
plain_operator sign.Init = refl
plain_operator sign.SelfName = refl
plain_operator _ = refl

abbrev AreLinked : Option Links → Type 0
AreLinked None = ⊥
AreLinked (Some ls) = AreLinks ls

record OperatorThere (o : Option Operator) (k : State → Type 0) : Type 0 where
  by_ : Operator
  is : o ≡ Some by_
  on : k q0

operator_there : (o : Option Operator) (k : State → Type 0) → After (operator_on o) k → OperatorThere o k
operator_there None k h = absurd h
operator_there (Some p) k h = record { by_ = p; is = refl; on = h }

link_formed : (op : Operator) (e : Expr) (o : Option Links) → IsFormed e → AreLinked o → AreLinked (with_link (Some op) e o)
unfolding with_link AreLinks
link_formed op e None f h = absurd h
link_formed op e (Some ls) f h = (f, h)

links_formed : (src : List ℕ) (ps : Parts) (k : State → Type 0) → (k q0 → ⊥) → Leads src chained q1 ps k → AreLinked (links src (tokens ps) (exprs src ps))
unfolding Leads exprs tokens links AreLinks
links_formed src end k z h = tt
links_formed src (child t ps) k z h = absurd h.1.1
links_formed src (token x end) k z h = absurd (z (operator_there (operator_of (plain (sign_of src x))) k h).on)
links_formed src (token x (token y ps)) k z h = absurd (operator_there (operator_of (plain (sign_of src x))) (λ p. Leads src chained p (token y ps) k) h).on
links_formed src (token x (child t ps)) k z h =
    let there = operator_there (operator_of (plain (sign_of src x))) (λ p. Leads src chained p (child t ps) k) h in
    let both = kid src value there.on.0 t q1 (λ p. Leads src chained p ps k) there.on.1.0 there.on.1.1 in
    subst (λ o. AreLinked (with_link o (expr src t) (links src (tokens ps) (exprs src ps)))) (sym (sym (plain_operator (sign_of src x)) ∙ there.is))
    (link_formed there.by_ (expr src t) (links src (tokens ps) (exprs src ps)) both.0 (links_formed src ps k z both.1))

linked_formed : (line : ℕ) (e : Expr) (o : Option Links) → IsFormed e → AreLinked o → IsFormed (linked line e o)
unfolding linked IsFormed
linked_formed line e None f h = absurd h
linked_formed line e (Some ls) f h = (f, h)

chain_formed : (src : List ℕ) (line : ℕ) (qs : Parts) (k : State → Type 0) → (k q0 → ⊥) → Leads src chained q0 qs k → IsFormed (chain src (tokens qs) line (exprs src qs))
unfolding Leads exprs tokens chain
chain_formed src line end k z h = absurd (z h)
chain_formed src line (token x ps) k z h = absurd h
chain_formed src line (child t ps) k z h =
    let both = kid src value h.0 t q1 (λ p. Leads src chained p ps k) h.1.0 h.1.1 in
    linked_formed line (expr src t) (links src (tokens ps) (exprs src ps)) both.0 (links_formed src ps k z both.1)

chain_by : (src : List ℕ) (r : Rule) (qs : Parts) (k : State → Type 0) → (k q0 → ⊥) → (IsFormed (chain src (tokens qs) (line_of_parts qs) (exprs src qs)) → IsFormed (expr src (Grown r qs))) → Leads src chained q0 qs k → IsFormed (expr src (wrap r qs))
chain_by src r qs k z is h = wrapped (λ t. IsFormed (expr src t)) r qs (λ n. is (chain_formed src (line_of_parts qs) qs k z h)) (λ t s. (sole src value chained q0 q1 qs k t (λ j. refl) h s).0)

pub bor_good : (src : List ℕ) (qs : Parts) (k : State → Type 0) → (k q0 → ⊥) → Leads src chained q0 qs k → IsFormed (expr src (wrap rule.Bor qs))
unfolding expr flat
bor_good src qs k z h = chain_by src rule.Bor qs k z (λ f. f) h

pub bxor_good : (src : List ℕ) (qs : Parts) (k : State → Type 0) → (k q0 → ⊥) → Leads src chained q0 qs k → IsFormed (expr src (wrap rule.Bxor qs))
unfolding expr flat
bxor_good src qs k z h = chain_by src rule.Bxor qs k z (λ f. f) h

pub band_good : (src : List ℕ) (qs : Parts) (k : State → Type 0) → (k q0 → ⊥) → Leads src chained q0 qs k → IsFormed (expr src (wrap rule.Band qs))
unfolding expr flat
band_good src qs k z h = chain_by src rule.Band qs k z (λ f. f) h

pub shift_good : (src : List ℕ) (qs : Parts) (k : State → Type 0) → (k q0 → ⊥) → Leads src chained q0 qs k → IsFormed (expr src (wrap rule.Shift qs))
unfolding expr flat
shift_good src qs k z h = chain_by src rule.Shift qs k z (λ f. f) h

pub sum_good : (src : List ℕ) (qs : Parts) (k : State → Type 0) → (k q0 → ⊥) → Leads src chained q0 qs k → IsFormed (expr src (wrap rule.Sum qs))
unfolding expr flat
sum_good src qs k z h = chain_by src rule.Sum qs k z (λ f. f) h

pub term_good : (src : List ℕ) (qs : Parts) (k : State → Type 0) → (k q0 → ⊥) → Leads src chained q0 qs k → IsFormed (expr src (wrap rule.Term qs))
unfolding expr flat
term_good src qs k z h = chain_by src rule.Term qs k z (λ f. f) h
