-- Attributes, calls, subscripts and what stands between brackets, whose parts go their rule's way, have a form.
use Rattle.std.proofs.Common.{◌≡◌, List, ℕ, refl, subst, map}
use Rattle.std.proofs.lemmas.Bool.{false≢true as no}
use Rattle.lx_token.specs.declared.tokens.Token.{Token}
use Rattle.lx_grammar.specs.declared.grammar.Rule.TheVariants as rule
use Rattle.lx_grammar.specs.declared.sign.Sign.{Sign}
use Rattle.lx_grammar.specs.declared.sign.Sign.TheVariants as sign
use Rattle.lx_grammar.specs.Derives.{Tree, Grown, NoTree, Parts, end, token, child, wrap}
use Rattle.lx_syntax.specs.Ast as ast
use Rattle.lx_syntax.specs.Ast.{Arguments, Expr, Exprs, Trailers}
use Rattle.lx_syntax.specs.Convert.{arguments, atom, bounds, called_or_indexed, called_or_named, comprehension, empty, expr, exprs, flat, grouped, leaf, names_of, pairs_of, post, sign_of, spelled, spread, text_of, trailers}
use Rattle.lx_formed.specs.Formed.{AreArguments, AreFormed, ArePairs, AreTrailers, IsFormed}
use Rattle.lx_formed.proofs.Steps.{After, Ended, Leads, State, atom_on, bracketed, close_on, ends, given, heading, index, plain, posted, q0, q1, q2, q3, q4, q5, q6, q7, q9, q10, q11, q12, q13, q14, q15, value, word}
use Rattle.lx_formed.proofs.Inverting.{kid, over, sole, wrapped}

-- ---- trailers

abbrev PostEnds : State → Type 0
PostEnds = Ended (ends rule.Post)

-- what a trailer begins with
data Begun (s : Sign) (k : State → Type 0) : Type 0 where
  dot : k q2 → Begun s k
  round : s ≡ sign.OpenRound → k q3 → Begun s k
  square : s ≡ sign.OpenSquare → k q5 → Begun s k

begun : (s : Sign) (k : State → Type 0) → After (posted q1 (word (plain s))) k → Begun s k
begun sign.Dot k h = dot h
begun sign.OpenRound k h = round refl h
begun sign.OpenSquare k h = square refl h
begun _ k h = absurd h

closed : (s : Sign) (k : State → Type 0) → After (posted q3 (word (plain s))) k → k q1
closed sign.CloseRound k h = h
closed _ k h = absurd h

named_formed : (s : Sign) (name : List ℕ) (rest : Trailers) → AreTrailers rest → AreTrailers (called_or_named s name rest)
unfolding called_or_named AreTrailers AreArguments
named_formed sign.OpenRound name rest h = (tt, h)
named_formed _ name rest h = h

called_formed : (s : Sign) (args : Arguments) (index_of : Trailers → Trailers) (rest : Trailers) → s ≡ sign.OpenRound → AreArguments args → AreTrailers rest → AreTrailers (called_or_indexed s args index_of rest)
unfolding called_or_indexed AreTrailers
called_formed sign.OpenRound args index_of rest e f g = (f, g)
called_formed _ args index_of rest e f g = absurd (cc)

indexed_formed : (s : Sign) (args : Arguments) (index_of : Trailers → Trailers) (rest : Trailers) → s ≡ sign.OpenSquare → AreTrailers (index_of rest) → AreTrailers (called_or_indexed s args index_of rest)
unfolding called_or_indexed
indexed_formed sign.OpenRound args index_of rest e f = absurd (cc)
indexed_formed _ args index_of rest e f = f

no_trailers : AreTrailers ast.no_trailer
unfolding AreTrailers
no_trailers = tt

trailers_formed : (src : List ℕ) (ps : Parts) → Leads src posted q1 ps PostEnds → AreTrailers (trailers src ps)
unfolding Leads trailers
trailers_formed src end h = no_trailers
trailers_formed src (child t ps) h = absurd h.1.1
trailers_formed src (token x end) h = no_trailers
trailers_formed src (token x (child t end)) h = no_trailers
trailers_formed src (token x (child t (child u ps))) h = no_trailers
trailers_formed src (token x (token y ps)) h =
    let rest : Leads src posted q1 ps PostEnds = elim (begun (sign_of src x) (λ p. Leads src posted p (token y ps) PostEnds) h) [
      | dot l ↦ l
      | round e l ↦ closed (sign_of src y) (λ p. Leads src posted p ps PostEnds) l
      | square e l ↦ absurd l
    ] in
    named_formed (sign_of src x) (text_of src y) (trailers src ps) (trailers_formed src ps rest)
trailers_formed src (token x (child t (token y ps))) h =
    elim (begun (sign_of src x) (λ p. Leads src posted p (child t (token y ps)) PostEnds) h) [
      | dot l ↦ absurd l.1.1
      | round e l ↦
          let both = kid src given l.0 t q4 (λ p. Leads src posted p (token y ps) PostEnds) l.1.0 l.1.1 in
          called_formed (sign_of src x) (arguments src t (expr src t)) (bounds src t (expr src t)) (trailers src ps) e both.0 (trailers_formed src ps both.1)
      | square e l ↦
          let both = kid src index l.0 t q4 (λ p. Leads src posted p (token y ps) PostEnds) l.1.0 l.1.1 in
          indexed_formed (sign_of src x) (arguments src t (expr src t)) (bounds src t (expr src t)) (trailers src ps) e (both.0 (trailers src ps) (trailers_formed src ps both.1))
    ]

post_formed : (src : List ℕ) (qs : Parts) → Leads src posted q0 qs PostEnds → IsFormed (post src qs)
unfolding Leads post IsFormed
post_formed src end h = absurd (no h)
post_formed src (token x ps) h = absurd h
post_formed src (child t ps) h =
    let both = kid src value h.0 t q1 (λ p. Leads src posted p ps PostEnds) h.1.0 h.1.1 in
    (both.0, trailers_formed src ps both.1)

pub post_good : (src : List ℕ) (qs : Parts) → Leads src posted q0 qs PostEnds → IsFormed (expr src (wrap rule.Post qs))
unfolding expr
post_good src qs h = wrapped (λ t. IsFormed (expr src t)) rule.Post qs (λ n. post_formed src qs h) (λ t s. (sole src value posted q0 q1 qs PostEnds t (λ j. refl) h s).0)

-- ---- atoms

abbrev AtomEnds : State → Type 0
AtomEnds = Ended (ends rule.Atom)

finished : (src : List ℕ) (ps : Parts) → Leads src bracketed q1 ps AtomEnds → ps ≡ end
finished src ps h = over src bracketed q1 ps AtomEnds (λ s. refl) (λ j. refl) h

leaf_at : (src : List ℕ) (x : Token) (ps : Parts) (s : Sign) → ps ≡ end → s ≡ sign_of src x → IsFormed (leaf src x s) → IsFormed (atom src (token x ps))
unfolding atom
leaf_at src x end s e f h = subst (λ z. IsFormed (leaf src x z)) f h
leaf_at src x (token y ps) s e f h = absurd (cc)
leaf_at src x (child t ps) s e f h = absurd (cc)

empty_at : (src : List ℕ) (x y : Token) (ps : Parts) (s : Sign) → ps ≡ end → s ≡ sign_of src x → IsFormed (empty s x.line) → IsFormed (atom src (token x (token y ps)))
unfolding atom
empty_at src x y end s e f h = subst (λ z. IsFormed (empty z x.line)) f h
empty_at src x y (token z ps) s e f h = absurd (cc)
empty_at src x y (child t ps) s e f h = absurd (cc)

grouped_at : (src : List ℕ) (x y : Token) (t : Tree) (ps : Parts) (s : Sign) → ps ≡ end → s ≡ sign_of src x → IsFormed (grouped s x.line (expr src t) (spread src t (expr src t))) → IsFormed (atom src (token x (child t (token y ps))))
unfolding atom
grouped_at src x y t end s e f h = subst (λ z. IsFormed (grouped z x.line (expr src t) (spread src t (expr src t)))) f h
grouped_at src x y t (token z ps) s e f h = absurd (cc)
grouped_at src x y t (child u ps) s e f h = absurd (cc)

abbrev comprehension_of : List ℕ → ℕ → Tree → Tree → Parts → Expr
comprehension_of src line t u ps = comprehension line (expr src t) (map (text_of src) (names_of src u)) (exprs src ps)

abbrev pairs_in : List ℕ → ℕ → Tree → Tree → Parts → Expr
pairs_in src line t u ps = ast.Dictionary line (ast.pair (expr src t) (expr src u) (pairs_of (exprs src ps)))

spelled_at : (src : List ℕ) (x y : Token) (t u : Tree) (ps : Parts) (s : Sign) → s ≡ sign_of src x → IsFormed (spelled s (comprehension_of src x.line t u ps) (pairs_in src x.line t u ps)) → IsFormed (atom src (token x (child t (token y (child u ps)))))
unfolding atom
spelled_at src x y t u ps s f h = subst (λ z. IsFormed (spelled z (comprehension_of src x.line t u ps) (pairs_in src x.line t u ps))) f h

-- the items of a node that is an expression
spread_formed : (src : List ℕ) (t : Tree) → IsFormed (expr src t) → AreFormed (spread src t (expr src t))
unfolding expr flat spread IsFormed AreFormed
spread_formed src NoTree h = absurd h
spread_formed src (Grown rule.Values ps) h = h
spread_formed src (Grown _ ps) h = (h, tt)

-- ---- between round brackets

round_formed : (src : List ℕ) (x : Token) (ps : Parts) → sign.OpenRound ≡ sign_of src x → Leads src bracketed q2 ps AtomEnds → IsFormed (atom src (token x ps))
unfolding Leads empty grouped IsFormed AreFormed
round_formed src x end e h = absurd (no h)
round_formed src x (token y ps) e h = empty_at src x y ps sign.OpenRound (finished src ps h) e tt
round_formed src x (child t end) e h = absurd (no (kid src value h.0 t q3 (λ p. Leads src bracketed p end AtomEnds) h.1.0 h.1.1).1)
round_formed src x (child t (child u ps)) e h = absurd (kid src value h.0 t q3 (λ p. Leads src bracketed p (child u ps) AtomEnds) h.1.0 h.1.1).1.1.1
round_formed src x (child t (token y ps)) e h =
    let both = kid src value h.0 t q3 (λ p. Leads src bracketed p (token y ps) AtomEnds) h.1.0 h.1.1 in
    grouped_at src x y t ps sign.OpenRound (finished src ps both.1) e both.0

-- ---- between square brackets

data Closing (q : State) (k : State → Type 0) : Type 0 where
  closing : k q1 → Closing q k
  going_on : k q → Closing q k

closes : (q : State) (s w : Sign) (k : State → Type 0) → After (close_on q s w) k → Closing q k
closes q sign.CloseSquare w k h = closing h
closes q sign.CloseCurly w k h = closing h
closes q sign.For sign.For k h = going_on h
closes q sign.If sign.If k h = going_on h
closes q sign.Comma sign.Comma k h = going_on h
closes q _ _ k h = absurd h

one_source : (line : ℕ) (item : Expr) (names : List (List ℕ)) (a : Expr) → IsFormed item → IsFormed a → IsFormed (comprehension line item names (ast.more a ast.none))
unfolding comprehension IsFormed AreFormed
one_source line item names a f g = (f, (g, tt))

two_sources : (line : ℕ) (item : Expr) (names : List (List ℕ)) (a b : Expr) → IsFormed item → IsFormed a → IsFormed b → IsFormed (comprehension line item names (ast.more a (ast.more b ast.none)))
unfolding comprehension IsFormed AreFormed
two_sources line item names a b f g h = (f, (g, (h, tt)))

-- behind the filter of a comprehension
filtered : (src : List ℕ) (line : ℕ) (t : Tree) (names : List (List ℕ)) (x y : Token) (v w : Tree) (ps : Parts) → IsFormed (expr src t) → IsFormed (expr src v) → IsFormed (expr src w) → Leads src bracketed q3 ps AtomEnds
    → IsFormed (comprehension line (expr src t) names (exprs src (token x (child v (token y (child w ps))))))
unfolding Leads exprs
filtered src line t names x y v w end f g i h = absurd (no h)
filtered src line t names x y v w (child u ps) f g i h = absurd h.1.1
filtered src line t names x y v w (token z end) f g i h = two_sources line (expr src t) names (expr src v) (expr src w) f g i
filtered src line t names x y v w (token z (token a ps)) f g i h = absurd h
filtered src line t names x y v w (token z (child a ps)) f g i h = absurd h.1.1

-- behind the source
sourced : (src : List ℕ) (line : ℕ) (t : Tree) (names : List (List ℕ)) (x : Token) (v : Tree) (ps : Parts) → IsFormed (expr src t) → IsFormed (expr src v) → Leads src bracketed q9 ps AtomEnds
    → IsFormed (comprehension line (expr src t) names (exprs src (token x (child v ps))))
unfolding Leads exprs
sourced src line t names x v end f g h = absurd (no h)
sourced src line t names x v (child u ps) f g h = absurd h.1.1
sourced src line t names x v (token y end) f g h = one_source line (expr src t) names (expr src v) f g
sourced src line t names x v (token y (token z ps)) f g h = elim (closes q10 (plain (sign_of src y)) sign.If (λ p. Leads src bracketed p (token z ps) AtomEnds) h) [
  | closing l ↦ absurd l
  | going_on l ↦ absurd l
]
sourced src line t names x v (token y (child w ps)) f g h = elim (closes q10 (plain (sign_of src y)) sign.If (λ p. Leads src bracketed p (child w ps) AtomEnds) h) [
  | closing l ↦ absurd l.1.1
  | going_on l ↦
      let both = kid src value l.0 w q3 (λ p. Leads src bracketed p ps AtomEnds) l.1.0 l.1.1 in
      filtered src line t names x y v w ps f g both.0 both.1
]

-- behind the names
comprehended : (src : List ℕ) (line : ℕ) (t : Tree) (names : List (List ℕ)) (ps : Parts) → IsFormed (expr src t) → Leads src bracketed q7 ps AtomEnds → IsFormed (comprehension line (expr src t) names (exprs src ps))
unfolding Leads
comprehended src line t names end f h = absurd (no h)
comprehended src line t names (child u ps) f h = absurd h.1.1
comprehended src line t names (token x end) f h = absurd (no h)
comprehended src line t names (token x (token y ps)) f h = absurd h
comprehended src line t names (token x (child v ps)) f h =
    let both = kid src value h.0 v q9 (λ p. Leads src bracketed p ps AtomEnds) h.1.0 h.1.1 in
    sourced src line t names x v ps f both.0 both.1

square_behind : (src : List ℕ) (x y : Token) (t : Tree) (ps : Parts) → sign.OpenSquare ≡ sign_of src x → IsFormed (expr src t) → Closing q6 (λ p. Leads src bracketed p ps AtomEnds) → IsFormed (atom src (token x (child t (token y ps))))
unfolding Leads grouped spelled IsFormed
square_behind src x y t ps e f (closing l) = grouped_at src x y t ps sign.OpenSquare (finished src ps l) e (spread_formed src t f)
square_behind src x y t end e f (going_on l) = absurd (no l)
square_behind src x y t (token z ps) e f (going_on l) = absurd l
square_behind src x y t (child u ps) e f (going_on l) =
    let both = kid src heading l.0 u q7 (λ p. Leads src bracketed p ps AtomEnds) l.1.0 l.1.1 in
    spelled_at src x y t u ps sign.OpenSquare e (comprehended src x.line t (map (text_of src) (names_of src u)) ps f both.1)

square_formed : (src : List ℕ) (x : Token) (ps : Parts) → sign.OpenSquare ≡ sign_of src x → Leads src bracketed q4 ps AtomEnds → IsFormed (atom src (token x ps))
unfolding Leads empty IsFormed AreFormed
square_formed src x end e h = absurd (no h)
square_formed src x (token y ps) e h = empty_at src x y ps sign.OpenSquare (finished src ps h) e tt
square_formed src x (child t end) e h = absurd (no (kid src value h.0 t q5 (λ p. Leads src bracketed p end AtomEnds) h.1.0 h.1.1).1)
square_formed src x (child t (child u ps)) e h = absurd (kid src value h.0 t q5 (λ p. Leads src bracketed p (child u ps) AtomEnds) h.1.0 h.1.1).1.1.1
square_formed src x (child t (token y ps)) e h =
    let both = kid src value h.0 t q5 (λ p. Leads src bracketed p (token y ps) AtomEnds) h.1.0 h.1.1 in
    square_behind src x y t ps e both.0 (closes q6 (plain (sign_of src y)) sign.For (λ p. Leads src bracketed p ps AtomEnds) both.1)

-- ---- between curly brackets

mutual
  unfolding Leads exprs AreFormed

  -- behind a value
  pairs_values : (src : List ℕ) (ps : Parts) → Leads src bracketed q14 ps AtomEnds → AreFormed (exprs src ps)
  pairs_values src end h = tt
  pairs_values src (child t ps) h = absurd h.1.1
  pairs_values src (token x ps) h = elim (closes q15 (plain (sign_of src x)) sign.Comma (λ p. Leads src bracketed p ps AtomEnds) h) [
    | closing l ↦ none_behind src ps l
    | going_on l ↦ comma_values src ps l
  ]

  none_behind : (src : List ℕ) (ps : Parts) → Leads src bracketed q1 ps AtomEnds → AreFormed (exprs src ps)
  none_behind src end h = tt
  none_behind src (token x ps) h = absurd h
  none_behind src (child t ps) h = absurd h.1.1

  -- behind a comma
  comma_values : (src : List ℕ) (ps : Parts) → Leads src bracketed q15 ps AtomEnds → AreFormed (exprs src ps)
  comma_values src end h = tt
  comma_values src (token x ps) h = none_behind src ps h
  comma_values src (child t ps) h =
      let both = kid src value h.0 t q12 (λ p. Leads src bracketed p ps AtomEnds) h.1.0 h.1.1 in
      (both.0, key_values src ps both.1)

  -- behind a key
  key_values : (src : List ℕ) (ps : Parts) → Leads src bracketed q12 ps AtomEnds → AreFormed (exprs src ps)
  key_values src end h = tt
  key_values src (child t ps) h = absurd h.1.1
  key_values src (token x ps) h = colon_values src ps h

  -- behind the colon
  colon_values : (src : List ℕ) (ps : Parts) → Leads src bracketed q13 ps AtomEnds → AreFormed (exprs src ps)
  colon_values src end h = tt
  colon_values src (token x ps) h = absurd h
  colon_values src (child t ps) h =
      let both = kid src value h.0 t q14 (λ p. Leads src bracketed p ps AtomEnds) h.1.0 h.1.1 in
      (both.0, pairs_values src ps both.1)

pairs_formed : (es : Exprs) → AreFormed es → ArePairs (pairs_of es)
unfolding pairs_of AreFormed ArePairs
pairs_formed ast.none h = tt
pairs_formed (ast.more a ast.none) h = tt
pairs_formed (ast.more a (ast.more b es)) h = (h.0, (h.1.0, pairs_formed es h.1.1))

curly_formed : (src : List ℕ) (x : Token) (ps : Parts) → sign.OpenCurly ≡ sign_of src x → Leads src bracketed q11 ps AtomEnds → IsFormed (atom src (token x ps))
unfolding Leads empty spelled IsFormed ArePairs
curly_formed src x end e h = absurd (no h)
curly_formed src x (token y ps) e h = empty_at src x y ps sign.OpenCurly (finished src ps h) e tt
curly_formed src x (child t end) e h = absurd (no (kid src value h.0 t q12 (λ p. Leads src bracketed p end AtomEnds) h.1.0 h.1.1).1)
curly_formed src x (child t (child u ps)) e h = absurd (kid src value h.0 t q12 (λ p. Leads src bracketed p (child u ps) AtomEnds) h.1.0 h.1.1).1.1.1
curly_formed src x (child t (token y end)) e h = absurd (no (kid src value h.0 t q12 (λ p. Leads src bracketed p (token y end) AtomEnds) h.1.0 h.1.1).1)
curly_formed src x (child t (token y (token z ps))) e h = absurd (kid src value h.0 t q12 (λ p. Leads src bracketed p (token y (token z ps)) AtomEnds) h.1.0 h.1.1).1
curly_formed src x (child t (token y (child u ps))) e h =
    let a = kid src value h.0 t q12 (λ p. Leads src bracketed p (token y (child u ps)) AtomEnds) h.1.0 h.1.1 in
    let b = kid src value a.1.0 u q14 (λ p. Leads src bracketed p ps AtomEnds) a.1.1.0 a.1.1.1 in
    spelled_at src x y t u ps sign.OpenCurly e (a.0, (b.0, pairs_formed (exprs src ps) (pairs_values src ps b.1)))

-- ---- the whole

atom_by : (src : List ℕ) (x : Token) (ps : Parts) (s : Sign) → s ≡ sign_of src x → After (atom_on (plain s)) (λ p. Leads src bracketed p ps AtomEnds) → IsFormed (atom src (token x ps))
unfolding leaf IsFormed
atom_by src x ps sign.Name e h = leaf_at src x ps sign.Name (finished src ps h) e tt
atom_by src x ps sign.Init e h = leaf_at src x ps sign.Init (finished src ps h) e tt
atom_by src x ps sign.SelfName e h = leaf_at src x ps sign.SelfName (finished src ps h) e tt
atom_by src x ps sign.Number e h = leaf_at src x ps sign.Number (finished src ps h) e tt
atom_by src x ps sign.Text e h = leaf_at src x ps sign.Text (finished src ps h) e tt
atom_by src x ps sign.None e h = leaf_at src x ps sign.None (finished src ps h) e tt
atom_by src x ps sign.True e h = leaf_at src x ps sign.True (finished src ps h) e tt
atom_by src x ps sign.False e h = leaf_at src x ps sign.False (finished src ps h) e tt
atom_by src x ps sign.OpenRound e h = round_formed src x ps e h
atom_by src x ps sign.OpenSquare e h = square_formed src x ps e h
atom_by src x ps sign.OpenCurly e h = curly_formed src x ps e h
atom_by src x ps _ e h = absurd h

atom_formed : (src : List ℕ) (qs : Parts) → Leads src bracketed q0 qs AtomEnds → IsFormed (atom src qs)
unfolding Leads
atom_formed src end h = absurd (no h)
atom_formed src (child t ps) h = absurd h.1.1
atom_formed src (token x ps) h = atom_by src x ps (sign_of src x) refl h

no_sole : (src : List ℕ) (qs : Parts) (t : Tree) → Leads src bracketed q0 qs AtomEnds → qs ≡ child t end → ⊥
unfolding Leads
no_sole src qs t h e = let l : Leads src bracketed q0 (child t end) AtomEnds = subst (λ z. Leads src bracketed q0 z AtomEnds) e h in l.1.1

pub atom_good : (src : List ℕ) (qs : Parts) → Leads src bracketed q0 qs AtomEnds → IsFormed (expr src (wrap rule.Atom qs))
unfolding expr
atom_good src qs h = wrapped (λ t. IsFormed (expr src t)) rule.Atom qs (λ n. atom_formed src qs h) (λ t s. absurd (no_sole src qs t h s))
