-- Statements and classes whose parts go their rule's way have a form.
use Rattle.std.proofs.Common.{Bool, true, false, ◌≡◌, ◌++◌, List, [], ◌∷◌, ℕ, Option, Some, None, refl, sym, ap, subst, ◌∙◌, if◌then◌else◌}
use Rattle.std.proofs.lemmas.Bool.{false≢true as no}
use Rattle.lx_token.specs.declared.tokens.Token.{Token}
use Rattle.lx_grammar.specs.declared.grammar.Rule.TheVariants as rule
use Rattle.lx_grammar.specs.declared.sign.Sign.{Sign}
use Rattle.lx_grammar.specs.declared.sign.Sign.TheVariants as sign
use Rattle.lx_grammar.specs.Derives.{Tree, Grown, NoTree, Parts, end, token, child, wrap}
use Rattle.lx_syntax.specs.Ast as ast
use Rattle.lx_syntax.specs.Ast.{Class, Expr, Param, Stmt}
use Rattle.lx_syntax.specs.Classes.{block_of, body_of, class_of, class_with, classes, classes_in, init_of, is_assign, params_in, params_of}
use Rattle.lx_syntax.specs.Convert.{bound, branches, expr, is_name, line_of, loop_, names_among, otherwise, place_of, sign_of, simple, stmt, stmts, suite, tokens}
use Rattle.lx_formed.specs.Formed.{AreBranches, AreClasses, AreFormed, AreParams, AreStated, IsFormed, IsPlaced, IsStated}
use Rattle.lx_formed.proofs.Steps.{After, Ended, Good, IsSpot, Kind, Leads, State, alone, block, bound_on, class_step, conditional, default_on, else_on, end_on, ends, file_step, heading, init_step, looped, loose, making, order, placed, plain, q0, q1, q2, q3, q4, q5, q6, q7, simple_at, simple_step, spot_, value}
use Rattle.lx_formed.proofs.Inverting.{Child, NotSole, Word, child_first, kid, over, sole, word_first, wrapped}

-- ---- places

abbrev PlaceEnds : State → Type 0
PlaceEnds = Ended (ends rule.Place)

place_formed : (src : List ℕ) (qs : Parts) → NotSole qs → Leads src placed q0 qs PlaceEnds → IsSpot (place_of src (Grown rule.Place qs))
unfolding Leads place_of IsPlaced
place_formed src end n h = absurd (no h)
place_formed src (token x end) n h = tt
place_formed src (token x (token y ps)) n h = absurd h
place_formed src (token x (child t ps)) n h = absurd h.1.1
place_formed src (child t end) n h = absurd n
place_formed src (child t (child u ps)) n h = absurd (kid src value h.0 t q1 (λ p. Leads src placed p (child u ps) PlaceEnds) h.1.0 h.1.1).1.1.1
place_formed src (child t (token x end)) n h = absurd (no (kid src value h.0 t q1 (λ p. Leads src placed p (token x end) PlaceEnds) h.1.0 h.1.1).1)
place_formed src (child t (token x (child u ps))) n h = absurd (kid src value h.0 t q1 (λ p. Leads src placed p (token x (child u ps)) PlaceEnds) h.1.0 h.1.1).1.1.1
place_formed src (child t (token x (token y end))) n h = (kid src value h.0 t q1 (λ p. Leads src placed p (token x (token y end)) PlaceEnds) h.1.0 h.1.1).0
place_formed src (child t (token x (token y (token z ps)))) n h = absurd (kid src value h.0 t q1 (λ p. Leads src placed p (token x (token y (token z ps))) PlaceEnds) h.1.0 h.1.1).1
place_formed src (child t (token x (token y (child u ps)))) n h = absurd (kid src value h.0 t q1 (λ p. Leads src placed p (token x (token y (child u ps))) PlaceEnds) h.1.0 h.1.1).1.1.1

pub place_good : (src : List ℕ) (qs : Parts) → Leads src placed q0 qs PlaceEnds → Good src spot_ (wrap rule.Place qs)
place_good src qs h = wrapped (λ t. Good src spot_ t) rule.Place qs (λ n. place_formed src qs n h) (λ t s. absurd (no (sole src value placed q0 q1 qs PlaceEnds t (λ j. refl) h s).1))

-- ---- simple statements

abbrev SimpleEnds : State → Type 0
SimpleEnds = Ended (ends rule.Simple)

-- what a simple statement begins with
data Begun (src : List ℕ) (t : Tree) (k : State → Type 0) : Type 0 where
  by_value : IsFormed (expr src t) → k q1 → Begun src t k
  by_place : IsSpot (place_of src t) → k q2 → Begun src t k

begun : (src : List ℕ) (j : Kind) (t : Tree) (k : State → Type 0) → Good src j t → After (simple_at j) k → Begun src t k
begun src value t k g h = by_value g h
begun src spot_ t k g h = by_place g h
begun src _ t k g h = absurd h

record BoundThere (s : Sign) (k : State → Type 0) : Type 0 where
  formed : (line : ℕ) (o : Option ast.Place) (e : Expr) → IsSpot o → IsFormed e → IsStated (bound line s o e)
  on : k q3

assigned : (line : ℕ) (o : Option ast.Place) (e : Expr) → IsSpot o → IsFormed e → IsStated (bound line sign.Assign o e)
unfolding bound IsStated
assigned line None e f g = absurd f
assigned line (Some p) e f g = (f, g)

added : (line : ℕ) (o : Option ast.Place) (e : Expr) → IsSpot o → IsFormed e → IsStated (bound line sign.AddAssign o e)
unfolding bound IsStated
added line None e f g = absurd f
added line (Some p) e f g = (f, g)

bound_there : (s : Sign) (k : State → Type 0) → After (bound_on (plain s)) k → BoundThere s k
bound_there sign.Assign k h = record { formed = assigned; on = h }
bound_there sign.AddAssign k h = record { formed = added; on = h }
bound_there _ k h = absurd h

simple_behind : (src : List ℕ) (t : Tree) (ps : Parts) → NotSole (child t ps) → Begun src t (λ p. Leads src simple_step p ps SimpleEnds) → IsStated (simple src (child t ps))
unfolding Leads simple IsStated
simple_behind src t end n b = absurd n
simple_behind src t (child u ps) n (by_value f h) = absurd h.1.1
simple_behind src t (token x end) n (by_value f h) = f
simple_behind src t (token x (token y ps)) n (by_value f h) = absurd h
simple_behind src t (token x (child u ps)) n (by_value f h) = absurd h.1.1
simple_behind src t (child u ps) n (by_place f h) = absurd h.1.1
simple_behind src t (token x end) n (by_place f h) = absurd (no (bound_there (sign_of src x) (λ p. Leads src simple_step p end SimpleEnds) h).on)
simple_behind src t (token x (token y ps)) n (by_place f h) = absurd (bound_there (sign_of src x) (λ p. Leads src simple_step p (token y ps) SimpleEnds) h).on
simple_behind src t (token x (child u ps)) n (by_place f h) =
    let there = bound_there (sign_of src x) (λ p. Leads src simple_step p (child u ps) SimpleEnds) h in
    let both = kid src value there.on.0 u q1 (λ p. Leads src simple_step p ps SimpleEnds) there.on.1.0 there.on.1.1 in
    there.formed (line_of t) (place_of src t) (expr src u) f both.0

simple_formed : (src : List ℕ) (qs : Parts) → NotSole qs → Leads src simple_step q0 qs SimpleEnds → IsStated (simple src qs)
unfolding Leads simple IsStated
simple_formed src end n h = absurd (no h)
simple_formed src (token x ps) n h = tt
simple_formed src (child t ps) n h = simple_behind src t ps n (begun src h.0 t (λ p. Leads src simple_step p ps SimpleEnds) h.1.0 h.1.1)

sole_simple : (src : List ℕ) (qs : Parts) (t : Tree) → Leads src simple_step q0 qs SimpleEnds → qs ≡ child t end → ⊥
unfolding Leads
sole_simple src qs t h e =
    let l : Leads src simple_step q0 (child t end) SimpleEnds = subst (λ z. Leads src simple_step q0 z SimpleEnds) e h in
    elim (begun src l.0 t SimpleEnds l.1.0 l.1.1) [
      | by_value f m ↦ no m
      | by_place f m ↦ no m
    ]

pub simple_good : (src : List ℕ) (qs : Parts) → Leads src simple_step q0 qs SimpleEnds → IsStated (stmt src (wrap rule.Simple qs))
unfolding stmt
simple_good src qs h = wrapped (λ t. IsStated (stmt src t)) rule.Simple qs (λ n. simple_formed src qs n h) (λ t s. absurd (sole_simple src qs t h s))

-- ---- one statement, and blocks

abbrev StmtEnds : State → Type 0
StmtEnds = Ended (ends rule.Stmt)

alone_formed : (src : List ℕ) (qs : Parts) (P : Type 0) → NotSole qs → Leads src (alone order) q0 qs StmtEnds → P
unfolding Leads
alone_formed src end P n h = absurd (no h)
alone_formed src (token x ps) P n h = absurd h
alone_formed src (child t end) P n h = absurd n
alone_formed src (child t (token x ps)) P n h = absurd (kid src order h.0 t q1 (λ p. Leads src (alone order) p (token x ps) StmtEnds) h.1.0 h.1.1).1
alone_formed src (child t (child u ps)) P n h = absurd (kid src order h.0 t q1 (λ p. Leads src (alone order) p (child u ps) StmtEnds) h.1.0 h.1.1).1.1.1

pub stmt_good : (src : List ℕ) (qs : Parts) → Leads src (alone order) q0 qs StmtEnds → IsStated (stmt src (wrap rule.Stmt qs))
stmt_good src qs h = wrapped (λ t. IsStated (stmt src t)) rule.Stmt qs (λ n. alone_formed src qs (IsStated (stmt src (Grown rule.Stmt qs))) n h) (λ t s. (sole src order (alone order) q0 q1 qs StmtEnds t (λ j. refl) h s).0)

lone_formed : (src : List ℕ) (t : Tree) → IsStated (stmt src t) → AreStated (suite src t (stmt src t))
unfolding stmt suite IsStated AreStated
lone_formed src NoTree h = absurd h
lone_formed src (Grown rule.Suite ps) h = absurd h
lone_formed src (Grown _ ps) h = (h, tt)

block_formed : (src : List ℕ) (ps : Parts) (k : State → Type 0) → Leads src (loose order) q0 ps k → AreStated (stmts src ps)
unfolding Leads stmts AreStated
block_formed src end k h = tt
block_formed src (token x ps) k h = block_formed src ps k h
block_formed src (child t ps) k h =
    let both = kid src order h.0 t q0 (λ p. Leads src (loose order) p ps k) h.1.0 h.1.1 in
    (both.0, block_formed src ps k both.1)

pub suite_good : (src : List ℕ) (qs : Parts) (k : State → Type 0) → Leads src (loose order) q0 qs k → Good src block (wrap rule.Suite qs)
unfolding suite
suite_good src qs k h = wrapped (λ t. Good src block t) rule.Suite qs (λ n. block_formed src qs k h) (λ t s. lone_formed src t (sole src order (loose order) q0 q0 qs k t (λ j. refl) h s).0)

-- ---- conditions

abbrev IfEnds : State → Type 0
IfEnds = Ended (ends rule.If)

data ElseThere (k : State → Type 0) : Type 0 where
  by_else : k q5 → ElseThere k
  by_elif : k q1 → ElseThere k

else_there : (s : Sign) (k : State → Type 0) → k (else_on s) → ElseThere k
else_there sign.Else k h = by_else h
else_there _ k h = by_elif h

abbrev ArmsFormed : List ℕ → Parts → Type 0
ArmsFormed src ps = AreBranches (branches src ps) × AreStated (otherwise src ps)

no_arms : (src : List ℕ) → ArmsFormed src end
unfolding branches otherwise AreBranches AreStated
no_arms src = (tt, tt)

else_formed : (src : List ℕ) (x y : Token) (t : Tree) (ps : Parts) → AreStated (suite src t (stmt src t)) → ArmsFormed src (token x (token y (child t ps)))
unfolding branches otherwise AreBranches
else_formed src x y t ps f = (tt, f)

arm_formed : (src : List ℕ) (x y : Token) (t u : Tree) (ps : Parts) → IsFormed (expr src t) → AreStated (suite src u (stmt src u)) → ArmsFormed src ps → ArmsFormed src (token x (child t (token y (child u ps))))
unfolding branches otherwise AreBranches
arm_formed src x y t u ps f g h = ((f, (g, h.0)), h.1)

mutual
  unfolding Leads

  -- behind a word, a condition and its block
  arms_behind : (src : List ℕ) (x : Token) (ps : Parts) → Leads src conditional q1 ps IfEnds → ArmsFormed src (token x ps)
  arms_behind src x end h = absurd (no h)
  arms_behind src x (token y ps) h = absurd h
  arms_behind src x (child t end) h = absurd (no (kid src value h.0 t q2 (λ p. Leads src conditional p end IfEnds) h.1.0 h.1.1).1)
  arms_behind src x (child t (child u ps)) h = absurd (kid src value h.0 t q2 (λ p. Leads src conditional p (child u ps) IfEnds) h.1.0 h.1.1).1.1.1
  arms_behind src x (child t (token y end)) h = absurd (no (kid src value h.0 t q2 (λ p. Leads src conditional p (token y end) IfEnds) h.1.0 h.1.1).1)
  arms_behind src x (child t (token y (token z ps))) h = absurd (kid src value h.0 t q2 (λ p. Leads src conditional p (token y (token z ps)) IfEnds) h.1.0 h.1.1).1
  arms_behind src x (child t (token y (child u ps))) h =
      let a = kid src value h.0 t q2 (λ p. Leads src conditional p (token y (child u ps)) IfEnds) h.1.0 h.1.1 in
      let b = kid src block a.1.0 u q4 (λ p. Leads src conditional p ps IfEnds) a.1.1.0 a.1.1.1 in
      arm_formed src x y t u ps a.0 b.0 (arms_left src ps b.1)

  arms_left : (src : List ℕ) (ps : Parts) → Leads src conditional q4 ps IfEnds → ArmsFormed src ps
  arms_left src end h = no_arms src
  arms_left src (child t ps) h = absurd h.1.1
  arms_left src (token x ps) h = elim (else_there (plain (sign_of src x)) (λ p. Leads src conditional p ps IfEnds) h) [
    | by_else l ↦ else_behind src x ps l
    | by_elif l ↦ arms_behind src x ps l
  ]

  else_behind : (src : List ℕ) (x : Token) (ps : Parts) → Leads src conditional q5 ps IfEnds → ArmsFormed src (token x ps)
  else_behind src x end h = absurd (no h)
  else_behind src x (child t ps) h = absurd h.1.1
  else_behind src x (token y end) h = absurd (no h)
  else_behind src x (token y (token z ps)) h = absurd h
  else_behind src x (token y (child t ps)) h =
      let both = kid src block h.0 t q7 (λ p. Leads src conditional p ps IfEnds) h.1.0 h.1.1 in
      else_formed src x y t ps both.0

if_formed : (src : List ℕ) (qs : Parts) → Leads src conditional q0 qs IfEnds → ArmsFormed src qs
unfolding Leads
if_formed src end h = absurd (no h)
if_formed src (child t ps) h = absurd h.1.1
if_formed src (token x ps) h = arms_behind src x ps h

sole_if : (src : List ℕ) (qs : Parts) (t : Tree) → Leads src conditional q0 qs IfEnds → qs ≡ child t end → ⊥
unfolding Leads
sole_if src qs t h e = let l : Leads src conditional q0 (child t end) IfEnds = subst (λ z. Leads src conditional q0 z IfEnds) e h in l.1.1

pub if_good : (src : List ℕ) (qs : Parts) → Leads src conditional q0 qs IfEnds → IsStated (stmt src (wrap rule.If qs))
unfolding stmt IsStated
if_good src qs h = wrapped (λ t. IsStated (stmt src t)) rule.If qs (λ n. if_formed src qs h) (λ t s. absurd (sole_if src qs t h s))

-- ---- loops

abbrev ForEnds : State → Type 0
ForEnds = Ended (ends rule.For)

loop_formed : (src : List ℕ) (x y z : Token) (n t u : Tree) (ps : Parts) → ps ≡ end → IsFormed (expr src t) → AreStated (suite src u (stmt src u)) → IsStated (loop_ src (token x (child n (token y (child t (token z (child u ps)))))))
unfolding loop_ IsStated
loop_formed src x y z n t u end e f g = (f, g)
loop_formed src x y z n t u (token w ps) e f g = absurd (cc)
loop_formed src x y z n t u (child w ps) e f g = absurd (cc)

for_formed : (src : List ℕ) (qs : Parts) → Leads src looped q0 qs ForEnds → IsStated (loop_ src qs)
for_formed src qs h =
    let k : State → Type 0 = ForEnds in
    let a : Word src looped q0 qs k = word_first src looped q0 qs k (λ j. refl) no h in
    let b : Child src heading looped q2 a.rest k = child_first src heading looped q1 q2 a.rest k (λ s. refl) (λ j. refl) no a.on in
    let c : Word src looped q2 b.rest k = word_first src looped q2 b.rest k (λ j. refl) no b.on in
    let d : Child src value looped q4 c.rest k = child_first src value looped q3 q4 c.rest k (λ s. refl) (λ j. refl) no c.on in
    let e : Word src looped q4 d.rest k = word_first src looped q4 d.rest k (λ j. refl) no d.on in
    let f : Child src block looped q6 e.rest k = child_first src block looped q5 q6 e.rest k (λ s. refl) (λ j. refl) no e.on in
    let last : f.rest ≡ end = over src looped q6 f.rest k (λ s. refl) (λ j. refl) f.on in
    let all : qs ≡ token a.first (child b.tree (token c.first (child d.tree (token e.first (child f.tree f.rest))))) =
    a.is ∙ ap (token a.first) (b.is ∙ ap (child b.tree) (c.is ∙ ap (token c.first) (d.is ∙ ap (child d.tree) (e.is ∙ ap (token e.first) f.is)))) in
    subst (λ zs. IsStated (loop_ src zs)) (sym all) (loop_formed src a.first c.first e.first b.tree d.tree f.tree f.rest last d.good f.good)

sole_for : (src : List ℕ) (qs : Parts) (t : Tree) → Leads src looped q0 qs ForEnds → qs ≡ child t end → ⊥
unfolding Leads
sole_for src qs t h e = let l : Leads src looped q0 (child t end) ForEnds = subst (λ z. Leads src looped q0 z ForEnds) e h in l.1.1

pub for_good : (src : List ℕ) (qs : Parts) → Leads src looped q0 qs ForEnds → IsStated (stmt src (wrap rule.For qs))
unfolding stmt
for_good src qs h = wrapped (λ t. IsStated (stmt src t)) rule.For qs (λ n. for_formed src qs h) (λ t s. absurd (sole_for src qs t h s))

-- ---- `__init__`

abbrev InitEnds : State → Type 0
InitEnds = Ended (ends rule.Init)

plain_assign : (s : Sign) → is_assign (plain s) ≡ is_assign s
unfolding is_assign
plain_assign sign.Init = refl
plain_assign sign.SelfName = refl
plain_assign _ = refl

data DefaultThere (b : Bool) (k : State → Type 0) : Type 0 where
  defaulted : b ≡ true → k q1 → DefaultThere b k
  simply : b ≡ false → k q3 → DefaultThere b k

default_there : (b : Bool) (k : State → Type 0) → k (default_on b) → DefaultThere b k
default_there true k h = defaulted refl h
default_there false k h = simply refl h

-- ---- the block of an `__init__`

mutual
  unfolding Leads body_of

  block_left : (src : List ℕ) (ps : Parts) → Leads src init_step q3 ps InitEnds → AreStated (body_of src ps)
  block_left src end h = absurd (no h)
  block_left src (token x ps) h = elim (default_there (is_assign (plain (sign_of src x))) (λ p. Leads src init_step p ps InitEnds) h) [
    | defaulted e l ↦ value_left src ps l
    | simply e l ↦ block_left src ps l
  ]
  block_left src (child t end) h = (kid src block h.0 t q2 (λ p. Leads src init_step p end InitEnds) h.1.0 h.1.1).0
  block_left src (child t (token x ps)) h = absurd (kid src block h.0 t q2 (λ p. Leads src init_step p (token x ps) InitEnds) h.1.0 h.1.1).1
  block_left src (child t (child u ps)) h = absurd (kid src block h.0 t q2 (λ p. Leads src init_step p (child u ps) InitEnds) h.1.0 h.1.1).1.1.1

  -- behind `=`
  value_left : (src : List ℕ) (ps : Parts) → Leads src init_step q1 ps InitEnds → AreStated (body_of src ps)
  value_left src end h = absurd (no h)
  value_left src (token x ps) h = absurd h
  value_left src (child t end) h = absurd (no (kid src value h.0 t q3 (λ p. Leads src init_step p end InitEnds) h.1.0 h.1.1).1)
  value_left src (child t (token x ps)) h = block_left src (token x ps) (kid src value h.0 t q3 (λ p. Leads src init_step p (token x ps) InitEnds) h.1.0 h.1.1).1
  value_left src (child t (child u ps)) h = block_left src (child u ps) (kid src value h.0 t q3 (λ p. Leads src init_step p (child u ps) InitEnds) h.1.0 h.1.1).1

-- ---- its parameters

-- parts that go their way behind the first token
data Inside (src : List ℕ) (ps : Parts) : Type 0 where
  by_main : Leads src init_step q3 ps InitEnds → Inside src ps
  by_assign : Leads src init_step q1 ps InitEnds → Inside src ps

behind_token : (src : List ℕ) (x : Token) (ps : Parts) → Inside src (token x ps) → Inside src ps
unfolding Leads
behind_token src x ps (by_main h) = elim (default_there (is_assign (plain (sign_of src x))) (λ p. Leads src init_step p ps InitEnds) h) [
  | defaulted e l ↦ by_assign l
  | simply e l ↦ by_main l
]
behind_token src x ps (by_assign h) = absurd h

record Default (src : List ℕ) (t : Tree) (ps : Parts) : Type 0 where
  formed : IsFormed (expr src t)
  inside : Inside src ps

behind_assign : (src : List ℕ) (a : Token) (t : Tree) (ps : Parts) → is_assign (sign_of src a) ≡ true → Inside src (token a (child t ps)) → Default src t ps
unfolding Leads
behind_assign src a t ps e (by_main h) =
    let l : Leads src init_step q1 (child t ps) InitEnds = subst (λ b. Leads src init_step (default_on b) (child t ps) InitEnds) (plain_assign (sign_of src a) ∙ e) h in
    let both = kid src value l.0 t q3 (λ p. Leads src init_step p ps InitEnds) l.1.0 l.1.1 in
    record { formed = both.0; inside = by_main both.1 }
behind_assign src a t ps e (by_assign h) = absurd h

if_params : (b : Bool) (xs ys : List Param) → (b ≡ true → AreParams xs) → (b ≡ false → AreParams ys) → AreParams (if b then xs else ys)
if_params true xs ys f g = f refl
if_params false xs ys f g = g refl

plain_param : (name : List ℕ) (ps : List Param) → AreParams ps → AreParams (record { name = name; default = ast.none } ∷ ps)
unfolding AreParams AreFormed
plain_param name ps h = (tt, h)

default_param : (name : List ℕ) (e : Expr) (ps : List Param) → IsFormed e → AreParams ps → AreParams (record { name = name; default = ast.more e ast.none } ∷ ps)
unfolding AreParams AreFormed
default_param name e ps f h = ((f, tt), h)

no_params : AreParams []
unfolding AreParams
no_params = tt

params_left : (src : List ℕ) (ps : Parts) → Inside src ps → AreParams (params_in src ps)
unfolding params_in
params_left src end h = no_params
params_left src (child t ps) h = no_params
params_left src (token c end) h = no_params
params_left src (token c (child t ps)) h = no_params
params_left src (token c (token x end)) h = if_params (is_name (sign_of src x)) _ [] (λ n. plain_param _ [] no_params) (λ n. no_params)
params_left src (token c (token x (child t ps))) h = if_params (is_name (sign_of src x)) _ [] (λ n. plain_param _ [] no_params) (λ n. no_params)
params_left src (token c (token x (token a end))) h =
    let left : Inside src (token a end) = behind_token src x (token a end) (behind_token src c (token x (token a end)) h) in
    if_params (is_name (sign_of src x)) _ [] (λ n. plain_param _ (params_in src (token a end)) (params_left src (token a end) left)) (λ n. no_params)
params_left src (token c (token x (token a (token b ps)))) h =
    let left : Inside src (token a (token b ps)) = behind_token src x (token a (token b ps)) (behind_token src c (token x (token a (token b ps))) h) in
    if_params (is_name (sign_of src x)) _ [] (λ n. plain_param _ (params_in src (token a (token b ps))) (params_left src (token a (token b ps)) left)) (λ n. no_params)
params_left src (token c (token x (token a (child t ps)))) h =
    let left : Inside src (token a (child t ps)) = behind_token src x (token a (child t ps)) (behind_token src c (token x (token a (child t ps))) h) in
    if_params (is_name (sign_of src x)) _ [] (λ n. if_params (is_assign (sign_of src a)) _ _
    (λ e. let there = behind_assign src a t ps e left in default_param _ (expr src t) (params_in src ps) there.formed (params_left src ps there.inside))
    (λ e. plain_param _ (params_in src (token a (child t ps))) (params_left src (token a (child t ps)) left))) (λ n. no_params)

params_formed : (src : List ℕ) (qs : Parts) → Leads src init_step q0 qs InitEnds → AreParams (params_of src (Grown rule.Init qs))
unfolding Leads params_of
params_formed src end h = no_params
params_formed src (child t ps) h = no_params
params_formed src (token d end) h = no_params
params_formed src (token d (child t ps)) h = no_params
params_formed src (token d (token i end)) h = no_params
params_formed src (token d (token i (child t ps))) h = no_params
params_formed src (token d (token i (token o end))) h = no_params
params_formed src (token d (token i (token o (child t ps)))) h = no_params
params_formed src (token d (token i (token o (token s ps)))) h =
    params_left src ps (behind_token src s ps (behind_token src o (token s ps) (behind_token src i (token o (token s ps)) (by_main h))))

init_block : (src : List ℕ) (qs : Parts) → Leads src init_step q0 qs InitEnds → AreStated (block_of src (Grown rule.Init qs))
unfolding Leads block_of body_of
init_block src end h = absurd (no h)
init_block src (child t ps) h = absurd h.1.1
init_block src (token x ps) h = block_left src ps h

sole_init : (src : List ℕ) (qs : Parts) (t : Tree) → Leads src init_step q0 qs InitEnds → qs ≡ child t end → ⊥
unfolding Leads
sole_init src qs t h e = let l : Leads src init_step q0 (child t end) InitEnds = subst (λ z. Leads src init_step q0 z InitEnds) e h in l.1.1

pub init_good : (src : List ℕ) (qs : Parts) → Leads src init_step q0 qs InitEnds → Good src making (wrap rule.Init qs)
init_good src qs h = wrapped (λ t. Good src making t) rule.Init qs (λ n. (params_formed src qs h, init_block src qs h)) (λ t s. absurd (sole_init src qs t h s))

-- ---- classes

abbrev ClassEnds : State → Type 0
ClassEnds = Ended (ends rule.Class)

making_there : (src : List ℕ) (ps : Parts) → Leads src class_step q2 ps ClassEnds → Good src making (init_of ps)
unfolding Leads init_of
making_there src end h = absurd (no h)
making_there src (token x ps) h = making_there src ps h
making_there src (child t ps) h = (kid src making h.0 t q1 (λ p. Leads src class_step p ps ClassEnds) h.1.0 h.1.1).0

class_formed : (src : List ℕ) (line : ℕ) (names : List Token) (t : Tree) → Good src making t → AreClasses (class_with src line names t)
unfolding AreClasses
class_formed src line [] t h = tt
class_formed src line (name ∷ bases) t h = (h, tt)

class_there : (src : List ℕ) (qs : Parts) → Leads src class_step q0 qs ClassEnds → AreClasses (class_of src (Grown rule.Class qs))
unfolding Leads class_of init_of
class_there src end h = absurd (no h)
class_there src (child t ps) h = absurd h.1.1
class_there src (token x ps) h = class_formed src (line_of (Grown rule.Class (token x ps))) (names_among src (tokens (token x ps))) (init_of ps) (making_there src ps h)

sole_class : (src : List ℕ) (qs : Parts) (t : Tree) → Leads src class_step q0 qs ClassEnds → qs ≡ child t end → ⊥
unfolding Leads
sole_class src qs t h e = let l : Leads src class_step q0 (child t end) ClassEnds = subst (λ z. Leads src class_step q0 z ClassEnds) e h in l.1.1

pub class_good : (src : List ℕ) (qs : Parts) → Leads src class_step q0 qs ClassEnds → AreClasses (class_of src (wrap rule.Class qs))
class_good src qs h = wrapped (λ t. AreClasses (class_of src t)) rule.Class qs (λ n. class_there src qs h) (λ t s. absurd (sole_class src qs t h s))

no_classes : AreClasses []
unfolding AreClasses
no_classes = tt

pub import_good : (src : List ℕ) (qs : Parts) (k : State → Type 0) → Leads src (loose heading) q0 qs k → AreClasses (class_of src (wrap rule.Import qs))
unfolding class_of
import_good src qs k h = wrapped (λ t. AreClasses (class_of src t)) rule.Import qs (λ n. no_classes) (λ t s. (sole src heading (loose heading) q0 q0 qs k t (λ j. refl) h s).0)

pub dotted_good : (src : List ℕ) (qs : Parts) (k : State → Type 0) → Leads src (loose heading) q0 qs k → AreClasses (class_of src (wrap rule.Dotted qs))
unfolding class_of
dotted_good src qs k h = wrapped (λ t. AreClasses (class_of src t)) rule.Dotted qs (λ n. no_classes) (λ t s. (sole src heading (loose heading) q0 q0 qs k t (λ j. refl) h s).0)

pub names_good : (src : List ℕ) (qs : Parts) (k : State → Type 0) → Leads src (loose heading) q0 qs k → AreClasses (class_of src (wrap rule.Names qs))
unfolding class_of
names_good src qs k h = wrapped (λ t. AreClasses (class_of src t)) rule.Names qs (λ n. no_classes) (λ t s. (sole src heading (loose heading) q0 q0 qs k t (λ j. refl) h s).0)

-- ---- the file

abbrev FileEnds : State → Type 0
FileEnds = Ended (ends rule.File)

both_classes : (cs ds : List Class) → AreClasses cs → AreClasses ds → AreClasses (cs ++ ds)
unfolding AreClasses
both_classes [] ds f g = g
both_classes (c ∷ cs) ds f g = (f.0, both_classes cs ds f.1 g)

classes_left : (src : List ℕ) (q : State) (ps : Parts) → Leads src file_step q ps FileEnds → AreClasses (classes_in src ps)
unfolding Leads classes_in
classes_left src q end h = no_classes
classes_left src q0 (token x ps) h = classes_left src (end_on (plain (sign_of src x))) ps h
classes_left src q0 (child t ps) h =
    let both = kid src heading h.0 t q0 (λ p. Leads src file_step p ps FileEnds) h.1.0 h.1.1 in
    both_classes (class_of src t) (classes_in src ps) both.0 (classes_left src q0 ps both.1)
classes_left src _ (token x ps) h = absurd h
classes_left src _ (child t ps) h = absurd h.1.1

pub file_good : (src : List ℕ) (qs : Parts) → Leads src file_step q0 qs FileEnds → AreClasses (classes src (wrap rule.File qs))
unfolding classes
file_good src qs h = wrapped (λ t. AreClasses (classes src t)) rule.File qs (λ n. classes_left src q0 qs h) (λ t s. absurd (no (sole src heading file_step q0 q0 qs FileEnds t (λ j. refl) h s).1))
