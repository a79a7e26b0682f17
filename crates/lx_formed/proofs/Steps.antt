-- The ways that the parts of a node go: an automaton for each rule, whose letters are the signs of tokens and the kinds of nodes.
use Rattle.std.proofs.Common.{ℕ, zero, suc, Bool, true, false, ◌≡◌, ◌&&◌, List, [], ◌∷◌, Option, Some, None}
use Rattle.lx_grammar.specs.declared.grammar.Rule.{Rule}
use Rattle.lx_grammar.specs.declared.grammar.Rule.TheVariants as rule
use Rattle.lx_grammar.specs.declared.grammar.Spot.{Spot}
use Rattle.lx_grammar.specs.declared.grammar.Spot.TheVariants as spot
use Rattle.lx_grammar.specs.declared.grammar.Symbol.{Symbol}
use Rattle.lx_grammar.specs.declared.grammar.Symbol.TheVariants as symbol
use Rattle.lx_grammar.specs.declared.sign.Sign.{Sign}
use Rattle.lx_grammar.specs.declared.sign.Sign.TheVariants as sign
use Rattle.lx_grammar.specs.Derives.{Tree, Parts, end, token, child, label}
use Rattle.lx_grammar.specs.Grammar.{rules}
use Rattle.lx_syntax.specs.declared.forms.Comparison.{Comparison}
use Rattle.lx_syntax.specs.declared.forms.Operator.{Operator}
use Rattle.lx_syntax.specs.declared.forms.Prefix.{Prefix}
use Rattle.lx_syntax.specs.Ast as ast
use Rattle.lx_syntax.specs.Classes.{block_of, class_of, classes, is_assign, params_of}
use Rattle.lx_syntax.specs.Convert.{arguments, bounds, comparison_of, expr, operator_of, place_of, prefix_of, sign_of, stmt, suite}
use Rattle.lx_formed.specs.Formed.{AreArguments, AreClasses, AreParams, AreStated, AreTrailers, IsFormed, IsPlaced, IsStated}

pub data State : Type 0 where
  q0 : State
  q1 : State
  q2 : State
  q3 : State
  q4 : State
  q5 : State
  q6 : State
  q7 : State
  q8 : State
  q9 : State
  q10 : State
  q11 : State
  q12 : State
  q13 : State
  q14 : State
  q15 : State
  q16 : State

-- what a node may be: an expression, what stands in square or in round brackets, a block, a statement, a place, what
-- stands in a file, an `__init__`, a file
pub data Kind : Type 0 where
  value : Kind
  index : Kind
  given : Kind
  block : Kind
  order : Kind
  spot_ : Kind
  heading : Kind
  making : Kind
  whole : Kind

pub data Letter : Type 0 where
  word : Sign → Letter
  part : Kind → Letter

abbrev pub Step : Type 0
Step = State → Letter → Option State

-- a name's sign, for all that are names
abbrev pub plain : Sign → Sign
plain sign.Init = sign.Name
plain sign.SelfName = sign.Name
plain s = s

abbrev pub when_is : Kind → Kind → State → Option State
when_is value value q = Some q
when_is index index q = Some q
when_is given given q = Some q
when_is block block q = Some q
when_is order order q = Some q
when_is spot_ spot_ q = Some q
when_is heading heading q = Some q
when_is making making q = Some q
when_is whole whole q = Some q
when_is _ _ q = None

-- ---- the automata

-- any tokens and nodes of a kind
abbrev pub loose : Kind → Step
loose k q (word s) = Some q
loose k q (part j) = when_is k j q

-- a node, and then any tokens and nodes
abbrev pub led : Step
led q0 (part j) = when_is value j q1
led q1 (word s) = Some q1
led q1 (part j) = when_is value j q1
led _ _ = None

-- any tokens, and one node
abbrev pub single : Step
single q0 (word s) = Some q0
single q0 (part j) = when_is value j q1
single _ _ = None

abbrev pub prefix_on : Option Prefix → Option State
prefix_on None = None
prefix_on (Some p) = Some q0

abbrev pub signed_step : Step
signed_step q0 (word s) = prefix_on (prefix_of s)
signed_step q0 (part j) = when_is value j q1
signed_step _ _ = None

abbrev pub operator_on : Option Operator → Option State
operator_on None = None
operator_on (Some op) = Some q0

abbrev pub chained : Step
chained q0 (part j) = when_is value j q1
chained q1 (word s) = operator_on (operator_of s)
chained _ _ = None

abbrev pub powered : Step
powered q0 (part j) = when_is value j q1
powered q1 (word s) = Some q2
powered q2 (part j) = when_is value j q3
powered _ _ = None

abbrev pub comparison_on : Option Comparison → Option State
comparison_on None = Some q4
comparison_on (Some c) = Some q2

-- `not` behind `is`
abbrev pub negation_on : Sign → State
negation_on sign.Not = q5
negation_on _ = q6

abbrev pub compared : Step
compared q0 (part j) = when_is value j q1
compared q1 (word s) = comparison_on (comparison_of s)
compared q2 (part j) = when_is value j q3
compared q4 (word s) = Some (negation_on s)
compared q5 (word s) = Some q6
compared _ _ = None

-- a dot and a name, or brackets
abbrev pub posted : Step
posted q0 (part j) = when_is value j q1
posted q1 (word sign.Dot) = Some q2
posted q2 (word s) = Some q1
posted q1 (word sign.OpenRound) = Some q3
posted q3 (part j) = when_is given j q4
posted q3 (word sign.CloseRound) = Some q1
posted q4 (word s) = Some q1
posted q1 (word sign.OpenSquare) = Some q5
posted q5 (part j) = when_is index j q4
posted _ _ = None

abbrev pub sliced : Step
sliced q0 (part j) = when_is value j q1
sliced q0 (word s) = Some q2
sliced q1 (word s) = Some q2
sliced q2 (part j) = when_is value j q3
sliced _ _ = None

abbrev pub atom_on : Sign → Option State
atom_on sign.Name = Some q1
atom_on sign.Number = Some q1
atom_on sign.Text = Some q1
atom_on sign.None = Some q1
atom_on sign.True = Some q1
atom_on sign.False = Some q1
atom_on sign.OpenRound = Some q2
atom_on sign.OpenSquare = Some q4
atom_on sign.OpenCurly = Some q11
atom_on _ = None

-- what closes a list, a comprehension or pairs, and what goes on
abbrev pub close_on : State → Sign → Sign → Option State
close_on q sign.CloseSquare _ = Some q1
close_on q sign.CloseCurly _ = Some q1
close_on q sign.For sign.For = Some q
close_on q sign.If sign.If = Some q
close_on q sign.Comma sign.Comma = Some q
close_on _ _ _ = None

abbrev pub bracketed : Step
bracketed q0 (word s) = atom_on s
bracketed q2 (part j) = when_is value j q3
bracketed q2 (word s) = Some q1
bracketed q3 (word s) = Some q1
bracketed q4 (part j) = when_is value j q5
bracketed q4 (word s) = Some q1
bracketed q5 (word s) = close_on q6 s sign.For
bracketed q6 (part j) = when_is heading j q7
bracketed q7 (word s) = Some q8
bracketed q8 (part j) = when_is value j q9
bracketed q9 (word s) = close_on q10 s sign.If
bracketed q10 (part j) = when_is value j q3
bracketed q11 (part j) = when_is value j q12
bracketed q11 (word s) = Some q1
bracketed q12 (word s) = Some q13
bracketed q13 (part j) = when_is value j q14
bracketed q14 (word s) = close_on q15 s sign.Comma
bracketed q15 (part j) = when_is value j q12
bracketed q15 (word s) = Some q1
bracketed _ _ = None

abbrev pub bound_on : Sign → Option State
bound_on sign.Assign = Some q3
bound_on sign.AddAssign = Some q3
bound_on _ = None

abbrev pub simple_at : Kind → Option State
simple_at value = Some q1
simple_at spot_ = Some q2
simple_at _ = None

abbrev pub simple_step : Step
simple_step q0 (word s) = Some q4
simple_step q0 (part j) = simple_at j
simple_step q1 (word s) = Some q5
simple_step q2 (word s) = bound_on s
simple_step q3 (part j) = when_is value j q1
simple_step q4 (word s) = Some q5
simple_step _ _ = None

abbrev pub else_on : Sign → State
else_on sign.Else = q5
else_on _ = q1

abbrev pub conditional : Step
conditional q0 (word s) = Some q1
conditional q1 (part j) = when_is value j q2
conditional q2 (word s) = Some q3
conditional q3 (part j) = when_is block j q4
conditional q4 (word s) = Some (else_on s)
conditional q5 (word s) = Some q6
conditional q6 (part j) = when_is block j q7
conditional _ _ = None

abbrev pub looped : Step
looped q0 (word s) = Some q1
looped q1 (part j) = when_is heading j q2
looped q2 (word s) = Some q3
looped q3 (part j) = when_is value j q4
looped q4 (word s) = Some q5
looped q5 (part j) = when_is block j q6
looped _ _ = None

abbrev pub placed : Step
placed q0 (word s) = Some q3
placed q0 (part j) = when_is value j q1
placed q1 (word s) = Some q2
placed q2 (word s) = Some q3
placed _ _ = None

-- one node of a kind
abbrev pub alone : Kind → Step
alone k q0 (part j) = when_is k j q1
alone k _ _ = None

abbrev pub default_on : Bool → State
default_on true = q1
default_on false = q3

-- a default behind `=`, and the block at the end
abbrev pub init_step : Step
init_step q0 (word s) = Some q3
init_step q3 (word s) = Some (default_on (is_assign s))
init_step q3 (part j) = when_is block j q2
init_step q1 (part j) = when_is value j q3
init_step _ _ = None

abbrev pub class_step : Step
class_step q0 (word s) = Some q2
class_step q2 (word s) = Some q2
class_step q2 (part j) = when_is making j q1
class_step q1 (word s) = Some q1
class_step _ _ = None

-- the end is the last
abbrev pub end_on : Sign → State
end_on sign.End = q1
end_on _ = q0

abbrev pub file_step : Step
file_step q0 (word s) = Some (end_on s)
file_step q0 (part j) = when_is heading j q0
file_step _ _ = None

abbrev pub top_step : Step
top_step q0 (part j) = when_is whole j q1
top_step _ _ = None

abbrev pub step : Rule → Step
step rule.File = file_step
step rule.Import = loose heading
step rule.Dotted = loose heading
step rule.Names = loose heading
step rule.Class = class_step
step rule.Init = init_step
step rule.Suite = loose order
step rule.Stmt = alone order
step rule.If = conditional
step rule.For = looped
step rule.Simple = simple_step
step rule.Values = loose value
step rule.Place = placed
step rule.Expr = led
step rule.Or = loose value
step rule.And = loose value
step rule.Not = single
step rule.Comp = compared
step rule.Bor = chained
step rule.Bxor = chained
step rule.Band = chained
step rule.Shift = chained
step rule.Sum = chained
step rule.Term = chained
step rule.Unary = signed_step
step rule.Power = powered
step rule.Post = posted
step rule.Sub = sliced
step rule.Args = loose value
step rule.Arg = single
step rule.Atom = bracketed

-- where they end
abbrev pub ends : Rule → State → Bool
ends rule.Class q1 = true
ends rule.Init q2 = true
ends rule.Stmt q1 = true
ends rule.If q4 = true
ends rule.If q7 = true
ends rule.For q6 = true
ends rule.Simple q5 = true
ends rule.Place q3 = true
ends rule.Expr q1 = true
ends rule.Not q1 = true
ends rule.Arg q1 = true
ends rule.Comp q1 = true
ends rule.Comp q3 = true
ends rule.Comp q6 = true
ends rule.Bor q1 = true
ends rule.Bxor q1 = true
ends rule.Band q1 = true
ends rule.Shift q1 = true
ends rule.Sum q1 = true
ends rule.Term q1 = true
ends rule.Unary q1 = true
ends rule.Power q1 = true
ends rule.Power q3 = true
ends rule.Post q1 = true
ends rule.Sub q1 = true
ends rule.Sub q2 = true
ends rule.Sub q3 = true
ends rule.Atom q1 = true
ends rule.File q1 = true
ends rule.Import _ = true
ends rule.Dotted _ = true
ends rule.Names _ = true
ends rule.Suite _ = true
ends rule.Values _ = true
ends rule.Or _ = true
ends rule.And _ = true
ends rule.Args _ = true
ends _ _ = false

-- ---- what a node of a kind says has a form

abbrev pub IsSpot : Option ast.Place → Type 0
IsSpot None = ⊥
IsSpot (Some p) = IsPlaced p

abbrev pub Good : List ℕ → Kind → Tree → Type 0
Good src value t = IsFormed (expr src t)
Good src index t = (rest : ast.Trailers) → AreTrailers rest → AreTrailers (bounds src t (expr src t) rest)
Good src given t = AreArguments (arguments src t (expr src t))
Good src block t = AreStated (suite src t (stmt src t))
Good src order t = IsStated (stmt src t)
Good src spot_ t = IsSpot (place_of src t)
Good src heading t = AreClasses (class_of src t)
Good src making t = AreParams (params_of src t) × AreStated (block_of src t)
Good src whole t = AreClasses (classes src t)

-- ---- what goes an automaton's way

abbrev pub After : Option State → (State → Type 0) → Type 0
After None k = ⊥
After (Some q) k = k q

unfoldable pub Leads : List ℕ → Step → State → Parts → (State → Type 0) → Type 0
Leads src st q end k = k q
Leads src st q (token x ps) k = After (st q (word (plain (sign_of src x)))) (λ p. Leads src st p ps k)
Leads src st q (child t ps) k = (j : Kind) × (Good src j t × After (st q (part j)) (λ p. Leads src st p ps k))

abbrev pub Ended : (State → Bool) → State → Type 0
Ended fin q = fin q ≡ true

-- ---- the rows of the grammar that go an automaton's way

abbrev pub kind_of : Spot → Option Kind
kind_of spot.File = Some whole
kind_of spot.Import = Some heading
kind_of spot.Dotted = Some heading
kind_of spot.Names = Some heading
kind_of spot.Class = Some heading
kind_of spot.Init = Some making
kind_of spot.Suite = Some block
kind_of spot.Stmt = Some order
kind_of spot.If = Some order
kind_of spot.For = Some order
kind_of spot.Simple = Some order
kind_of spot.Values = Some value
kind_of spot.Place = Some spot_
kind_of spot.Expr = Some value
kind_of spot.Or = Some value
kind_of spot.And = Some value
kind_of spot.Not = Some value
kind_of spot.Comp = Some value
kind_of spot.Bor = Some value
kind_of spot.Bxor = Some value
kind_of spot.Band = Some value
kind_of spot.Shift = Some value
kind_of spot.Sum = Some value
kind_of spot.Term = Some value
kind_of spot.Unary = Some value
kind_of spot.Power = Some value
kind_of spot.Post = Some value
kind_of spot.Sub = Some index
kind_of spot.Args = Some given
kind_of spot.PlaceArg = Some value
kind_of spot.NameArg = Some value
kind_of spot.Atom = Some value
kind_of _ = None

abbrev pub on : Option State → (State → Bool) → Bool
on None k = false
on (Some q) k = k q

abbrev pub on_kind : Option Kind → (Kind → Bool) → Bool
on_kind None k = false
on_kind (Some j) k = k j

abbrev pub same : State → State → Bool
same q0 q0 = true
same q1 q1 = true
same q2 q2 = true
same q3 q3 = true
same q4 q4 = true
same q14 q14 = true
same _ _ = false

unfoldable pub all_of : {A : Type 0} → (A → Bool) → List A → Bool
all_of test [] = true
all_of test (x ∷ xs) = test x && all_of test xs

-- whether all ways of a row from a state lead to what is wanted
unfoldable pub goes : ℕ → Step → List Symbol → State → (State → Bool) → Bool
goes zero st α q k = false
goes (suc n) st [] q k = k q
goes (suc n) st (symbol.Token s ∷ α) q k = on (st q (word (plain s))) (λ p. goes n st α p k)
goes (suc n) st (symbol.Node r ∷ α) q k = on_kind (kind_of r) (λ j. on (st q (part j)) (λ p. goes n st α p k))
goes (suc n) st (symbol.One r ∷ α) q k = all_of (λ β. goes n st β q (λ p. goes n st α p k)) (rules r)
goes (suc n) st (symbol.Maybe r ∷ α) q k = all_of (λ β. goes n st β q (λ p. goes n st α p k)) (rules r) && goes n st α q k
goes (suc n) st (symbol.Many r ∷ α) q k = all_of (λ β. goes n st β q (λ p. same p q)) (rules r) && goes n st α q k

abbrev pub row_goes : Spot → List Symbol → Bool
row_goes r β = goes 30 (step (label r)) β q0 (ends (label r))
