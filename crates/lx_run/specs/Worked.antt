-- Small descriptions, worked by hand.
use Rattle.std.specs.Prelude.{◌≡◌, ℕ, ◌+◌, true, false, List, [], ◌∷◌, map, codes, pos, negsuc, Some, None, Result, Ok, Err}
use Rattle.lx_text.specs.declared.faults.Fault.{Fault}
use Rattle.lx_text.specs.declared.faults.Kind.{Kind}
use Rattle.lx_text.specs.declared.faults.Kind.TheVariants as kind
use Rattle.lx_text.specs.declared.faults.LimitKind.TheVariants as limit
use Rattle.lx_syntax.specs.declared.forms.Operator.TheVariants as operator
use Rattle.lx_syntax.specs.declared.forms.Prefix.TheVariants as prefix
use Rattle.lx_syntax.specs.Ast as ast
use Rattle.lx_syntax.specs.Ast.{Expr, Exprs, Stmt, Stmts}
use Rattle.lx_state.specs.declared.machine.Fsm.{Fsm}
use Rattle.lx_state.specs.declared.machine.Machine.{Machine}
use Rattle.lx_state.specs.declared.machine.ModuleKind.{ModuleKind}
use Rattle.lx_state.specs.declared.machine.ModuleKind.TheVariants as bases
use Rattle.lx_state.specs.declared.values.Builtin.TheVariants as builtin
use Rattle.lx_state.specs.declared.values.Value.{Value}
use Rattle.lx_state.specs.declared.values.Value.TheVariants as value
use Rattle.lx_state.specs.Step.{Outcome}
use Rattle.lx_state.specs.Worked.{locals, seen, spent, start}
use Rattle.lx_ops.specs.Worked.{int, value_of}
use Rattle.lx_run.specs.Calls.{Make}
use Rattle.lx_run.specs.Classes.{bases_run, description_run, make_within}
use Rattle.lx_run.specs.Running.{eval, execs}

abbrev pub at : {A : Type 0} → ℕ → Kind → Result A Fault
at line kind_ = Err (record { line = line; kind = kind_ })

abbrev pub unknown : {A : Type 0} → ℕ → List ℕ → Result A Fault
unknown line name = at line (kind.UnknownName name)

-- ---- forms

abbrev pub no_class : Make
no_class = make_within [] 0

abbrev pub x : ℕ → Expr
x line = ast.Name line (codes "x")

abbrev pub y : ℕ → Expr
y line = ast.Name line (codes "y")

abbrev pub number : ℕ → Expr
number n = ast.Number 1 (Some (pos n))

-- a built-in name, which is neither true nor false
abbrev pub untold : ℕ → Expr
untold line = ast.Name line (codes "Signal")

abbrev pub two : Expr → Expr → Exprs
two a b = ast.more a (ast.more b ast.none)

abbrev pub three : Expr → Expr → Expr → Exprs
three a b c = ast.more a (two b c)

abbrev pub listed : Expr
listed = ast.Listed 1 (two (number 1) (number 2))

abbrev pub just : Stmt → Stmts
just s = ast.then_ s ast.done

-- what an expression gives, and what a statement leaves as locals
abbrev pub given : Expr → Result Value Fault
given e = value_of (eval no_class e start)

abbrev pub left : Stmts → Result (List (List ℕ × Value)) Fault
left ss = seen locals (execs no_class ss start)

-- `[x for x in [1, 2]]`
abbrev pub copied : Expr
copied = ast.Comprehension 1 (x 1) (codes "x" ∷ []) listed ast.none

abbrev pub binds : ℕ → List ℕ → Expr → Stmt
binds line name e = ast.Bind line (ast.Named name) e

-- ---- what expressions give

pub record ExpressionsAreRun : Type 0 where
  -- `0 or 5 or x`: the first operand that is true, and nothing behind it is run
  pub first_true : given (ast.Either 1 (three (number 0) (number 5) (x 1))) ≡ Ok (int 5)
  -- `3 and 0 and x`
  pub first_false : given (ast.Both 1 (three (number 3) (number 0) (x 1))) ≡ Ok (int 0)
  -- the last operand is not tested
  pub last_untested : given (ast.Either 1 (two (number 0) (untold 1))) ≡ Ok (value.Builtin builtin.Signal)
  -- the others are, on the line of the whole
  pub others_tested : given (ast.Either 4 (two (untold 5) (number 1))) ≡ at 4 kind.WrongKind
  -- `x if 0 else 7 if 1 else x`: only what is chosen is run
  pub chosen : given (ast.Choice 1 (x 1) (ast.choice 1 (number 0) (number 7) (ast.choice 1 (number 1) (x 1) ast.no_choice))) ≡ Ok (int 7)
  -- a condition's fault has the line of its own conditional
  pub condition_line : given (ast.Choice 4 (number 7) (ast.choice 4 (number 0) (number 7) (ast.choice 5 (untold 6) (number 7) ast.no_choice))) ≡ at 5 kind.WrongKind
  -- `-2 ** 2`: a power binds closer than the sign before it
  pub sign_of_power : given (ast.Prefixed (record { line = 1; prefix = prefix.Minus } ∷ []) (ast.Power 1 (number 2) (number 2))) ≡ Ok (value.Int (negsuc 3))
  -- `2 ** 3 ** 2`
  pub power_of_power : given (ast.Power 1 (number 2) (ast.Power 1 (number 3) (number 2))) ≡ Ok (int 512)
  -- a base is run before its exponent
  pub base_first : given (ast.Power 1 (x 2) (y 1)) ≡ unknown 2 (codes "x")
  -- `9 - 2 - 1`
  pub from_the_left : given (ast.Chain 1 (number 9) (ast.link operator.Sub (number 2) (ast.link operator.Sub (number 1) ast.no_link))) ≡ Ok (int 6)
  -- `not not 3`
  pub not_not : given (ast.Not (1 ∷ 2 ∷ []) (number 3)) ≡ Ok (int 1)
  pub too_great : given (ast.Number 7 None) ≡ at 7 kind.NumberRange
  -- an attribute is read before the arguments of its call
  pub attribute_first : given (ast.Post 1 (number 5) (ast.attribute (codes "f") (ast.call (ast.placed (x 1) ast.no_argument) ast.no_trailer))) ≡ unknown 1 (codes "f")
  -- `max(*[1, 2], 0)`: a list is taken apart in its place
  pub taken_apart : given (ast.Post 1 (ast.Name 1 (codes "max")) (ast.call (ast.starred listed (ast.placed (number 0) ast.no_argument)) ast.no_trailer)) ≡ Ok (int 2)
  -- `[1, 2][1]`
  pub an_item : given (ast.Post 1 listed (ast.item (number 1) ast.no_trailer)) ≡ Ok (int 2)
  -- what can't be called is so once its arguments are run
  pub not_callable : given (ast.Post 3 (number 5) (ast.call ast.no_argument ast.no_trailer)) ≡ at 3 kind.WrongKind
  pub argument_first : given (ast.Post 3 (number 5) (ast.call (ast.placed (x 4) ast.no_argument) ast.no_trailer)) ≡ unknown 4 (codes "x")

-- ---- what statements do

pub record StatementsAreRun : Type 0 where
  -- `x.a = y`: the value is run before the object
  pub value_first : left (just (ast.Bind 3 (ast.Attribute (x 3) (codes "a")) (y 3))) ≡ unknown 3 (codes "y")
  -- `x.a += y`: the object is run before the value
  pub object_first : left (just (ast.Add 3 (ast.Attribute (x 3) (codes "a")) (y 3))) ≡ unknown 3 (codes "x")
  -- all conditions of an `if` are tested on its line
  pub line_of_if : left (just (ast.If 2 (ast.branch (number 0) ast.done (ast.branch (untold 4) ast.done ast.no_branch)) ast.done)) ≡ at 2 kind.WrongKind
  -- a loop's name stays
  pub name_of_loop : left (just (ast.For 1 (codes "x" ∷ []) listed (just (ast.Pass 2)))) ≡ Ok ((codes "x", int 2) ∷ [])
  -- two names want items of two items
  pub too_few_names : left (just (ast.For 6 (codes "x" ∷ codes "y" ∷ []) (ast.Listed 6 (ast.more (ast.Listed 6 (ast.more (number 1) ast.none)) ast.none)) ast.done)) ≡ at 6 kind.WrongCount
  -- a comprehension's name hides a local, which is there again after it
  pub restored : left (ast.then_ (binds 1 (codes "x") (number 7)) (just (ast.Value 2 copied))) ≡ Ok ((codes "x", int 7) ∷ [])
  pub gone : left (just (ast.Value 2 copied)) ≡ Ok []
  -- `x += 2`
  pub name_added : left (ast.then_ (binds 1 (codes "x") (number 7)) (just (ast.Add 2 (ast.Named (codes "x")) (number 2)))) ≡ Ok ((codes "x", int 9) ∷ [])
  -- a unit for the loop, and one for each item of its list, for each turn and for each statement in it
  pub units : seen spent (execs no_class (just (ast.For 1 (codes "x" ∷ []) listed (just (ast.Pass 2)))) start) ≡ Ok 7
  -- a text that stands alone is not made
  pub text_alone : seen spent (execs no_class (just (ast.Value 1 (ast.Quoted 1 (codes "a text")))) start) ≡ Ok 1

-- ---- state machines

-- `FSM().act(*["A"])`
abbrev pub act : Expr
act = ast.Post 1 (ast.Name 1 (codes "FSM")) (ast.call ast.no_argument (ast.attribute (codes "act") (ast.call (ast.starred (ast.Listed 1 (ast.more (ast.Quoted 1 (codes "A")) ast.none)) ast.no_argument) ast.no_trailer)))

abbrev pub state_names : Machine → List (List (List ℕ))
state_names m = map (λ (f : Fsm). map (λ (e : List ℕ × ℕ). e.0) f.names) m.fsms

pub record FsmsAreRun : Type 0 where
  pub nothing_given : given act ≡ Ok value.Nothing
  pub states : seen state_names (eval no_class act start) ≡ Ok ((codes "A" ∷ []) ∷ [])
  -- a unit for each of both calls, for the text and for the list
  pub units : seen spent (eval no_class act start) ≡ Ok 4

-- ---- classes

abbrev pub base : ℕ → List ℕ → ast.Base
base line name = record { line = line; name = name }

abbrev pub param : List ℕ → Exprs → ast.Param
param name default = record { name = name; default = default }

-- a class whose `__init__` stands on its second line
abbrev pub class : ℕ → List ℕ → List ast.Param → Stmts → ast.Class
class line name params body = record { line = line; name = name; bases = base line (codes "Module") ∷ []; init_line = line + 1; params = params; body = body }

abbrev pub call_of : ℕ → List ℕ → Expr
call_of line name = ast.Post line (ast.Name line name) (ast.call ast.no_argument ast.no_trailer)

abbrev pub top : Stmts → ast.Class
top body = class 11 (codes "Top") [] body

abbrev pub run : List ast.Class → Result Value Fault
run classes = value_of (description_run classes start)

abbrev pub kind_of : List ast.Base → Result ModuleKind Fault
kind_of given_bases = value_of (bases_run true bases.Plain given_bases start)

pub record ClassesAreRun : Type 0 where
  pub plain : kind_of (base 1 (codes "Module") ∷ base 1 (codes "AutoCSR") ∷ []) ≡ Ok bases.Plain
  pub lite : kind_of (base 1 (codes "Module") ∷ base 1 (codes "LiteXModule") ∷ []) ≡ Ok bases.Lite
  pub system : kind_of (base 1 (codes "LiteXModule") ∷ base 2 (codes "SoCCore") ∷ []) ≡ Ok bases.Soc
  pub unknown_base : kind_of (base 1 (codes "Module") ∷ base 2 (codes "Other") ∷ []) ≡ unknown 2 (codes "Other")
  -- a system is the last class alone
  pub system_below : value_of (bases_run false bases.Plain (base 3 (codes "SoCCore") ∷ []) start) ≡ at 3 kind.WrongKind
  -- the last class's module, whose object is the first one
  pub made : run (class 1 (codes "A") [] ast.done ∷ top ast.done ∷ []) ≡ Ok (value.Object 0)
  -- the arguments of a class are bound in its `__init__`
  pub called : run (class 1 (codes "A") (param (codes "n") (ast.more (number 3) ast.none) ∷ []) (just (ast.Value 3 (x 3))) ∷ top (just (ast.Value 13 (call_of 13 (codes "A")))) ∷ []) ≡ unknown 3 (codes "x")
  -- a class doesn't see itself, nor those below it
  pub not_itself : run (class 1 (codes "A") [] (just (ast.Value 3 (call_of 3 (codes "A")))) ∷ top (just (ast.Value 13 (call_of 13 (codes "A")))) ∷ []) ≡ unknown 3 (codes "A")
  -- a default sees no `self`, and is run before the top is made
  pub default_first : run (class 1 (codes "A") (param (codes "n") (ast.more (ast.Name 2 (codes "self")) ast.none) ∷ []) ast.done ∷ top (just (ast.Value 13 (x 13))) ∷ []) ≡ unknown 2 (codes "self")
  -- a parameter of the top that has no default
  pub no_default : run (class 5 (codes "Top") (param (codes "n") ast.none ∷ []) ast.done ∷ []) ≡ at 6 kind.WrongCount
  -- no two parameters, with `self`, have one name
  pub two_selves : run (class 5 (codes "Top") (param (codes "self") ast.none ∷ []) ast.done ∷ []) ≡ at 6 kind.WrongCount
  pub nothing : run [] ≡ at 0 kind.NoTop
  -- where no more may be made one within another
  pub too_deep : value_of (make_within (class 1 (codes "A") [] ast.done ∷ []) 0 9 0 (record { placed = []; names = []; named = []; part = None }) start) ≡ at 9 (kind.Limit limit.Depth)
