-- What running a description does: one rule for each form, in the order in which Python runs its parts.
use Rattle.std.specs.Prelude.{◌≡◌, ℕ, ℤ, Bool, true, false, not, List, [], ◌∷◌, ◌++◌, Option, Some, None, option_to_list, if◌then◌else◌}
use Rattle.lx_text.specs.declared.faults.Kind.TheVariants as kind
use Rattle.lx_value.specs.declared.numbers.PyOp.TheVariants as op
use Rattle.lx_syntax.specs.declared.forms.Operator.{Operator}
use Rattle.lx_syntax.specs.Ast as ast
use Rattle.lx_syntax.specs.Ast.{Expr, Exprs, Pairs, Choices, Links, Trailers, Stmt, Stmts, Branches, Place}
use Rattle.lx_state.specs.declared.values.Value.{Value}
use Rattle.lx_state.specs.declared.values.Value.TheVariants as value
use Rattle.lx_state.specs.declared.values.Builtin.TheVariants as builtin
use Rattle.lx_state.specs.declared.machine.Machine.{Machine}
use Rattle.lx_state.specs.declared.machine.Pair.{Pair}
use Rattle.lx_state.specs.Frames.{named, set_local}
use Rattle.lx_state.specs.Lists.{dictionary_made, items_of, list_made, text_made, tuple_made}
use Rattle.lx_state.specs.Step.{Step, give, fault, or_fault, ◌>>=◌}
use Rattle.lx_state.specs.Work.{spend}
use Rattle.lx_ops.specs.declared.places.Holder.{Holder}
use Rattle.lx_ops.specs.declared.places.Holder.TheVariants as holder
use Rattle.lx_ops.specs.Attributes.{attribute_of}
use Rattle.lx_ops.specs.Binary.{binary}
use Rattle.lx_ops.specs.Compare.{compare, truth, truth_value}
use Rattle.lx_ops.specs.Items.{item_of, slice_of}
use Rattle.lx_ops.specs.Places.{add_at, adds, bind_at, holder_of, read_at, setattr_holder}
use Rattle.lx_builtins.specs.declared.arguments.Arguments.{Arguments}
use Rattle.lx_run.specs.declared.run.Standing.{Standing}
use Rattle.lx_run.specs.declared.run.Standing.TheVariants as standing
use Rattle.lx_run.specs.declared.signs.Pending.{Pending}
use Rattle.lx_run.specs.declared.signs.Pending.TheVariants as pending
use Rattle.lx_run.specs.Calls.{Make, called, no_arguments, with_held, with_named, with_placed}
use Rattle.lx_run.specs.Loops.{names_bound, names_hidden, names_restored}
use Rattle.lx_run.specs.Signs.{all_negated, all_signed, comparison_of, python_op}

-- ---- steps that run no parts

-- a number that is too great has no value
abbrev pub number : ℕ → Option ℤ → Step Value
number line n = or_fault n line kind.NumberRange >>= λ z. give (value.Int z)

-- only the first argument of `setattr` may be a fragment
abbrev pub first_standing : Value → Standing
first_standing (value.Builtin builtin.SetAttr) = standing.First
first_standing _ = standing.Plain

abbrev pub plainly : Step Value → Step Holder
plainly part = part >>= λ v. give (holder.Plain v)

-- the last attribute of an expression
abbrev pub last_attribute : Standing → ℕ → Value → List ℕ → Step Holder
last_attribute standing.Plain line v name = plainly (attribute_of line v name)
last_attribute standing.Place line v name = holder_of line v name
last_attribute standing.First line v name = setattr_holder line v name

-- a fragment is no value
unfoldable pub held_value : ℕ → Holder → Step Value
held_value line (holder.Plain v) = give v
held_value line (holder.Part p) = fault line kind.WrongKind

abbrev pub is_nothing : Value → Bool
is_nothing value.Nothing = true
is_nothing _ = false

abbrev pub nothing_told : Bool → Value → Value
nothing_told negated v = truth_value (if negated then not (is_nothing v) else is_nothing v)

-- ---- steps around a part that is run

-- a condition, which is tested on this line
unfoldable pub tested : ℕ → Step Value → Step Bool
tested line part = do
  v ← part
  truth line v

-- an operand of `or` or `and`, and whether it is true
unfoldable pub weighed : ℕ → Step Value → Step (Value × Bool)
weighed line part = do
  v ← part
  holds ← truth line v
  give (v, holds)

abbrev pub is_wanted : Bool → Bool → Bool
is_wanted true holds = holds
is_wanted false holds = not holds

unfoldable pub entry_run : Step Value → Step Value → Step Pair
entry_run key part = do
  k ← key
  v ← part
  give (record { key = k; value = v })

-- an operator of a chain, whose left operand was run
unfoldable pub link_run : ℕ → Operator → Value → Step Value → Step Value
link_run line by_ v part = do
  w ← part
  binary line (python_op by_) v w

unfoldable pub item_run : ℕ → Value → Step Value → Step Value
item_run line v part = do
  i ← part
  item_of line v i

unfoldable pub slice_run : ℕ → Value → Step (Option Value) → Step (Option Value) → Step Value
slice_run line v low high = do
  a ← low
  b ← high
  slice_of line v a b

-- a call costs its unit when its arguments are there
unfoldable pub call_run : Make → ℕ → Value → Step Arguments → Step Value
call_run make line v arguments = do
  args ← arguments
  _ ← spend line 1
  called make line v args

-- arguments behind those so far; a list behind `*` is taken apart in its place
unfoldable pub placed_run : Arguments → Step Value → Step Arguments
placed_run so_far part = do
  v ← part
  give (with_placed (v ∷ []) so_far)

unfoldable pub held_run : Arguments → Step Holder → Step Arguments
held_run so_far part = do
  h ← part
  give (with_held h so_far)

unfoldable pub starred_run : ℕ → Arguments → Step Value → Step Arguments
starred_run line so_far part = do
  v ← part
  items ← items_of line v
  give (with_placed items so_far)

unfoldable pub named_run : List ℕ → Arguments → Step Value → Step Arguments
named_run name so_far part = do
  v ← part
  give (with_named name v so_far)

-- a base was run, and its power waits
unfoldable pub base_run : List Pending → ℕ → Step Value → Step (List Pending)
base_run waiting line part = do
  v ← part
  give (waiting ++ pending.Power line v ∷ [])

-- ---- comprehensions

-- what one item of the source adds to those so far
unfoldable pub turn_gathered : ℕ → List (List ℕ) → Step (Option Value) → List Value → Value → Step (List Value)
turn_gathered line names found so_far item = do
  _ ← spend line 1
  _ ← names_bound line names item
  more ← found
  give (so_far ++ option_to_list more)

unfoldable pub gathered : ℕ → List (List ℕ) → Step (Option Value) → List Value → List Value → Step (List Value)
gathered line names found so_far [] = give so_far
gathered line names found so_far (item ∷ items) = do
  more ← turn_gathered line names found so_far item
  gathered line names found more items

-- the items of a value, while the names stand for nothing else
unfoldable pub comprehended : ℕ → List (List ℕ) → Step (Option Value) → Value → Step Value
comprehended line names found v = do
  items ← items_of line v
  hidden ← names_hidden names
  values ← gathered line names found [] items
  _ ← names_restored hidden
  list_made line values

-- the item, where the filter holds
abbrev pub some_value : Step Value → Step (Option Value)
some_value part = part >>= λ v. give (Some v)

abbrev pub where_holds : Step Bool → Step Value → Step (Option Value)
where_holds filter part = filter >>= λ holds. if holds then some_value part else give None

-- ---- expressions

unfoldable mutual
  pub eval : Make → Expr → Step Value
  eval make (ast.Name line name) = named line name
  eval make (ast.Number line n) = number line n
  eval make (ast.Quoted line bytes) = text_made line bytes
  eval make (ast.Nothing line) = give value.Nothing
  eval make (ast.Truth line holds) = give (truth_value holds)
  eval make (ast.Tuple line items) = do
    values ← evals make items
    tuple_made line values
  eval make (ast.Listed line items) = do
    values ← evals make items
    list_made line values
  eval make (ast.Comprehension line item names source filter) = do
    v ← eval make source
    comprehended line names (kept make line filter (eval make item)) v
  eval make (ast.Dictionary line pairs) = do
    made ← entries make pairs
    dictionary_made made
  eval make (ast.Choice line e rest) = chosen make (eval make e) rest
  eval make (ast.Either line parts) = first_that make true line parts
  eval make (ast.Both line parts) = first_that make false line parts
  eval make (ast.Not lines of) = do
    v ← eval make of
    all_negated lines v
  eval make (ast.Compare line by_ left right) = do
    a ← eval make left
    b ← eval make right
    compare line (comparison_of by_) a b
  eval make (ast.IsNothing line negated of) = do
    v ← eval make of
    give (nothing_told negated v)
  eval make (ast.Chain line first rest) = do
    v ← eval make first
    linked make line v rest
  eval make (ast.Prefixed signs of) = do
    v ← eval make of
    all_signed signs v
  eval make (ast.Power line base exponent) = do
    a ← eval make base
    b ← eval make exponent
    binary line op.Pow a b
  eval make (ast.Post line of trailers) = do
    v ← eval make of
    h ← trailed make standing.Plain line v trailers
    held_value line h
  eval make ast.Misshapen = fault 0 kind.WrongKind

  pub evals : Make → Exprs → Step (List Value)
  evals make ast.none = give []
  evals make (ast.more e es) = do
    v ← eval make e
    vs ← evals make es
    give (v ∷ vs)

  pub entries : Make → Pairs → Step (List Pair)
  entries make ast.no_pair = give []
  entries make (ast.pair key e rest) = do
    entry ← entry_run (eval make key) (eval make e)
    others ← entries make rest
    give (entry ∷ others)

  -- the first condition is run, and then the first value or what is chosen else
  pub chosen : Make → Step Value → Choices → Step Value
  chosen make first ast.no_choice = first
  chosen make first (ast.choice line condition other rest) = do
    holds ← tested line (eval make condition)
    if holds then first else chosen make (eval make other) rest

  -- the first operand that is true, or the first that is false; else the last one, which isn't tested
  pub first_that : Make → Bool → ℕ → Exprs → Step Value
  first_that make wanted line ast.none = fault 0 kind.WrongKind
  first_that make wanted line (ast.more e ast.none) = eval make e
  first_that make wanted line (ast.more e es) = do
    w ← weighed line (eval make e)
    if is_wanted wanted w.1 then give w.0 else first_that make wanted line es

  pub linked : Make → ℕ → Value → Links → Step Value
  linked make line v ast.no_link = give v
  linked make line v (ast.link by_ e rest) = do
    w ← link_run line by_ v (eval make e)
    linked make line w rest

  pub kept : Make → ℕ → Exprs → Step Value → Step (Option Value)
  kept make line ast.none item = some_value item
  kept make line (ast.more filter others) item = where_holds (tested line (eval make filter)) item

  -- a bound that may be missing
  pub bound_run : Make → Exprs → Step (Option Value)
  bound_run make ast.none = give None
  bound_run make (ast.more e es) = some_value (eval make e)

  -- attributes, calls and subscripts; where the expression stands bears on the last one alone
  pub trailed : Make → Standing → ℕ → Value → Trailers → Step Holder
  trailed make at line v ast.no_trailer = give (holder.Plain v)
  trailed make at line v (ast.attribute name ast.no_trailer) = last_attribute at line v name
  trailed make at line v (ast.attribute name rest) = do
    w ← attribute_of line v name
    trailed make at line w rest
  trailed make at line v (ast.call arguments rest) = do
    w ← call_run make line v (arguments_run make (first_standing v) line no_arguments arguments)
    trailed make at line w rest
  trailed make at line v (ast.item index rest) = do
    w ← item_run line v (eval make index)
    trailed make at line w rest
  trailed make at line v (ast.slice low high rest) = do
    w ← slice_run line v (bound_run make low) (bound_run make high)
    trailed make at line w rest

  -- in the order of the text; the first one alone may be a fragment
  pub arguments_run : Make → Standing → ℕ → Arguments → ast.Arguments → Step Arguments
  arguments_run make at line so_far ast.no_argument = give so_far
  arguments_run make at line so_far (ast.placed (ast.Post begin of trailers) rest) = do
    more ← held_run so_far (eval make of >>= λ v. trailed make at begin v trailers)
    arguments_run make standing.Plain line more rest
  arguments_run make at line so_far (ast.placed e rest) = do
    more ← placed_run so_far (eval make e)
    arguments_run make standing.Plain line more rest
  arguments_run make at line so_far (ast.starred e rest) = do
    more ← starred_run line so_far (eval make e)
    arguments_run make standing.Plain line more rest
  arguments_run make at line so_far (ast.keyed name e rest) = do
    more ← named_run name so_far (eval make e)
    arguments_run make standing.Plain line more rest

-- what an expression gives where a fragment may stand
unfoldable pub hold : Make → Standing → Expr → Step Holder
hold make at (ast.Post line of trailers) = do
  v ← eval make of
  trailed make at line v trailers
hold make at e = plainly (eval make e)

-- ---- statements

unfoldable pub turn : ℕ → List (List ℕ) → Step (Unit {0}) → Value → Step (Unit {0})
turn line names body item = do
  _ ← spend line 1
  _ ← names_bound line names item
  body

unfoldable pub turns : ℕ → List (List ℕ) → Step (Unit {0}) → List Value → Step (Unit {0})
turns line names body [] = give tt
turns line names body (item ∷ items) = do
  _ ← turn line names body item
  turns line names body items

abbrev pub is_text : Expr → Bool
is_text (ast.Quoted line bytes) = true
is_text _ = false

-- a text that stands alone is not made
unfoldable pub run_alone : Make → Expr → Step (Unit {0})
run_alone make e m = if is_text e then give tt m else (eval make e >>= λ v. give tt) m

-- the object is run after the value
unfoldable pub place_bound : Make → ℕ → Place → Value → Step (Unit {0})
place_bound make line (ast.Named name) v = set_local line name v
place_bound make line (ast.Attribute of name) v = do
  h ← hold make standing.Place of
  bind_at line h name v

unfoldable pub name_added : ℕ → List ℕ → Step Value → Step (Unit {0})
name_added line name part = do
  a ← named line name
  b ← part
  v ← binary line op.Add a b
  set_local line name v

unfoldable pub fragment_added : ℕ → Holder → List ℕ → Step Value → Step (Unit {0})
fragment_added line h name part = do
  v ← part
  add_at line h name v

-- the sum of an attribute and what is added
unfoldable pub attribute_sum : ℕ → Holder → List ℕ → Step Value → Step Value
attribute_sum line h name part = do
  a ← read_at line h name
  b ← part
  binary line op.Add a b

-- `o.name = o.name + e`, where the object was run for the sum
unfoldable pub value_added : Make → ℕ → Expr → Holder → List ℕ → Step Value → Step (Unit {0})
value_added make line of h name part = do
  v ← attribute_sum line h name part
  place_bound make line (ast.Attribute of name) v

unfoldable pub object_added : Make → ℕ → Expr → List ℕ → Step Value → Holder → Step (Unit {0})
object_added make line of name part h m = if adds m h name then fragment_added line h name part m else value_added make line of h name part m

-- on a fragment the object is run, then what is added; elsewhere `p += e` is `p = p + e`
unfoldable pub place_added : Make → ℕ → Place → Expr → Step (Unit {0})
place_added make line (ast.Named name) e = name_added line name (eval make e)
place_added make line (ast.Attribute of name) e = do
  h ← hold make standing.Place of
  object_added make line of name (eval make e) h

unfoldable pub loop_run : ℕ → List (List ℕ) → Step (Unit {0}) → Value → Step (Unit {0})
loop_run line names body v = do
  items ← items_of line v
  turns line names body items

unfoldable mutual
  pub exec : Make → Stmt → Step (Unit {0})
  exec make (ast.Pass line) = spend line 1
  exec make (ast.Value line e) = do
    _ ← spend line 1
    run_alone make e
  exec make (ast.Bind line place e) = do
    _ ← spend line 1
    v ← eval make e
    place_bound make line place v
  exec make (ast.Add line place e) = do
    _ ← spend line 1
    place_added make line place e
  exec make (ast.If line branches rest) = do
    _ ← spend line 1
    branched make line branches (execs make rest)
  exec make (ast.For line names source body) = do
    _ ← spend line 1
    v ← eval make source
    loop_run line names (execs make body) v
  exec make ast.NoStmt = fault 0 kind.WrongKind

  pub execs : Make → Stmts → Step (Unit {0})
  execs make ast.done = give tt
  execs make (ast.then_ s ss) = do
    _ ← exec make s
    execs make ss

  -- all conditions are tested on the line of the `if`
  pub branched : Make → ℕ → Branches → Step (Unit {0}) → Step (Unit {0})
  branched make line ast.no_branch rest = rest
  branched make line (ast.branch condition body others) rest = do
    holds ← tested line (eval make condition)
    if holds then execs make body else branched make line others rest
