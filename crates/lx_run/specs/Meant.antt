-- What the nodes of a description mean, and that the parts of a node stand lower.
use Rattle.std.specs.Prelude.{◌≡◌, ◌≢◌, ℕ, ◌<◌, All, List, [], ◌∷◌, length, Option, Some, None, map}
use Rattle.lx_arena.specs.declared.Id.{Id}
use Rattle.lx_token.specs.declared.tokens.Token.{Token}
use Rattle.lx_pytree.specs.declared.tree.PyNodes.{PyNodes}
use Rattle.lx_syntax.specs.declared.forms.Argument.{Argument}
use Rattle.lx_syntax.specs.declared.forms.Argument.TheVariants as argument
use Rattle.lx_syntax.specs.declared.forms.Branch.{Branch}
use Rattle.lx_syntax.specs.declared.forms.Branching.{Branching}
use Rattle.lx_syntax.specs.declared.forms.ClassForm.{ClassForm}
use Rattle.lx_syntax.specs.declared.forms.Couple.{Couple}
use Rattle.lx_syntax.specs.declared.forms.ExprForm.{ExprForm}
use Rattle.lx_syntax.specs.declared.forms.ExprForm.TheVariants as form
use Rattle.lx_syntax.specs.declared.forms.Link.{Link}
use Rattle.lx_syntax.specs.declared.forms.Parameter.{Parameter}
use Rattle.lx_syntax.specs.declared.forms.Place.{Place}
use Rattle.lx_syntax.specs.declared.forms.Place.TheVariants as place
use Rattle.lx_syntax.specs.declared.forms.Program.{Program}
use Rattle.lx_syntax.specs.declared.forms.StmtForm.{StmtForm}
use Rattle.lx_syntax.specs.declared.forms.StmtForm.TheVariants as form_of
use Rattle.lx_syntax.specs.declared.forms.Trailer.{Trailer}
use Rattle.lx_syntax.specs.declared.forms.Trailer.TheVariants as trailer
use Rattle.lx_syntax.specs.Ast as ast
use Rattle.lx_syntax.specs.Convert.{text_of}
use Rattle.lx_syntax.specs.Forms.{argument_id, arguments_at, block_at, bound_at, branches_at, classes_of, expr_of, place_at, stmt_of}
use Rattle.lx_state.specs.declared.values.Value.{Value}
use Rattle.lx_state.specs.Step.{Step}
use Rattle.lx_ops.specs.declared.places.Holder.{Holder}
use Rattle.lx_ops.specs.Attributes.{attribute_of}
use Rattle.lx_builtins.specs.declared.arguments.Arguments.{Arguments}
use Rattle.lx_run.specs.declared.run.Standing.{Standing}
use Rattle.lx_run.specs.declared.reading.Operand.{Operand}
use Rattle.lx_run.specs.declared.reading.Operand.TheVariants as operand
use Rattle.lx_run.specs.declared.reading.Tail.{Tail}
use Rattle.lx_run.specs.declared.reading.Tail.TheVariants as tail
use Rattle.lx_run.specs.Calls.{Make, no_arguments}
use Rattle.lx_run.specs.Classes.{make_within}
use Rattle.lx_run.specs.Running.{arguments_run, bound_run, branched, call_run, eval, execs, first_standing, held_run, hold, item_run, kept, last_attribute, named_run, object_added, plainly, slice_run, starred_run, value_added}

-- calls of the program's classes, so many of which may still be made one within another
abbrev pub makes : Program → ℕ → Make
makes p levels = make_within (classes_of p) levels

abbrev pub texts : Program → List Token → List (List ℕ)
texts p tokens = map (text_of p.src) tokens

-- what a node gives where no fragment may stand
abbrev pub run_plain : Program → ℕ → Id PyNodes → Step Value
run_plain p levels id = eval (makes p levels) (expr_of p id.place)

abbrev pub hold_run : Program → ℕ → Standing → Id PyNodes → Step Holder
hold_run p levels at id = hold (makes p levels) at (expr_of p id.place)

abbrev pub argument_run : Program → ℕ → Standing → ℕ → Arguments → Argument → Step Arguments
argument_run p levels at line so_far (argument.Placed id) = held_run so_far (hold_run p levels at id)
argument_run p levels at line so_far (argument.Starred id) = starred_run line so_far (run_plain p levels id)
argument_run p levels at line so_far (argument.Keyed x id) = named_run (text_of p.src x) so_far (run_plain p levels id)

abbrev pub all_run : Program → ℕ → Standing → ℕ → List Argument → Step Arguments
all_run p levels at line arguments = arguments_run (makes p levels) at line no_arguments (arguments_at p.src (expr_of p) arguments)

abbrev pub bound_meant : Program → ℕ → Option (Id PyNodes) → Step (Option Value)
bound_meant p levels id = bound_run (makes p levels) (bound_at (expr_of p) id)

-- an attribute, a call or a subscript that isn't the last one
abbrev pub trailer_run : Program → ℕ → ℕ → Value → Trailer → Step Value
trailer_run p levels line v (trailer.Attribute x) = attribute_of line v (text_of p.src x)
trailer_run p levels line v (trailer.Call arguments) = call_run (makes p levels) line v (all_run p levels (first_standing v) line arguments)
trailer_run p levels line v (trailer.Item id) = item_run line v (run_plain p levels id)
trailer_run p levels line v (trailer.Slice low high) = slice_run line v (bound_meant p levels low) (bound_meant p levels high)

-- one that is
abbrev pub last_run : Program → ℕ → Standing → ℕ → Value → Trailer → Step Holder
last_run p levels at line v (trailer.Attribute x) = last_attribute at line v (text_of p.src x)
last_run p levels at line v x = plainly (trailer_run p levels line v x)

abbrev pub place_of : Program → Place → ast.Place
place_of p place = place_at p.src (expr_of p) place

-- what a comprehension keeps of an item
abbrev pub kept_of : Program → ℕ → ℕ → Id PyNodes → Option (Id PyNodes) → Step (Option Value)
kept_of p levels line item filter = kept (makes p levels) line (bound_at (expr_of p) filter) (run_plain p levels item)

-- a block of statements
abbrev pub block_run : Program → ℕ → List (Id PyNodes) → Step (Unit {0})
block_run p levels ids = execs (makes p levels) (block_at (stmt_of p) ids)

abbrev pub call_meant : Program → ℕ → ℕ → Value → List Argument → Step Value
call_meant p levels line callee arguments = call_run (makes p levels) line callee (all_run p levels (first_standing callee) line arguments)

-- what a statement adds to an attribute of an object that was run
abbrev pub value_meant : Program → ℕ → ℕ → Id PyNodes → Token → Id PyNodes → Holder → Step (Unit {0})
value_meant p levels line of x id h = value_added (makes p levels) line (expr_of p of.place) h (text_of p.src x) (run_plain p levels id)

abbrev pub object_meant : Program → ℕ → ℕ → Id PyNodes → Token → Id PyNodes → Holder → Step (Unit {0})
object_meant p levels line of x id h = object_added (makes p levels) line (expr_of p of.place) (text_of p.src x) (run_plain p levels id) h

abbrev pub branches_meant : Program → ℕ → ℕ → List Branch → List (Id PyNodes) → Step (Unit {0})
branches_meant p levels line branches rest = branched (makes p levels) line (branches_at (expr_of p) (stmt_of p) branches) (block_run p levels rest)

-- the first of some operands; others stand behind one that isn't the last
abbrev pub IsOperand : List (Id PyNodes) → Operand → Type 0
IsOperand ids operand.Nothing = ids ≡ []
IsOperand ids (operand.Last id) = ids ≡ id ∷ []
IsOperand ids (operand.More id rest) = (ids ≡ id ∷ rest.now) × (rest.now ≢ []) × (length rest.now < length ids)

abbrev pub IsTail : List Trailer → Tail → Type 0
IsTail xs tail.Nothing = xs ≡ []
IsTail xs (tail.Last x) = xs ≡ x.now ∷ []
IsTail xs (tail.More x rest) = (xs ≡ x.now ∷ rest.now) × (rest.now ≢ []) × (length rest.now < length xs)

-- ---- lower places

abbrev pub IsLower : ℕ → Id PyNodes → Type 0
IsLower n id = id.place < n

abbrev pub AreLower : ℕ → List (Id PyNodes) → Type 0
AreLower n ids = All (IsLower n) ids

abbrev pub IsLowerOption : ℕ → Option (Id PyNodes) → Type 0
IsLowerOption n None = Unit {0}
IsLowerOption n (Some id) = id.place < n

abbrev pub IsLowerCouple : ℕ → Couple → Type 0
IsLowerCouple n c = (c.first.place < n) × (c.second.place < n)

abbrev pub IsLowerBranching : ℕ → Branching → Type 0
IsLowerBranching n b = (b.condition.place < n) × (b.value.place < n)

abbrev pub IsLowerLink : ℕ → Link → Type 0
IsLowerLink n l = l.operand.place < n

abbrev pub IsLowerArgument : ℕ → Argument → Type 0
IsLowerArgument n a = (argument_id a).place < n

abbrev pub IsLowerTrailer : ℕ → Trailer → Type 0
IsLowerTrailer n (trailer.Attribute x) = Unit {0}
IsLowerTrailer n (trailer.Call arguments) = All (IsLowerArgument n) arguments
IsLowerTrailer n (trailer.Item id) = id.place < n
IsLowerTrailer n (trailer.Slice low high) = IsLowerOption n low × IsLowerOption n high

abbrev pub IsLowerBranch : ℕ → Branch → Type 0
IsLowerBranch n b = (b.condition.place < n) × AreLower n b.body

abbrev pub IsLowerPlace : ℕ → Place → Type 0
IsLowerPlace n (place.Name x) = Unit {0}
IsLowerPlace n (place.Attribute of x) = of.place < n

-- the parts of a node that is an expression stand lower than n
abbrev pub IsLowerExpr : ℕ → ExprForm → Type 0
IsLowerExpr n (form.Same id) = id.place < n
IsLowerExpr n (form.Tuple ids) = AreLower n ids
IsLowerExpr n (form.Listed ids) = AreLower n ids
IsLowerExpr n (form.Comprehension item names source filter) = (item.place < n) × (source.place < n) × IsLowerOption n filter
IsLowerExpr n (form.Dictionary pairs) = All (IsLowerCouple n) pairs
IsLowerExpr n (form.Choice value rest) = (value.place < n) × All (IsLowerBranching n) rest
IsLowerExpr n (form.Either ids) = AreLower n ids
IsLowerExpr n (form.Both ids) = AreLower n ids
IsLowerExpr n (form.Not words of) = of.place < n
IsLowerExpr n (form.Compare by_ left right) = (left.place < n) × (right.place < n)
IsLowerExpr n (form.IsNothing negated of) = of.place < n
IsLowerExpr n (form.Chain first rest) = (first.place < n) × All (IsLowerLink n) rest
IsLowerExpr n (form.Prefixed signs of) = of.place < n
IsLowerExpr n (form.Power base exponent) = (base.place < n) × (exponent.place < n)
IsLowerExpr n (form.Post of trailers) = (of.place < n) × All (IsLowerTrailer n) trailers
IsLowerExpr n _ = Unit {0}

-- the same of one that is a statement
abbrev pub IsLowerStmt : ℕ → StmtForm → Type 0
IsLowerStmt n (form_of.Value id) = id.place < n
IsLowerStmt n (form_of.Bind place value) = IsLowerPlace n place × (value.place < n)
IsLowerStmt n (form_of.Add place value) = IsLowerPlace n place × (value.place < n)
IsLowerStmt n (form_of.If branches rest) = All (IsLowerBranch n) branches × AreLower n rest
IsLowerStmt n (form_of.For names source body) = (source.place < n) × AreLower n body
IsLowerStmt n _ = Unit {0}

abbrev pub IsLowerParam : ℕ → Parameter → Type 0
IsLowerParam n p = IsLowerOption n p.default

-- the parts of a class
abbrev pub IsLowerClass : ℕ → ClassForm → Type 0
IsLowerClass n c = All (IsLowerParam n) c.params × AreLower n c.body
